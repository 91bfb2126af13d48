-- What is reached in one sheet and in another is the same where their automata, edges, tests, goals and exits agree: round by round, on Bools.
use Prim.Native.Nat.{ℕ, zero, suc, ◌+◌, ◌*◌, ◌≤◌, ◌<◌}
use native.Mathlib.Omega.{arith}
use mathlib.Core.Path.{◌≡◌, refl, ap, ap₂, ◌∙◌}
use mathlib.Core.Bool.{Bool, true, false, ◌&&◌, ◌||◌}
use lib.Dec.{eqb, ltb}
use borrow.Author.Tests.{ltb-true}
use Rattle.aldlf.specs.Sheet.{Sheet, Automaton, Dir, ahead, back, stay}
use Rattle.aldlf.specs.Stands.{any_below}
use Rattle.aldlf.specs.Verdict.{land, along, round, within, configurations, reached}

any_cong : (n : ℕ) (p q : ℕ → Bool) → ((c : ℕ) → c < n → p c ≡ q c) → any_below n p ≡ any_below n q
any_cong zero p q f = refl
any_cong (suc n) p q f = ap₂ ◌||◌ (f n (omega arith)) (any_cong n p q (λ c l. f c (omega arith)))

land_cong : (n : ℕ) (d : Dir) (i : ℕ) (r r' : ℕ → Bool) (o o' : Bool) → i < n → ((j : ℕ) → j < n → r j ≡ r' j) → o ≡ o' → land n d i r o ≡ land n d i r' o'
land_cong n ahead i r r' o o' l f e = go (ltb (suc i) n) refl
  where
    go : (b : Bool) → ltb (suc i) n ≡ b → ◌≡◌ {A = Bool} (elim b [ true ↦ r (suc i) | false ↦ o ]) (elim b [ true ↦ r' (suc i) | false ↦ o' ])
    go true q = f (suc i) (ltb-true (suc i) n q)
    go false q = e
land_cong n back zero r r' o o' l f e = e
land_cong n back (suc i) r r' o o' l f e = f i (omega arith)
land_cong n stay i r r' o o' l f e = f i l

-- Edge e of two sheets goes from the same state to the same state the same way.
pub record SameEdge (S S' : Sheet) (e : ℕ) : Type 0 where
  pub from : (S.edge e).from ≡ (S'.edge e).from
  pub dir : (S.edge e).dir ≡ (S'.edge e).dir
  pub to : (S.edge e).to ≡ (S'.edge e).to

module _ (S S' : Sheet) (n m : ℕ) (h h' g g' : ℕ → ℕ → Bool) (x x' : ℕ → Bool)
    (automata : S.automaton m ≡ S'.automaton m)
    (edges : (e : ℕ) → SameEdge S S' e)
    (tests : (e i : ℕ) → (S.automaton m).first ≤ e → e < (S.automaton m).first + (S.automaton m).count → i < n → h (S.edge e).test i ≡ h' (S'.edge e).test i)
    (goals : (s i : ℕ) → i < n → g s i ≡ g' s i)
    (exits : (e : ℕ) → (S.automaton m).first ≤ e → e < (S.automaton m).first + (S.automaton m).count → x (S.edge e).to ≡ x' (S.edge e).to) where
  along_across : (r r' : ℕ → ℕ → Bool) → ((s i : ℕ) → i < n → r s i ≡ r' s i) → (s i e : ℕ) → i < n → (S.automaton m).first ≤ e → e < (S.automaton m).first + (S.automaton m).count
      → along S n m h g x r s i e ≡ along S' n m h' g' x' r' s i e
  along_across r r' f s i e l lo hi =
      let y = S.edge e in
      let y' = S'.edge e in
      ap₂ ◌&&◌ (ap (λ (z : ℕ). eqb z s) (edges e).from)
      (ap₂ ◌&&◌ (tests e i lo hi l)
      (land_cong n y.dir i (r y.to) (r' y.to) (x y.to) (x' y.to) l (f y.to) (exits e lo hi)
      ∙ ap (λ (d : Dir). land n d i (r' y.to) (x' y.to)) (edges e).dir
      ∙ ap (λ (z : ℕ). land n y'.dir i (r' z) (x' z)) (edges e).to))

  round_across : (r r' : ℕ → ℕ → Bool) → ((s i : ℕ) → i < n → r s i ≡ r' s i) → (s i : ℕ) → i < n → round S n m h g x r s i ≡ round S' n m h' g' x' r' s i
  round_across r r' f s i l =
      ap₂ ◌||◌ (goals s i l)
      (any_cong (S.automaton m).count (λ c. along S n m h g x r s i ((S.automaton m).first + c)) (λ c. along S' n m h' g' x' r' s i ((S.automaton m).first + c))
      (λ c k. along_across r r' f s i ((S.automaton m).first + c) l (omega arith) (omega arith))
      ∙ ap (λ (a : Automaton). any_below a.count (λ c. along S' n m h' g' x' r' s i (a.first + c))) automata)

  within_across : (f s i : ℕ) → i < n → within S n m h g x f s i ≡ within S' n m h' g' x' f s i
  within_across zero s i l = refl
  within_across (suc f) s i l = round_across (within S n m h g x f) (within S' n m h' g' x' f) (within_across f) s i l

  -- the same is reached
  pub reached_across : (s i : ℕ) → i < n → reached S n m h g x s i ≡ reached S' n m h' g' x' s i
  reached_across s i l =
      within_across (configurations S n m) s i l ∙ ap (λ (a : Automaton). within S' n m h' g' x' (suc a.count * n) s i) automata

-- what is reached in one sheet depends only on the tests, goals and exits that edges can meet
pub reached_cong : (S : Sheet) (n m : ℕ) (h h' g g' : ℕ → ℕ → Bool) (x x' : ℕ → Bool)
    → ((e i : ℕ) → (S.automaton m).first ≤ e → e < (S.automaton m).first + (S.automaton m).count → i < n → h (S.edge e).test i ≡ h' (S.edge e).test i)
    → ((s i : ℕ) → i < n → g s i ≡ g' s i)
    → ((e : ℕ) → (S.automaton m).first ≤ e → e < (S.automaton m).first + (S.automaton m).count → x (S.edge e).to ≡ x' (S.edge e).to)
    → (s i : ℕ) → i < n → reached S n m h g x s i ≡ reached S n m h' g' x' s i
reached_cong S n m h h' g g' x x' = reached_across S S n m h h' g g' x x' refl (λ e. record { from = refl; dir = refl; to = refl })
