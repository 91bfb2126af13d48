-- THE WALK THAT IS SHOWN: at which verdicts there is one, that it is the best walk, and how long it can be.
use Prim.Native.Nat.{ℕ, ◌*◌, ◌≤◌, ◌<◌}
use native.Mathlib.Omega.{arith}
use native.Mathlib.Nat.{mul-le-mul}
use mathlib.Core.Path.{◌≡◌, refl, sym, ap, ◌∙◌}
use mathlib.Core.Logic.{◌⊎◌, inl, inr}
use mathlib.Core.Bool.{Bool, true, false, not, false≢true}
use mathlib.Core.List.{List, ◌++◌}
use mathlib.Core.Option.{Option, none, some}
use borrow.Author.Tests.{le-leb, lt-ltb, leb-true, ltb-true}
use lib.Dec.{eqb, leb, ltb}
use lib.ListN.{length, drop}
use Rattle.aldlf.specs.Sheet.{Sheet, Line, T, F, P, N, A, O, D, B, by_mode, sheet_of}
use Rattle.aldlf.specs.Parts.{Sound, counts}
use Rattle.aldlf.specs.Verdict.{verdict, plain}
use Rattle.aldlf.specs.Outcomes.{verdict_at, log_fits, log_words}
use Rattle.aldlf.specs.Walks.{Best, walk_of, walk_outcome, present, edges_of}
use Rattle.aldlf.specs.Walks as walks
use Rattle.aldlf.specs.declared.Table.{Table}
use Rattle.aldlf.proofs.Bools.{and_right, bool_cases, lt-or-le}
use Rattle.aldlf.proofs.Words.{words_bit}
use Rattle.aldlf.proofs.Shortest.{walk_iff, best_short, shown_iff}
use Rattle.sheet.specs.Given.{well_formed}
use Rattle.sheet.proofs.Facts.{table_facts}
use Rattle.sheet.proofs.Sound.{sound}
use Rattle.walk.proofs.Questions.{shown_by, by_room, outcome_0, outcome_38, outcome_40, outcome_walk}

-- a line that is no D and no B is shown nowhere
no_modal : (l : Line) (v : Bool) → by_mode (λ m a. true) (λ m a. true) false l ≡ false → by_mode (λ m a. v) (λ m a. not v) false l ≡ false
no_modal T v e = refl
no_modal F v e = refl
no_modal (P f) v e = refl
no_modal (N a) v e = refl
no_modal (A a b) v e = refl
no_modal (O a b) v e = refl
no_modal (D m a) v e = absurd (false≢true (sym e))
no_modal (B m a) v e = absurd (false≢true (sym e))

pub present-some : (o : Option (List ℕ)) → present o ≡ true → o ≡ some (edges_of o)
present-some none e = absurd (false≢true e)
present-some (some es) e = refl

-- of a sound sheet, a bound in states and entries is at most one in the limits
module _ (S : Sheet) (fine : Sound S) (k n c : ℕ) (few : n ≤ 512) where
  abbrev Bound : Line → Type 0
  Bound l = by_mode (λ m a. c < (S.automaton m).states * n) (λ m a. c < (S.automaton m).states * n) ⊥ l

  in_limits : (states : ℕ) → (ltb 16 states ≡ true → counts S (S.line k) 16 ≡ true) → c < states * n → c < 8192
  in_limits states f l = go (lt-or-le 16 states)
    where
      go : (16 < states) ⊎ (states ≤ 16) → c < 8192
      go (inl x) = absurd (let y = (fine.fits k 16 (f (lt-ltb 16 states x))).1 in omega arith)
      go (inr x) = let y = mul-le-mul {n₁ = states} {m₁ = n} {n₂ = 16} {m₂ = 512} x few in omega arith

  limit_of : (l : Line) → S.line k ≡ l → Bound l → c < 8192
  limit_of T e b = absurd b
  limit_of F e b = absurd b
  limit_of (P f) e b = absurd b
  limit_of (N a) e b = absurd b
  limit_of (A a d) e b = absurd b
  limit_of (O a d) e b = absurd b
  limit_of (D m a) e b = in_limits (S.automaton m).states (λ x. ap (λ (l : Line). counts S l 16) e ∙ x) b
  limit_of (B m a) e b = in_limits (S.automaton m).states (λ x. ap (λ (l : Line). counts S l 16) e ∙ x) b

nodes_in : (t : Table) (k : ℕ) → k < t.used.nodes → k < (sheet_of t).nodes
unfolding sheet_of
nodes_in t k l = l

module _ (t : Table) (log : List ℕ) (k i : ℕ) where
  abbrev S : Sheet
  S = sheet_of t

  few : log_fits log ≡ true → length log ≤ 512
  few f = leb-true (length log) 512 (and_right (leb 1 (length log)) (leb (length log) 512) f)

  -- the walk that there is: the best one, and short
  best : (li : i < length log) (es : List ℕ) → walk_of S log k i ≡ some es → Best S log k i es
  best li es p = (walk_iff S log k i li es).0 p

  pub short : well_formed t ≡ true → log_fits log ≡ true → i < length log → (es : List ℕ) → walk_of S log k i ≡ some es → length es < 8192
  short w f li es p =
      limit_of S (sound t (table_facts t w)) k (length log) (length es) (few f) (S.line k) refl (best_short S log k i li (sound t (table_facts t w)) es (best li es p))

  -- A walk that is shown is the best walk: its edges in the first places, the rest as lent; and it has fewer edges than states times entries.
  pub shown_best : (buffer : List ℕ) → (walk_outcome (well_formed t) S log k i buffer).number ≡ 0
      → (es : List ℕ) × Best S log k i es × (walk_outcome (well_formed t) S log k i buffer ≡ record { number = 0; count = length es; buffer = es ++ drop (length es) buffer })
      × by_mode (λ m a. length es < (S.automaton m).states * length log) (λ m a. length es < (S.automaton m).states * length log) ⊥ (S.line k)
  shown_best buffer e =
      let ((w, f, entry, there, long), is) = outcome_0 S log k i buffer (well_formed t) e in
      let li = ltb-true i (length log) entry in
      let es = edges_of (walk_of S log k i) in
      let b = best li es (present-some (walk_of S log k i) there) in
      (es, b, is, best_short S log k i li (sound t (table_facts t w)) es b)

  -- So a buffer of 8,191 places is never too short, whatever the table.
  pub never_40 : (buffer : List ℕ) → 8191 ≤ length buffer → (walk_outcome (well_formed t) S log k i buffer).number ≡ 40 → ⊥
  never_40 buffer room e =
      let ((w, f, entry, there), none_left) = outcome_40 S log k i buffer (well_formed t) e in
      let l = short w f (ltb-true i (length log) entry) (edges_of (walk_of S log k i)) (present-some (walk_of S log k i) there) in
      false≢true (sym none_left ∙ le-leb (length (edges_of (walk_of S log k i))) (length buffer) (omega arith))

  -- At an accepted table and log a walk is shown, given room, exactly where a D node's bit is 1 or a B node's bit is 0.
  pub shown_where : well_formed t ≡ true → log_fits log ≡ true → k < t.used.nodes → i < length log → (buffer : List ℕ) → 8191 ≤ length buffer
      → eqb (walk_outcome (well_formed t) S log k i buffer).number 0 ≡ by_mode (λ m a. verdict_at (log_words S log) i k) (λ m a. not (verdict_at (log_words S log) i k)) false (S.line k)
  shown_where w f lk li buffer room =
      ap (λ (g : Bool). eqb (walk_outcome g S log k i buffer).number 0) w ∙ (go (bool_cases (by_mode (λ m a. true) (λ m a. true) false (S.line k)))
      ∙ ap (λ (v : Bool). by_mode (λ m a. v) (λ m a. not v) false (S.line k)) (sym (words_bit S (plain S) log k i on_sheet (omega (arith, lk, (table_facts t w).nodes≤)) li)))
    where
      on_sheet : k < S.nodes
      on_sheet = nodes_in t k lk

      by-present : (o : Option (List ℕ)) → walk_of S log k i ≡ o → eqb (shown_by o buffer).number 0 ≡ present o
      by-present none p = refl
      by-present (some es) p =
          let l = short w f li es p in
          ap (λ (b : Bool). eqb (by_room b es buffer).number 0) (le-leb (length es) (length buffer) (omega arith))

      go : (by_mode (λ m a. true) (λ m a. true) false (S.line k) ≡ true) ⊎ (by_mode (λ m a. true) (λ m a. true) false (S.line k) ≡ false)
          → eqb (walk_outcome true S log k i buffer).number 0 ≡ by_mode (λ m a. verdict S log k i) (λ m a. not (verdict S log k i)) false (S.line k)
      go (inl m) =
          ap (λ (x : walks.Shown). eqb x.number 0) (outcome_walk S log k i buffer f (lt-ltb k S.nodes on_sheet) (lt-ltb i (length log) li) m)
          ∙ (by-present (walk_of S log k i) refl ∙ shown_iff S log k i li)
      go (inr m) =
          ap (λ (x : walks.Shown). eqb x.number 0) (outcome_38 S log k i buffer f (lt-ltb k S.nodes on_sheet) (lt-ltb i (length log) li) m)
          ∙ sym (no_modal (S.line k) (verdict S log k i) m)
