-- The verdict on a node of a whole log is what its line says of the verdicts, whatever place the line stands at.
use Prim.Native.Nat.{ℕ, ◌<◌}
use mathlib.Core.Path.{◌≡◌, refl, ap, ap₂, ◌∙◌}
use mathlib.Core.Logic.{◌⊎◌, inl, inr}
use mathlib.Core.Bool.{Bool, true, false, not, ◌&&◌, ◌||◌}
use mathlib.Core.List.{List}
use lib.ListN.{length}
use Rattle.aldlf.specs.Sheet.{Sheet, Line, T, F, P, N, A, O, D, B}
use Rattle.aldlf.specs.Stands.{Tests, Names}
use Rattle.aldlf.specs.Verdict.{facing, goal, modal, says, judge, plain_line, plain, verdict}
use Rattle.aldlf.proofs.Laws.{judge_at, judge_below}
use Rattle.aldlf.proofs.Across.{reached_cong}

-- What a line says at entry i of a whole log, where h has the verdicts on the nodes that it names.
abbrev pub line_says : Sheet → List ℕ → (ℕ → ℕ → Bool) → Line → ℕ → Bool
line_says S log h l i = says S log (λ k s. plain_line l) h 0 l i

-- A line names only nodes below k, and so do the edges of its automaton.
abbrev pub Known : Sheet → ℕ → Line → Type 0
Known S k l = (x : ℕ) → Names S l x → x < k

module _ (S : Sheet) (log : List ℕ) (k : ℕ) where
  abbrev v : ℕ → ℕ → Bool
  v = verdict S log

  abbrev h : ℕ → ℕ → Bool
  h = judge S log (plain S) k

  below : (a i : ℕ) → a < k → h a i ≡ v a i
  below a i l = judge_below S log (plain S) k a i l

  modal-line : (want : Bool) (m a : ℕ) (b : Bool) → plain_line (S.line k) ≡ b → ((x : ℕ) → (a ≡ x) ⊎ Tests S m x → x < k) → (s i : ℕ) → i < length log
      → modal S (length log) h (plain S) k want m a s i ≡ modal S (length log) v (λ k s. b) 0 want m a s i
  modal-line want m a b e on s i w = ap (facing want)
      (reached_cong S (length log) m h v (goal S h want m a) (goal S v want m a) (λ u. facing want (plain S k u)) (λ u. facing want b)
      (λ c j lo hi _. below (S.edge c).test j (on (S.edge c).test (inr (c, (lo, hi), refl))))
      (λ u j _. ap (λ (z : Bool). (S.automaton m).accepts u && facing want z) (below a j (on a (inl refl))))
      (λ c _ _. ap (facing want) e) s i w)

  says-line : (l : Line) → S.line k ≡ l → Known S k l → (i : ℕ) → i < length log → says S log (plain S) h k l i ≡ line_says S log v l i
  says-line T e w i b = refl
  says-line F e w i b = refl
  says-line (P f) e w i b = refl
  says-line (N a) e w i b = ap not (below a i (w a refl))
  says-line (A a c) e w i b = ap₂ ◌&&◌ (below a i (w a (inl refl))) (below c i (w c (inr refl)))
  says-line (O a c) e w i b = ap₂ ◌||◌ (below a i (w a (inl refl))) (below c i (w c (inr refl)))
  says-line (D m a) e w i b = modal-line true m a false (ap plain_line e) w (S.automaton m).start i b
  says-line (B m a) e w i b = modal-line false m a true (ap plain_line e) w (S.automaton m).start i b

  -- the verdict on node k, by its line alone
  pub verdict-line : (l : Line) → S.line k ≡ l → Known S k l → (i : ℕ) → i < length log → verdict S log k i ≡ line_says S log v l i
  verdict-line l e w i b = judge_at S log (plain S) k i ∙ ap (λ (z : Line). says S log (plain S) h k z i) e ∙ says-line l e w i b
