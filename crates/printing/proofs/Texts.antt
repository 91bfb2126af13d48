-- The text of a node is what its line says of the texts of the nodes that it names, whatever place the line stands at; no text is empty.
use Prim.Native.Nat.{ℕ, zero, suc, ◌≤◌, ◌<◌}
use mathlib.Core.Path.{◌≡◌, refl, sym, ap, ap₂, ◌∙◌}
use mathlib.Core.Logic.{inl, inr, ⊎_elim}
use mathlib.Core.List.{List, ◌∷◌, ◌++◌}
use native.Mathlib.Omega.{arith}
use borrow.Author.Tests.{eq-eqb, ne_eqb}
use lib.ListN.{length}
use Rattle.aldlf.specs.Sheet.{Sheet, Line, T, F, P, N, A, O, D, B}
use Rattle.aldlf.proofs.ByLine.{Known}
use Rattle.sheet.proofs.Bools.{same}
use Rattle.printing.specs.Print.{bracketed, marked, line_text, texts_below, node_text}

module _ (S : Sheet) where
  text_line : (k : ℕ) → node_text S k ≡ line_text (texts_below S k) (S.line k)
  unfolding texts_below
  text_line k = rw (eq-eqb k k refl, texts_below) refl

  text_skip : (n k : ℕ) → ¬ (k ≡ n) → texts_below S (suc n) k ≡ texts_below S n k
  unfolding texts_below
  text_skip n k h = rw (ne_eqb k n h, texts_below) refl

  -- a node below n has its own text
  text_below : (n k : ℕ) → k < n → texts_below S n k ≡ node_text S k
  text_below zero k l = absurd (omega arith)
  text_below (suc n) k l = ⊎_elim
      (λ (e : k ≡ n). ap (λ (j : ℕ). texts_below S (suc j) k) (sym e))
      (λ h. text_skip n k h ∙ text_below n k (omega (arith, h)))
      (same k n)

  -- THE TEXT OF NODE k, by its line alone
  pub text_is : (k : ℕ) (l : Line) → S.line k ≡ l → Known S k l → node_text S k ≡ line_text (node_text S) l
  text_is k l e w = text_line k ∙ ap (line_text (texts_below S k)) e ∙ go l w
    where
      of : (a : ℕ) → a < k → texts_below S k a ≡ node_text S a
      of a h = text_below k a h

      go : (l : Line) → Known S k l → line_text (texts_below S k) l ≡ line_text (node_text S) l
      go T w = refl
      go F w = refl
      go (P f) w = refl
      go (N a) w = ap (λ (x : List ℕ). bracketed (33 ∷ x)) (of a (w a refl))
      go (A a b) w = ap₂ (λ (x y : List ℕ). bracketed (x ++ (38 ∷ y))) (of a (w a (inl refl))) (of b (w b (inr refl)))
      go (O a b) w = ap₂ (λ (x y : List ℕ). bracketed (x ++ (124 ∷ y))) (of a (w a (inl refl))) (of b (w b (inr refl)))
      go (D m a) w = ap (λ (x : List ℕ). bracketed (marked 60 m 62 ++ x)) (of a (w a (inl refl)))
      go (B m a) w = ap (λ (x : List ℕ). bracketed (marked 91 m 93 ++ x)) (of a (w a (inl refl)))

  -- no text is empty
  pub text_some : (k : ℕ) → 1 ≤ length (node_text S k)
  text_some k = let e = ap length (text_line k) in let s = some (S.line k) in omega arith
    where
      some : (l : Line) → 1 ≤ length (line_text (texts_below S k) l)
      some T = omega arith
      some F = omega arith
      some (P f) = omega arith
      some (N a) = omega arith
      some (A a b) = omega arith
      some (O a b) = omega arith
      some (D m a) = omega arith
      some (B m a) = omega arith
