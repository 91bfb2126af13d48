-- A LINE BY ITS LETTER: what holds of F, and of each other line where the letter is that line's, holds of the line that a letter's byte and two operands are.
use Prim.Native.Nat.{ℕ}
use mathlib.Core.Path.{◌≡◌, refl, sym, ◌∙◌}
use mathlib.Core.Logic.{◌⊎◌, inl, inr}
use mathlib.Core.Bool.{Bool, true, false, cond, ◌||◌, true≢false}
use lib.Dec.{eqb}
use borrow.Author.Tests.{eqb-true, eq-eqb}
use Rattle.aldlf.specs.Constants.{letter_t, letter_p, letter_n, letter_a, letter_o, letter_d, letter_b}
use Rattle.aldlf.specs.Sheet.{Line, T, F, P, N, A, O, D, B, line_of}
use Rattle.aldlf.proofs.Bools.{or_cases, or_left, or_right}

module _ (X : Line → Type 0) (kind a b : ℕ) (f : X F) where
  pub by_letter :
      (kind ≡ letter_t → X T) → (kind ≡ letter_p → X (P a)) → (kind ≡ letter_n → X (N a)) → (kind ≡ letter_a → X (A a b)) → (kind ≡ letter_o → X (O a b)) → (kind ≡ letter_d → X (D a b))
      → (kind ≡ letter_b → X (B a b)) → X (line_of kind a b)
  by_letter t p n x o d m =
      go (eqb kind letter_t) (eqb kind letter_p) (eqb kind letter_n) (eqb kind letter_a) (eqb kind letter_o) (eqb kind letter_d) (eqb kind letter_b)
      (λ e. t (eqb-true kind letter_t e)) (λ e. p (eqb-true kind letter_p e)) (λ e. n (eqb-true kind letter_n e)) (λ e. x (eqb-true kind letter_a e)) (λ e. o (eqb-true kind letter_o e)) (λ e. d (eqb-true kind letter_d e))
      (λ e. m (eqb-true kind letter_b e))
    where
      go : (b₁ b₂ b₃ b₄ b₅ b₆ b₇ : Bool) → (b₁ ≡ true → X T) → (b₂ ≡ true → X (P a)) → (b₃ ≡ true → X (N a)) → (b₄ ≡ true → X (A a b)) → (b₅ ≡ true → X (O a b)) → (b₆ ≡ true → X (D a b))
          → (b₇ ≡ true → X (B a b)) → X (cond b₁ T (cond b₂ (P a) (cond b₃ (N a) (cond b₄ (A a b) (cond b₅ (O a b) (cond b₆ (D a b) (cond b₇ (B a b) F)))))))
      go true b₂ b₃ b₄ b₅ b₆ b₇ t p n x o d m = t refl
      go false true b₃ b₄ b₅ b₆ b₇ t p n x o d m = p refl
      go false false true b₄ b₅ b₆ b₇ t p n x o d m = n refl
      go false false false true b₅ b₆ b₇ t p n x o d m = x refl
      go false false false false true b₆ b₇ t p n x o d m = o refl
      go false false false false false true b₇ t p n x o d m = d refl
      go false false false false false false true t p n x o d m = m refl
      go false false false false false false false t p n x o d m = f

-- two letters asked at once
pub either_letter : (k x y : ℕ) → eqb k x || eqb k y ≡ true → (k ≡ x) ⊎ (k ≡ y)
either_letter k x y e = go (or_cases (eqb k x) (eqb k y) e)
  where
    go : (eqb k x ≡ true) ⊎ (eqb k y ≡ true) → (k ≡ x) ⊎ (k ≡ y)
    go (inl q) = inl (eqb-true k x q)
    go (inr q) = inr (eqb-true k y q)

pub neither_letter : (k x y : ℕ) → eqb k x || eqb k y ≡ false → (¬ (k ≡ x)) × (¬ (k ≡ y))
neither_letter k x y e = (λ q. true≢false (sym (or_left (eqb k y) (eq-eqb k x q)) ∙ e), λ q. true≢false (sym (or_right (eqb k x) (eq-eqb k y q)) ∙ e))
