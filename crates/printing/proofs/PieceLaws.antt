-- The pieces of a line's text by its letter, and how many bytes they have.
use Prim.Native.Nat.{ℕ, ◌+◌, ◌/◌, ◌≤◌, ◌<◌}
use mathlib.Core.Path.{◌≡◌, refl, sym, ap, ◌∙◌}
use mathlib.Core.Bool.{Bool, true, false, cond}
use mathlib.Core.List.{List, [], ◌∷◌}
use native.Mathlib.Omega.{arith}
use native.Mathlib.Nat.{div-add-mod'}
use borrow.Author.Tests.{eq-eqb, ne_eqb}
use lib.Dec.{eqb}
use lib.ListN.{length, length-append}
use Rattle.aldlf.specs.Constants.{letter_t, letter_p, letter_n, letter_a, letter_o, letter_d, letter_b}
use Rattle.aldlf.specs.Sheet.{T, F, P, line_of}
use Rattle.aldlf.specs.declared.NodeLine.{NodeLine}
use Rattle.appending.specs.Appending.{decimal}
use Rattle.appending.proofs.Decimals.{decimal_one, decimal_two, decimal_more}
use Rattle.printing.specs.Print.{true_text, false_text, marked, line_text}
use Rattle.printing.specs.Pieces.{leaf_text, prefix_text, operand_of, operator_of}

module _ (x : NodeLine) where
  pub leaf_true : x.kind ≡ letter_t → true_text ≡ leaf_text x
  unfolding leaf_text
  leaf_true e = rw (eq-eqb x.kind letter_t e) refl

  pub leaf_fact : ¬ (x.kind ≡ letter_t) → x.kind ≡ letter_p → 102 ∷ decimal x.a ≡ leaf_text x
  unfolding leaf_text
  leaf_fact n e = rw (ne_eqb x.kind letter_t n, eq-eqb x.kind letter_p e) refl

  pub leaf_false : ¬ (x.kind ≡ letter_t) → ¬ (x.kind ≡ letter_p) → false_text ≡ leaf_text x
  unfolding leaf_text
  leaf_false n m = rw (ne_eqb x.kind letter_t n, ne_eqb x.kind letter_p m) refl

  -- a line of another letter than these five is a leaf
  pub leaf_line : (of : ℕ → List ℕ) → ¬ (x.kind ≡ letter_n) → ¬ (x.kind ≡ letter_a) → ¬ (x.kind ≡ letter_o) → ¬ (x.kind ≡ letter_d) → ¬ (x.kind ≡ letter_b)
      → line_text of (line_of x.kind x.a x.b) ≡ leaf_text x
  unfolding leaf_text
  leaf_line of n a o d b =
      rw (ne_eqb x.kind letter_n n, ne_eqb x.kind letter_a a, ne_eqb x.kind letter_o o, ne_eqb x.kind letter_d d, ne_eqb x.kind letter_b b)
      (go (eqb x.kind letter_t) (eqb x.kind letter_p))
    where
      go : (p q : Bool) → line_text of (cond p T (cond q (P x.a) F)) ≡ cond p true_text (cond q (102 ∷ decimal x.a) false_text)
      go true q = refl
      go false true = refl
      go false false = refl

  pub prefix_not : x.kind ≡ letter_n → 33 ∷ [] ≡ prefix_text x
  unfolding prefix_text
  prefix_not e = rw (eq-eqb x.kind letter_n e) refl

  pub prefix_some : ¬ (x.kind ≡ letter_n) → x.kind ≡ letter_d → marked 60 x.a 62 ≡ prefix_text x
  unfolding prefix_text
  prefix_some n e = rw (ne_eqb x.kind letter_n n, eq-eqb x.kind letter_d e) refl

  pub prefix_every : ¬ (x.kind ≡ letter_n) → ¬ (x.kind ≡ letter_d) → marked 91 x.a 93 ≡ prefix_text x
  unfolding prefix_text
  prefix_every n d = rw (ne_eqb x.kind letter_n n, ne_eqb x.kind letter_d d) refl

  pub operand_first : x.kind ≡ letter_n → x.a ≡ operand_of x
  unfolding operand_of
  operand_first e = rw (eq-eqb x.kind letter_n e) refl

  pub operand_second : ¬ (x.kind ≡ letter_n) → x.b ≡ operand_of x
  unfolding operand_of
  operand_second n = rw (ne_eqb x.kind letter_n n) refl

  pub operator_and : x.kind ≡ letter_a → 38 ≡ operator_of x
  unfolding operator_of
  operator_and e = rw (eq-eqb x.kind letter_a e) refl

  pub operator_or : ¬ (x.kind ≡ letter_a) → 124 ≡ operator_of x
  unfolding operator_of
  operator_or n = rw (ne_eqb x.kind letter_a n) refl

-- how many digits
pub digits_one : (n : ℕ) → n < 10 → 1 ≡ length (decimal n)
digits_one n h = sym (ap length (decimal_one n h))

pub digits_two : (n : ℕ) → 10 ≤ n → n < 100 → 2 ≡ length (decimal n)
digits_two n l h = sym (ap length (decimal_two n l h))

pub digits_three : (n : ℕ) → 100 ≤ n → n < 1000 → 3 ≡ length (decimal n)
digits_three n l h =
    let q = digits_two (n / 10) (omega (arith, div-add-mod' n 10)) (omega (arith, div-add-mod' n 10)) in
    let e = ap length (decimal_more n (omega arith)) ∙ length-append (decimal (n / 10)) _ in
    omega (arith, e, q)

-- how many bytes a marked automaton has
marked-length : (left m right : ℕ) → length (marked left m right) ≡ length (decimal m) + 3
marked-length left m right = let e = length-append (decimal m) (right ∷ []) in omega arith

-- how many bytes stand before the node of a D or B
pub prefix_length : (x : NodeLine) → ¬ (x.kind ≡ letter_n) → length (prefix_text x) ≡ length (decimal x.a) + 3
unfolding prefix_text
prefix_length x n = rw (ne_eqb x.kind letter_n n) (go (eqb x.kind letter_d))
  where
    go : (b : Bool) → length (cond b (marked 60 x.a 62) (marked 91 x.a 93)) ≡ length (decimal x.a) + 3
    go true = marked-length 60 x.a 62
    go false = marked-length 91 x.a 93
