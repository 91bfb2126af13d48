-- Zeros in front of a number change nothing, as long as it has not too many digits with them: they add nothing to the value.
use Prim.Native.Nat.{ℕ, zero, suc, ◌+◌, ◌≤◌}
use mathlib.Core.Path.{◌≡◌, refl, ap, ◌∙◌}
use mathlib.Core.List.{List, [], ◌∷◌, ◌++◌}
use native.Mathlib.Omega.{arith}
use lib.ListN.{length, replicate, length-append, length-replicate}
use borrow.Author.Tests.{le-leb}
use Rattle.text.specs.Text.{all_digits, value_of, number_in, number}
use Rattle.text.proofs.Digits.{number_some}
use Rattle.text.specs.Padded.{FieldPadded, same, zeros, Paired}

-- zeros before the other digits are digits, and leave the value to those
digits_padded : (z : ℕ) (l : List ℕ) → all_digits (replicate z 48 ++ l) ≡ all_digits l
unfolding all_digits
digits_padded zero l = refl
digits_padded (suc z) l = digits_padded z l

value_padded : (z : ℕ) (l : List ℕ) → value_of 0 (replicate z 48 ++ l) ≡ value_of 0 l
unfolding value_of
value_padded zero l = refl
value_padded (suc z) l = value_padded z l

-- a number with z zeros before it is that number, as long as there are at most `most` digits
pub padded_in : (most z : ℕ) (l : List ℕ) → 1 ≤ length l → z + length l ≤ most → number_in most (replicate z 48 ++ l) ≡ number_in most l
unfolding number_in
padded_in most z l some few =
    let n : length (replicate z 48 ++ l) ≡ z + length l = omega (arith, length-append (replicate z 48) l, length-replicate {A = ℕ} z 48) in
    rw (n, le-leb 1 (z + length l) (omega arith), le-leb (z + length l) most few, le-leb 1 (length l) some, le-leb (length l) most (omega arith), digits_padded z l, value_padded z l)

pub padded : (z : ℕ) (l : List ℕ) → 1 ≤ length l → z + length l ≤ 3 → number (replicate z 48 ++ l) ≡ number l
unfolding number
padded z l some few = padded_in 3 z l some few

-- a padded field is the same number as before, or none as before
pub field_number : (f g : List ℕ) → FieldPadded f g → number g ≡ number f
field_number f g (same e) = ap number e
field_number f g (zeros z n w e) = ap number e ∙ padded z f (number_some f n) w

-- there are as many of them
pub paired_length : (R : List ℕ → List ℕ → Type 0) (xs ys : List (List ℕ)) → Paired R xs ys → length ys ≡ length xs
paired_length R [] [] h = refl
paired_length R (x ∷ xs) (y ∷ ys) (r, h) = ap suc (paired_length R xs ys h)
paired_length R [] (y ∷ ys) h = absurd h
paired_length R (x ∷ xs) [] h = absurd h
