-- The digits of a field in the terms of a loop's index, and the outcomes of a field as a number.
use Prim.Native.Nat.{ℕ, ◌+◌, ◌*◌, ◌-◌, ◌^◌, ◌≤◌, ◌<◌}
use mathlib.Core.Path.{◌≡◌}
use mathlib.Core.List.{List}
use mathlib.Core.Bool.{true, false}
use native.Mathlib.Numerals.{add-one}
use native.Mathlib.Omega.{arith}
use lib.ListN.{length, get_or, drop, drop_of_length-le}
use lib.Seq.{drop-cons}
use borrow.Author.Tests.{le-leb, lt-leb}
use Rattle.std.specs.Char.{is_ascii_digit}
use Rattle.text.specs.Text.{all_digits, value_of, number_in}

module _ (s : List ℕ) (most : ℕ) where
  pub number_empty : length s ≡ 0 → number_in most s ≡ 10 ^ most
  unfolding number_in
  number_empty h = rw h

  pub number_long : most < length s → number_in most s ≡ 10 ^ most
  unfolding number_in
  number_long h = rw (le-leb 1 (length s) (omega arith), lt-leb (length s) most h)

  module _ (some : 1 ≤ length s) (few : length s ≤ most) where
    pub number_bad : all_digits s ≡ false → number_in most s ≡ 10 ^ most
    unfolding number_in
    number_bad e = rw (le-leb 1 (length s) some, le-leb (length s) most few, e)

    pub number_good : all_digits s ≡ true → number_in most s ≡ value_of 0 s
    unfolding number_in
    number_good e = rw (le-leb 1 (length s) some, le-leb (length s) most few, e)

-- a byte more
module _ (s : List ℕ) (i : ℕ) (h : i < length s) where
  pub digits_bad : is_ascii_digit (get_or s i 0) ≡ false → all_digits (drop i s) ≡ false
  unfolding all_digits
  digits_bad e = rw (drop-cons s i 0 h, e)

  pub digits_on : is_ascii_digit (get_or s i 0) ≡ true → all_digits (drop i s) ≡ all_digits (drop (i + 1) s)
  unfolding all_digits
  digits_on e = rw (add-one i, drop-cons s i 0 h, e)

  pub value_on : (v : ℕ) → value_of v (drop i s) ≡ value_of (v * 10 + (get_or s i 0 - 48)) (drop (i + 1) s)
  unfolding value_of
  value_on v = rw (add-one i, drop-cons s i 0 h)

pub digits_end : (s : List ℕ) (i : ℕ) → length s ≤ i → all_digits (drop i s) ≡ true
unfolding all_digits
digits_end s i h = rw (drop_of_length-le s h)

pub value_end : (s : List ℕ) (v i : ℕ) → length s ≤ i → value_of v (drop i s) ≡ v
unfolding value_of
value_end s v i h = rw (drop_of_length-le s h)
