-- Texts worked by hand, by computation: lines, fields, and what is a number and what not.
use Prim.Native.Nat.{ℕ}
use mathlib.Core.List.{List, [], ◌∷◌}
use mathlib.Core.Bool.{true, false}
use mathlib.Core.Path.{◌≡◌, refl}
use native.Mathlib.Omega.{arith}
use Rattle.text.specs.Padded.{TextPadded, same, zeros}
use Rattle.text.specs.Text.{not_number, pieces, lines, fields, ends_in_lf, number, number_in, all_digits, value_of}

-- `0`, `31` and `999` are numbers
pub numbers_worked : (number (48 ∷ []) ≡ 0) × (number (51 ∷ 49 ∷ []) ≡ 31) × (number (57 ∷ 57 ∷ 57 ∷ []) ≡ 999)
unfolding number number_in all_digits value_of
numbers_worked = (refl, refl, refl)

-- so are `07`, `007`, `000` and `099`
pub padded_worked : (number (48 ∷ 55 ∷ []) ≡ 7) × (number (48 ∷ 48 ∷ 55 ∷ []) ≡ 7) × (number (48 ∷ 48 ∷ 48 ∷ []) ≡ 0) × (number (48 ∷ 57 ∷ 57 ∷ []) ≡ 99)
unfolding number number_in all_digits value_of
padded_worked = (refl, refl, refl, refl)

-- ``, `0007`, `1000`, `-`, `1x`, `x1` and `0x` are none
pub not_numbers_worked : (number [] ≡ not_number) × (number (48 ∷ 48 ∷ 48 ∷ 55 ∷ []) ≡ not_number) × (number (49 ∷ 48 ∷ 48 ∷ 48 ∷ []) ≡ not_number)
    × (number (45 ∷ []) ≡ not_number) × (number (49 ∷ 120 ∷ []) ≡ not_number) × (number (120 ∷ 49 ∷ []) ≡ not_number) × (number (48 ∷ 120 ∷ []) ≡ not_number)
unfolding number number_in all_digits value_of
not_numbers_worked = (refl, refl, refl, refl, refl, refl, refl)

-- `00007` and `65535` are numbers of at most five digits, `000007` is none
pub long_worked : (number_in 5 (48 ∷ 48 ∷ 48 ∷ 48 ∷ 55 ∷ []) ≡ 7) × (number_in 5 (54 ∷ 53 ∷ 53 ∷ 51 ∷ 53 ∷ []) ≡ 65535) × (number_in 5 (48 ∷ 48 ∷ 48 ∷ 48 ∷ 48 ∷ 55 ∷ []) ≡ 100000)
unfolding number_in all_digits value_of
long_worked = (refl, refl, refl)

-- the lines `P,007` and `N,00` are `P,7` and `N,0` with zeros before their numbers
pub padded_lines_worked : TextPadded (80 ∷ 44 ∷ 55 ∷ 10 ∷ 78 ∷ 44 ∷ 48 ∷ 10 ∷ []) (80 ∷ 44 ∷ 48 ∷ 48 ∷ 55 ∷ 10 ∷ 78 ∷ 44 ∷ 48 ∷ 48 ∷ 10 ∷ [])
unfolding lines pieces number number_in all_digits value_of
padded_lines_worked =
    record {
      each = ((same refl, (zeros 2 (omega arith) (omega arith) refl, tt)), ((same refl, (zeros 1 (omega arith) (omega arith) refl, tt)), tt));
      ends = refl;
    }

-- a text of the lines `1,2`, an empty one and `-`
abbrev sample : List ℕ
sample = 49 ∷ 44 ∷ 50 ∷ 10 ∷ 10 ∷ 45 ∷ 10 ∷ []

pub lines_worked : lines sample ≡ (49 ∷ 44 ∷ 50 ∷ []) ∷ [] ∷ (45 ∷ []) ∷ []
unfolding lines
lines_worked = refl

-- the fields of `1,,2` and of an empty line
pub fields_worked : (fields (49 ∷ 44 ∷ 44 ∷ 50 ∷ []) ≡ (49 ∷ []) ∷ [] ∷ (50 ∷ []) ∷ []) × (fields [] ≡ [] ∷ [])
unfolding pieces
fields_worked = (refl, refl)

-- only the last byte decides; an empty text has none
pub ends_worked : (ends_in_lf sample ≡ true) × (ends_in_lf (10 ∷ 45 ∷ []) ≡ false) × (ends_in_lf [] ≡ false)
ends_worked = (refl, refl, refl)
