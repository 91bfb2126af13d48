-- A field is a number exactly where it is one to `most` digits: so few digits make less than 10 ^ most, which stands for what is no number.
use Prim.Native.Nat.{ℕ, zero, suc, ◌+◌, ◌*◌, ◌-◌, ◌^◌, ◌≤◌, ◌<◌}
use mathlib.Core.Path.{◌≡◌, refl, ap, sym, ◌∙◌}
use mathlib.Core.List.{List, [], ◌∷◌}
use mathlib.Core.Bool.{Bool, true, false, cond, ◌&&◌, false≢true}
use mathlib.Core.Logic.{◌↔◌}
use native.Mathlib.Numerals.{add-one}
use native.Mathlib.Omega.{arith}
use lib.ListN.{length, get_or}
use lib.Pow.{pow-add}
use lib.Dec.{leb}
use borrow.Author.Tests.{le-leb, leb-true}
use Rattle.text.specs.Text.{not_number, is_digit, all_digits, value_of, number_in, number}

-- Powers of ten -------------------------------------------------------------------------------------------------------------------

tens : (i : ℕ) → 10 ^ (i + 1) ≡ 10 ^ i * 10
tens i = pow-add 10 i 1

tens_suc : (i : ℕ) → 10 ^ suc i ≡ 10 ^ i * 10
tens_suc i = ap (λ (j : ℕ). 10 ^ j) (sym (add-one i)) ∙ tens i

pub tens_mono : (i j : ℕ) → i ≤ j → 10 ^ i ≤ 10 ^ j
tens_mono zero zero h = omega arith
tens_mono zero (suc j) h = omega (arith, tens_suc j, tens_mono zero j (omega arith))
tens_mono (suc i) zero h = absurd (omega arith)
tens_mono (suc i) (suc j) h = omega (arith, tens_suc i, tens_suc j, tens_mono i j (omega arith))

-- a digit more keeps below the next power
pub digit_more : (v i d : ℕ) → v < 10 ^ i → d ≤ 9 → v * 10 + d < 10 ^ (i + 1)
digit_more v i d h k = omega (arith, tens i)

-- The bytes of a field ------------------------------------------------------------------------------------------------------------

both_go : (a b : Bool) → a && b ≡ true → (a ≡ true) × (b ≡ true)
both_go true true h = (refl, refl)
both_go true false h = absurd (false≢true h)
both_go false b h = absurd (false≢true h)

digit_each : (l : List ℕ) → all_digits l ≡ true → (i : ℕ) → i < length l → is_digit (get_or l i 0) ≡ true
unfolding all_digits
digit_each [] h i k = absurd (omega arith)
digit_each (b ∷ bs) h zero k = (both_go (is_digit b) (all_digits bs) h).0
digit_each (b ∷ bs) h (suc i) k = digit_each bs (both_go (is_digit b) (all_digits bs) h).1 i (omega arith)

all_digits_lem : (l : List ℕ) → ((i : ℕ) → i < length l → is_digit (get_or l i 0) ≡ true) → all_digits l ≡ true
unfolding all_digits
all_digits_lem [] d = refl
all_digits_lem (b ∷ bs) d = rw (d 0 (omega arith)) (all_digits_lem bs (λ i q. d (suc i) (omega arith)))

-- no digit is above `9`
pub digit_le : (b : ℕ) → is_digit b ≡ true → b ≤ 57
digit_le b h = leb-true b 57 (both_go (leb 48 b) (leb b 57) h).1

-- digits after those of a value below 10 ^ k make less than so many digits more do
value_below : (l : List ℕ) (v k : ℕ) → all_digits l ≡ true → v < 10 ^ k → value_of v l < 10 ^ (k + length l)
unfolding all_digits value_of
value_below [] v k h w = rw (let z : k + 0 ≡ k = omega arith in z) w
value_below (b ∷ bs) v k h w =
    let d = both_go (is_digit b) (all_digits bs) h in
    let e : k + suc (length bs) ≡ k + 1 + length bs = omega arith in
    rw e (value_below bs (v * 10 + (b - 48)) (k + 1) d.1 (digit_more v k (b - 48) w (omega (arith, digit_le b d.0))))

few_below : (most : ℕ) (l : List ℕ) → all_digits l ≡ true → length l ≤ most → value_of 0 l < 10 ^ most
few_below most l d h = omega (arith, value_below l 0 0 d (omega arith), tens_mono (0 + length l) most (omega arith))

-- A field as a number -------------------------------------------------------------------------------------------------------------

three_go : (n most v w : ℕ) (s t u : Bool) → leb 1 n ≡ s → leb n most ≡ t → cond (s && t && u) v w < w → (1 ≤ n) × (n ≤ most) × (u ≡ true)
three_go n most v w true true true e f h = (leb-true 1 n e, leb-true n most f, refl)
three_go n most v w true true false e f h = absurd (omega arith)
three_go n most v w true false u e f h = absurd (omega arith)
three_go n most v w false t u e f h = absurd (omega arith)

-- A FIELD IS A NUMBER exactly where it is one to `most` digits.
pub number_in_iff : (most : ℕ) (l : List ℕ) → (number_in most l < 10 ^ most) ↔ ((1 ≤ length l) × (length l ≤ most) × ((i : ℕ) → i < length l → is_digit (get_or l i 0) ≡ true))
unfolding number_in
number_in_iff most l = (
  λ h.
      let s = three_go (length l) most (value_of 0 l) (10 ^ most) (leb 1 (length l)) (leb (length l) most) (all_digits l) refl refl h in
      (s.0, s.1, digit_each l s.2),
  λ q.
      let d = all_digits_lem l q.2 in
      rw (le-leb 1 (length l) q.0, le-leb (length l) most q.1, d) (few_below most l d q.1),
)

-- it is never more than what stands for none
le_go : (v w : ℕ) (s t u : Bool) → (s ≡ true → t ≡ true → u ≡ true → v < w) → cond (s && t && u) v w ≤ w
le_go v w true true true h = omega (arith, h refl refl refl)
le_go v w true true false h = omega arith
le_go v w true false u h = omega arith
le_go v w false t u h = omega arith

pub number_in-le : (most : ℕ) (l : List ℕ) → number_in most l ≤ 10 ^ most
unfolding number_in
number_in-le most l =
    le_go (value_of 0 l) (10 ^ most) (leb 1 (length l)) (leb (length l) most) (all_digits l)
    (λ s t u. few_below most l u (leb-true (length l) most t))

-- of three digits
pub number_iff : (l : List ℕ) → (number l < not_number) ↔ ((1 ≤ length l) × (length l ≤ 3) × ((i : ℕ) → i < length l → is_digit (get_or l i 0) ≡ true))
unfolding number
number_iff l = number_in_iff 3 l

-- so it has a byte,
pub number_some : (l : List ℕ) → number l < not_number → 1 ≤ length l
number_some l h = ((number_iff l).0 h).0

-- and where that is all, it is no byte above `9`
pub number_digit : (b : ℕ) → number (b ∷ []) < not_number → b ≤ 57
number_digit b h = digit_le b (((number_iff (b ∷ [])).0 h).2 0 (omega arith))
