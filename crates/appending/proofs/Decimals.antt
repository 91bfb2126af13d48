-- Decimal digits: a number of one digit, a number of more, and how many there are.
use Prim.Native.Nat.{ℕ, zero, suc, ◌/◌, ◌%◌, ◌^◌, ◌≤◌, ◌<◌}
use mathlib.Core.Path.{◌≡◌, ap, sym, ◌∙◌}
use mathlib.Core.List.{List, [], ◌∷◌, ◌++◌}
use native.Mathlib.Omega.{arith}
use native.Mathlib.Nat.{div-add-mod', pow-suc}
use mathlib.Core.Logic.{⊎_elim}
use borrow.Author.Tests.{lt-ltb, le-ltb}
use lib.ListN.{length, length-append}
use Rattle.aldlf.proofs.Bools.{lt-or-le}
use Rattle.appending.specs.Appending.{digit, digits_of, decimal}

-- a tenth is smaller
pub tenth : (n : ℕ) → 10 ≤ n → n / 10 < n
tenth n h = omega (arith, div-add-mod' n 10)

-- and has a digit less
below : (k n : ℕ) → n < 10 ^ suc (suc k) → n / 10 < 10 ^ suc k
below k n h = omega (arith, div-add-mod' n 10, pow-suc 10 (suc k))

digits_one : (f n : ℕ) → n < 10 → digits_of (suc f) n ≡ digit n ∷ []
unfolding digits_of
digits_one f n h = rw (lt-ltb n 10 h)

digits_more : (f n : ℕ) → 10 ≤ n → digits_of (suc f) n ≡ digits_of f (n / 10) ++ (digit (n % 10) ∷ [])
unfolding digits_of
digits_more f n h = rw (le-ltb n 10 h)

-- how many digits are let in does not matter where they are enough
same_digits : (f g n : ℕ) → n < f → n < g → digits_of f n ≡ digits_of g n
same_digits zero g n hf hg = absurd (omega arith)
same_digits (suc f) zero n hf hg = absurd (omega arith)
same_digits (suc f) (suc g) n hf hg =
    ⊎_elim (λ h. digits_one f n h ∙ sym (digits_one g n h))
    (λ h.
    let t = tenth n h in
    digits_more f n h
    ∙ ap (λ (l : List ℕ). l ++ (digit (n % 10) ∷ [])) (same_digits f g (n / 10) (omega arith) (omega arith))
    ∙ sym (digits_more g n h))
    (lt-or-le n 10)

-- a number below ten is one digit
pub decimal_one : (n : ℕ) → n < 10 → decimal n ≡ digit n ∷ []
unfolding decimal
decimal_one n h = digits_one n n h

-- any other is the digits of its tenth, then the last one
pub decimal_more : (n : ℕ) → 10 ≤ n → decimal n ≡ decimal (n / 10) ++ (digit (n % 10) ∷ [])
unfolding decimal
decimal_more n h =
    let t = tenth n h in
    digits_more n n h
    ∙ ap (λ (l : List ℕ). l ++ (digit (n % 10) ∷ [])) (same_digits n (suc (n / 10)) (n / 10) (omega arith) (omega arith))

-- a number of two digits
pub decimal_two : (n : ℕ) → 10 ≤ n → n < 100 → decimal n ≡ digit (n / 10) ∷ digit (n % 10) ∷ []
decimal_two n l h = decimal_more n l ∙ ap (λ (d : List ℕ). d ++ (digit (n % 10) ∷ [])) (decimal_one (n / 10) (omega (arith, div-add-mod' n 10)))

-- a number below 10 ^ k has at most k digits
pub decimal-length : (k n : ℕ) → n < 10 ^ suc k → length (decimal n) ≤ suc k
decimal-length zero n h = omega (arith, ap length (decimal_one n h))
decimal-length (suc k) n h =
    ⊎_elim (λ l. omega (arith, ap length (decimal_one n l)))
    (λ l.
    omega (arith, ap length (decimal_more n l), length-append (decimal (n / 10)) (digit (n % 10) ∷ []), decimal-length k (n / 10) (below k n h)))
    (lt-or-le n 10)
