-- Numbers in decimal, a page in a lent buffer, and a call that appends to it.
use Rattle.std.specs.Prelude.{ℕ, zero, suc, ◌+◌, ◌/◌, ◌%◌, min, ◌≡◌, cond, List, [], ◌∷◌, ◌++◌, length, take, drop, ltb}

-- the byte of a digit
abbrev pub digit : ℕ → ℕ
digit d = 48 + d

-- the digits of n, at most `most` of them: those of a tenth, then the last one
unfoldable pub digits_of : (most n : ℕ) → List ℕ
digits_of zero n = []
digits_of (suc most) n =
    let front = digits_of most (n / 10) in
    cond (ltb n 10) (digit n ∷ []) (front ++ (digit (n % 10) ∷ []))

-- a number in decimal, without leading zeros (n has at most n + 1 digits)
unfoldable pub decimal : ℕ → List ℕ
decimal n = digits_of (suc n) n

-- a page in a lent buffer: as many of its bytes as fit in the first places, the rest as lent
unfoldable pub printed_in : (page lent : List ℕ) → List ℕ
printed_in page lent = take (length lent) page ++ drop (length page) lent

-- the buffer, as it was lent, has the page so far, and `at` is the place after it
pub record Stored (page lent buffer : List ℕ) (at : ℕ) : Type 0 where
  pub place : at ≡ min (length page) (length lent)
  pub text : buffer ≡ printed_in page lent

-- a call that finds `buffer` and the place `at` and leaves `after` and `next` appends the bytes, whatever page there is so far
pub record Appends (bytes buffer : List ℕ) (at : ℕ) (after : List ℕ) (next : ℕ) : Type 0 where
  pub size : length after ≡ length buffer
  pub goes : (page lent : List ℕ) → Stored page lent buffer at → Stored (page ++ bytes) lent after next
