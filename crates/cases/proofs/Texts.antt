-- A buffer with a byte more written, a number with a digit more, and the text of a field in a buffer. Assumes nothing.
use Prim.Native.Nat.{ℕ, ◌+◌, ◌*◌, ◌%◌}
use mathlib.Core.Path.{◌≡◌, refl}
use mathlib.Core.List.{List}
use native.Mathlib.Numerals.{add-one}
use lib.ListN.{get_or, set, take, replicate, length-replicate}
use Rattle.cases.specs.Cases.{PutText, written, byte_at, number_of, digit_of, text_in}

module _ (head piece out : List ℕ) where
  pub written_next : (now : List ℕ) (n b : ℕ) → now ≡ written head piece out n → b ≡ byte_at head piece n → set now n b ≡ written head piece out (n + 1)
  unfolding written
  written_next now n b e f = rw (add-one, e, f)

  pub written_none : out ≡ written head piece out 0
  unfolding written
  written_none = refl

pub number_next : (s : List ℕ) (i v d : ℕ) → v ≡ number_of s i → d ≡ digit_of (get_or s i 0) → v % 10000 * 10 + d ≡ number_of s (i + 1)
unfolding number_of
number_next s i v d e f = rw (add-one, e, f)

pub number_none : (s : List ℕ) → 0 ≡ number_of s 0
unfolding number_of
number_none s = refl

-- what stands at the front of a buffer of zeros after a field's text is put there is that text
pub text_put : (n : ℕ) (f after : List ℕ) (r : ℕ) → PutText f (replicate n 0) after r → take r after ≡ text_in n f
unfolding text_in
text_put n f after r e = rw (e.holds, simp (length-replicate {A = ℕ}) at e.is) refl
