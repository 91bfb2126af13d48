-- A case's line: its fields, the text and the number that a field stands for.
use Rattle.std.specs.Prelude.{ℕ, zero, suc, ◌+◌, ◌*◌, ◌-◌, ◌%◌, ◌≤◌, ◌<◌, min, ◌≡◌, List, cond, length, get_or, take, drop, set, replicate, ltb, eqb}
use Rattle.text.specs.Text.{up_to}

-- the byte that parts the fields of a line
abbrev pub bar : ℕ
bar = 124

-- the byte that parts a text's head, its piece and its length
abbrev pub star : ℕ
star = 42

-- how many bytes stand before the sep that ends the part at a place
abbrev pub end_of : ℕ → List ℕ → ℕ → ℕ
end_of sep s at = up_to sep (drop at s)

-- the place after the part that starts at a place, and after the sep that ends it; the end where none does
unfoldable pub past_of : ℕ → List ℕ → ℕ → ℕ
past_of sep s at = cond (ltb (end_of sep s at) (length (drop at s))) (at + end_of sep s at + 1) (length s)

-- the place past a part: it lies within the text, and further on
pub record Past (sep : ℕ) (s : List ℕ) (at r : ℕ) : Type 0 where
  pub is : r ≡ past_of sep s at
  pub within : r ≤ length s
  pub further : at < length s → at < r

-- where the part starts that k bytes sep stand before
unfoldable pub start_of : ℕ → List ℕ → ℕ → ℕ
start_of sep s zero = 0
start_of sep s (suc k) = past_of sep s (start_of sep s k)

-- the part that starts at a place
abbrev pub part_at : ℕ → List ℕ → ℕ → List ℕ
part_at sep s at = take (end_of sep s at) (drop at s)

-- the part of a text that k bytes sep stand before; past the last, an empty one
unfoldable pub part_of : ℕ → List ℕ → ℕ → List ℕ
part_of sep s k = part_at sep s (start_of sep s k)

-- a digit as a number, 0 for what is none
unfoldable pub digit_of : ℕ → ℕ
digit_of b = cond (ltb b 48) 0 (cond (ltb 57 b) 0 (b - 48))

-- the number that the last five of the first n digits make
unfoldable pub number_of : List ℕ → ℕ → ℕ
number_of s zero = 0
number_of s (suc n) = number_of s n % 10000 * 10 + digit_of (get_or s n 0)

-- the byte that a byte of a case stands for
unfoldable pub plain_of : ℕ → ℕ
plain_of b = cond (eqb b 59) 10 (cond (eqb b 94) 13 (cond (eqb b 95) 0 (cond (eqb b 126) 177 b)))

-- the byte at a place of head and then piece over and over
unfoldable pub byte_at : List ℕ → List ℕ → ℕ → ℕ
byte_at head piece i = cond (ltb i (length head)) (plain_of (get_or head i 0)) (cond (eqb (length piece) 0) 0 (plain_of (get_or piece ((i - length head) % length piece) 0)))

-- how many bytes a field's text has: those of its head where no piece follows, else the number after the piece
unfoldable pub bytes_of : List ℕ → ℕ
bytes_of f = cond (eqb (length (part_of star f 1)) 0) (length (part_of star f 0)) (number_of (part_of star f 2) (length (part_of star f 2)))

-- a buffer whose first n bytes are those of head and then piece over and over
unfoldable pub written : List ℕ → List ℕ → List ℕ → ℕ → List ℕ
written head piece out zero = out
written head piece out (suc n) = set (written head piece out n) n (byte_at head piece n)

-- a field's text stands at the front of a buffer, as far as it has room
pub record PutText (f before after : List ℕ) (r : ℕ) : Type 0 where
  pub is : r ≡ min (bytes_of f) (length before)
  pub within : r ≤ length after
  pub holds : after ≡ written (part_of star f 0) (part_of star f 1) before r

-- a field's text, as far as it has room in so many bytes
unfoldable pub text_in : ℕ → List ℕ → List ℕ
text_in room f = take (min (bytes_of f) room) (written (part_of star f 0) (part_of star f 1) (replicate room 0) (min (bytes_of f) room))

-- the number in a line's field
abbrev pub field_number : List ℕ → ℕ → ℕ
field_number line k = number_of (part_of bar line k) (length (part_of bar line k))
