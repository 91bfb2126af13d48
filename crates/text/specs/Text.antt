-- Text to lines, fields and numbers: what sheets and logs share. A text is its list of bytes.
use Rattle.std.specs.Prelude.{ℕ, suc, ◌+◌, ◌*◌, ◌-◌, ◌^◌, ◌≤◌, ◌<◌, ◌≡◌, List, [], ◌∷◌, Bool, true, cond, ◌&&◌, length, get_or, take, drop, leb, eqb, unwrap_or, IfSome}
use Rattle.text.specs.declared.Cut.{Cut}

-- at most so many bytes in a text
abbrev pub byte_limit : ℕ
byte_limit = 49152

-- stands for what is no number, where a number has at most three digits
abbrev pub not_number : ℕ
not_number = 1000

-- the byte that ends a line
abbrev pub lf : ℕ
lf = 10

-- the byte that parts the fields of a line
abbrev pub comma : ℕ
comma = 44

-- a byte more in front of the first piece
abbrev pub glue : ℕ → List (List ℕ) → List (List ℕ)
glue b [] = (b ∷ []) ∷ []
glue b (p ∷ ps) = (b ∷ p) ∷ ps

-- the pieces of a text, parted by the byte sep: one more than the text has of sep
unfoldable pub pieces : ℕ → List ℕ → List (List ℕ)
pieces sep [] = [] ∷ []
pieces sep (b ∷ bs) = cond (eqb b sep) ([] ∷ pieces sep bs) (glue b (pieces sep bs))

-- the lines of a text, each ended by LF (the last one by the text's end, where that is no LF)
unfoldable pub lines : List ℕ → List (List ℕ)
lines [] = []
lines (b ∷ bs) = cond (eqb b lf) ([] ∷ lines bs) (glue b (lines bs))

-- the fields of a line, parted by commas
abbrev pub fields : List ℕ → List (List ℕ)
fields line = pieces comma line

-- whether a text's last byte is LF; an empty text's is not
abbrev pub ends_in_lf : List ℕ → Bool
ends_in_lf text = eqb (get_or text (length text - 1) 0) lf

-- how many bytes stand before the first sep, or before the end
unfoldable pub up_to : ℕ → List ℕ → ℕ
up_to sep [] = 0
up_to sep (b ∷ bs) = cond (eqb b sep) 0 (suc (up_to sep bs))

-- the line that starts at a place of a text, without its LF
abbrev pub line_at : List ℕ → ℕ → List ℕ
line_at text at = take (up_to lf (drop at text)) (drop at text)

-- the digits `0` to `9`
abbrev pub is_digit : ℕ → Bool
is_digit b = leb 48 b && leb b 57

-- whether all bytes are digits
unfoldable pub all_digits : List ℕ → Bool
all_digits [] = true
all_digits (b ∷ bs) = is_digit b && all_digits bs

-- the number that digits make, after those of v
unfoldable pub value_of : ℕ → List ℕ → ℕ
value_of v [] = v
value_of v (b ∷ bs) = value_of (v * 10 + (b - 48)) bs

-- the number that a field of one to `most` digits is, zeros in front or not; 10 ^ most, which so few digits do not make, stands for another
unfoldable pub number_in : (most : ℕ) → List ℕ → ℕ
number_in most l = cond (leb 1 (length l) && leb (length l) most && all_digits l) (value_of 0 l) (10 ^ most)

-- the number that a field of a sheet is, or a fact of a log: one to three digits
unfoldable pub number : List ℕ → ℕ
number l = number_in 3 l

-- of a line, or its rest after a comma: the length of its first field, and that field as a number
pub record CutOf (l : List ℕ) (r : Cut) : Type 0 where
  pub at : r.end ≡ up_to comma l
  pub within : r.end ≤ length l
  pub reads : unwrap_or r.value not_number ≡ number (take r.end l)
  pub small : IfSome r.value (λ n. n < not_number)
