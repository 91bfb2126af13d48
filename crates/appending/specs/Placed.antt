-- A text in a lent buffer, whole or not at all: what a call that writes one answers, and what it leaves there.
use Rattle.std.specs.Prelude.{ℕ, cond, List, ◌++◌, length, drop, leb}

-- the number of a refusal (0: the text was written), how many bytes the text has, and the buffer as the call ends
pub record Printed : Type 0 where
  pub number : ℕ
  pub count : ℕ
  pub buffer : List ℕ

-- a refusal, which alters nothing
abbrev pub unprinted : (number : ℕ) → (lent : List ℕ) → Printed
unprinted number lent = record { number = number; count = 0; buffer = lent }

-- a text that fits stands in the first places, the rest as lent; one that does not is refused by this number
unfoldable pub placed : (number : ℕ) → (text lent : List ℕ) → Printed
placed number text lent =
    cond (leb (length text) (length lent))
    (record { number = 0; count = length text; buffer = text ++ drop (length text) lent })
    (unprinted number lent)
