-- What the calls on rules as text answer and leave in the lent slice.
use Rattle.std.specs.Prelude.{ℕ, ◌+◌, ◌*◌, ◌/◌, ◌%◌, List, ◌++◌, take, drop}
use Rattle.aldlf.specs.Sheet.{sheet_of}
use Rattle.sheet.specs.Given.{well_formed}
use Rattle.appending.specs.Placed.{Printed}
use Rattle.printing.specs.Print.{print_outcome}
use Rattle.crossing.specs.Numbers.{table_of}
use Rattle.exports.specs.Answers.{Outcome, outcome}

-- an answer with a length, which can take 48 bits: its lowest 16 stand where a count does, the others where a line and what is given besides do
unfoldable pub length_code : (number length : ℕ) → ℕ
length_code number length = length % 65536 + 65536 * number + 4294967296 * (length / 65536)

-- the greatest length that such an answer can say
abbrev pub longest : ℕ
longest = 281474976710655

-- a rule as printed in the first places of a slice, whose others are `rest`
abbrev pub rule_in : List ℕ → Printed → Outcome
rule_in rest p = outcome (length_code p.number p.count) (p.buffer ++ rest)

-- printing a lent table's rule: the slice lends no more places than the greatest length, and keeps the others
unfoldable pub rule_printed : (table text : List ℕ) → Outcome
rule_printed table text = let t = table_of table in rule_in (drop longest text) (print_outcome (well_formed t) (sheet_of t) (take longest text))
