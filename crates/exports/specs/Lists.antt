-- What the call that judges a list of logs answers and leaves in both lent slices.
use Rattle.std.specs.Prelude.{ℕ, ◌+◌, ◌*◌, List}
use Rattle.aldlf.specs.Sheet.{sheet_of}
use Rattle.sheet.specs.Given.{well_formed}
use Rattle.batch.specs.Batch.{BatchOutcome, batch_outcome}
use Rattle.crossing.specs.Numbers.{table_of}

-- a list's answer: the log that a refusal is about takes the places of the line and of what is given besides
unfoldable pub list_code : (number log : ℕ) → ℕ
list_code number log = 65536 * number + 4294967296 * log

-- a list's answer, and the lent verdicts and counts as the call ends
pub record ListOutcome : Type 0 where
  pub answer : ℕ
  pub verdicts : List ℕ
  pub held : List ℕ

abbrev pub list_ends : ℕ → (verdicts held : List ℕ) → ListOutcome
list_ends r verdicts held = record { answer = r; verdicts = verdicts; held = held }

-- a list as judged: its number, and the log that a refusal is about
abbrev pub listed : BatchOutcome → ListOutcome
listed o = list_ends (list_code o.number o.log) o.verdicts o.held

unfoldable pub judge_logs_outcome : (table words lengths verdicts held : List ℕ) → ListOutcome
judge_logs_outcome table words lengths verdicts held = let t = table_of table in listed (batch_outcome (well_formed t) (sheet_of t) words lengths verdicts held)
