-- What the calls that judge answer and leave in every lent slice, over the outcomes of judging the table that the numbers give.
use Rattle.std.specs.Prelude.{ℕ, Bool, cond, ◌||◌, List, eqb, length}
use Rattle.aldlf.specs.Constants.{node_limit}
use Rattle.aldlf.specs.Sheet.{sheet_of}
use Rattle.aldlf.specs.Stands.{rule_sheet}
use Rattle.aldlf.specs.Outcomes.{Whole, whole_outcome, Part, part_outcome, plain_row}
use Rattle.aldlf.specs.declared.Table.{Table}
use Rattle.aldlf.specs.declared.Way.{Way}
use Rattle.aldlf.specs.declared.Way.TheVariants.{Ahead, Back}
use Rattle.sheet.specs.Given.{well_formed}
use Rattle.crossing.specs.Numbers.{table_of, row_of}
use Rattle.exports.specs.Answers.{answer_code, accepted, refusal, Outcome, outcome, of_length}

-- judging a whole log: the count held
abbrev pub judged : Whole → Outcome
judged w = outcome (answer_code w.number 0 w.held 0) w.buffer

unfoldable pub judge_outcome : (table log verdicts : List ℕ) → Outcome
judge_outcome table log verdicts = let t = table_of table in judged (whole_outcome (well_formed t) (sheet_of t) log verdicts)

-- the plain row of a table that some sheet gives, of the nodes that its rule stands on
abbrev pub plain_into : List ℕ → Table → Outcome
plain_into row t = cond (well_formed t) (outcome (accepted 0) (plain_row (rule_sheet (sheet_of t))).bits) (outcome (refusal 31) row)

unfoldable pub plain_outcome : (table row : List ℕ) → Outcome
plain_outcome table row = of_length node_limit row (plain_into row (table_of table))

-- question 43: a number that names a way, 1 ahead and 2 back
abbrev pub is_way : ℕ → Bool
is_way n = eqb n 1 || eqb n 2

-- the way that it names
abbrev pub way_of : ℕ → Way
way_of n = cond (eqb n 1) Ahead Back

-- a part's answer, and the lent row and verdicts as the call ends
pub record PartOutcome : Type 0 where
  pub answer : ℕ
  pub row : List ℕ
  pub verdicts : List ℕ

abbrev pub part_ends : ℕ → (row verdicts : List ℕ) → PartOutcome
part_ends r row verdicts = record { answer = r; row = row; verdicts = verdicts }

-- a part as judged: the row returned takes the row's place where it was accepted
abbrev pub part_judged : List ℕ → Part → PartOutcome
part_judged row p = part_ends (answer_code p.number 0 0 0) (cond (eqb p.number 0) p.row.bits row) p.buffer

-- judging a part in numbers: questions 35 and 43, then those of the part
unfoldable pub judge_part_outcome : List ℕ → ℕ → (row words verdicts : List ℕ) → PartOutcome
judge_part_outcome table way row words verdicts =
    let t = table_of table in
    cond (eqb (length row) node_limit)
    (cond (is_way way)
    (part_judged row (part_outcome (well_formed t) (way_of way) (sheet_of t) (row_of row) words verdicts))
    (part_ends (refusal 43) row verdicts))
    (part_ends (refusal 35) row verdicts)
