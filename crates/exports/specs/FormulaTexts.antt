-- What the call that reads a formula answers and leaves in the lent table.
use Rattle.std.specs.Prelude.{ℕ, cond, List, eqb}
use Rattle.compile.specs.Answers.{FormulaAnswer, formula_answer}
use Rattle.crossing.specs.Numbers.{table_size, table_numbers}
use Rattle.exports.specs.Answers.{answer_code, accepted, Outcome, outcome, of_length}

-- a formula as read: the numbers of its sheet's table; else the refusal's number and, besides, its place
abbrev pub formula_into : List ℕ → FormulaAnswer → Outcome
formula_into lent a =
    cond (eqb a.number 0) (outcome (accepted 0) (table_numbers a.table)) (outcome (answer_code a.number 0 0 a.place) lent)

-- reading a formula into a lent table
unfoldable pub formula_read : (text table : List ℕ) → Outcome
formula_read text table = of_length table_size table (formula_into table (formula_answer text))
