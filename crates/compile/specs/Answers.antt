-- The answer of the call, from the outcome that crate `formula` defines.
use Rattle.std.specs.Prelude.{ℕ, Result, Ok, Err, Bool, true, false, List}
use Rattle.aldlf.specs.declared.Table.{Table}
use Rattle.sheet.specs.Questions.{empty_table}
use Rattle.formula.specs.Outcome.{Read, accepted, refused, read_formula}
use Rattle.parsing.specs.declared.refusal.FormulaRefusal.{FormulaRefusal}
use Rattle.parsing.specs.Refusals.{refusal_number, refusal_place}
use Rattle.making.specs.Run.{Making}

-- An answer: number 0, place 0 and a table; or a refusal's number, the place that it names or 0, and a table all zeros.
pub record FormulaAnswer : Type 0 where
  pub number : ℕ
  pub place : ℕ
  pub table : Table

-- What the call's result stands for.
abbrev pub answer_by : Result Table FormulaRefusal → FormulaAnswer
answer_by (Ok t) = record { number = 0; place = 0; table = t }
answer_by (Err r) = record { number = refusal_number r; place = refusal_place r; table = empty_table }

-- A table stands beside number 0, a table all zeros beside a refusal.
abbrev pub answer_of : Read → FormulaAnswer
answer_of (accepted t) = record { number = 0; place = 0; table = t }
answer_of (refused n p) = record { number = n; place = p; table = empty_table }

-- THE ANSWER: what reading the text comes to.
unfoldable pub formula_answer : List ℕ → FormulaAnswer
formula_answer text = answer_of (read_formula text)

-- What was made: its table, or 53.
abbrev pub read_fits : Bool → Table → Read
read_fits true t = accepted t
read_fits false t = refused 53 0

abbrev pub read_made : Making → Read
read_made m = read_fits m.fits m.table
