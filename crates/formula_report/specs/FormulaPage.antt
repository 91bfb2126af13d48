-- The printed page by a formula: what its text reads to, and then the page as a sheet's.
use Rattle.std.specs.Prelude.{ℕ, cond, List, eqb}
use Rattle.appending.specs.Placed.{Printed, placed}
use Rattle.compile.specs.Answers.{FormulaAnswer, formula_answer}
use Rattle.lines.specs.Lines.{refusal_line}
use Rattle.report.specs.Page.{rule_page}

-- the page of a formula as read and a log: that of a refused formula is the line of its refusal, which ends in its place
unfoldable pub read_formula_page : FormulaAnswer → List ℕ → List ℕ
read_formula_page a steps = cond (eqb a.number 0) (rule_page a.table steps) (refusal_line a.number a.place)

-- the page of a formula and a log
unfoldable pub formula_page_of : (rule steps : List ℕ) → List ℕ
formula_page_of rule steps = read_formula_page (formula_answer rule) steps

-- printing it: one that does not fit is refused by 44
unfoldable pub formula_page_outcome : (rule steps lent : List ℕ) → Printed
formula_page_outcome rule steps lent = placed 44 (formula_page_of rule steps) lent
