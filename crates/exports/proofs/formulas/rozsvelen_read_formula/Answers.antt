-- `rozsvelen_read_formula` meets its contract: question 35, then the reader's own answer, then its table's numbers. Assumes nothing.
use mathlib.Core.Path.{refl}
use native.Mathlib.Omega.{arith}
use Rattle.std.specs.Prelude.{Ok, Err}
use Rattle.compile.specs.Answers.{answer_by}
use Rattle.compile.proofs.Results.{is_refusal}
use Rattle.exports.proofs.FormulaTexts.{formula_short, formula_refused, formula_put}
use Rattle.exports.proofs.formulas.rozsvelen_read_formula.Goals as goal

pub returns-then-table-ne-TABLE : goal.returns-then-table-ne-TABLE
returns-then-table-ne-TABLE c =
    let a = c.args in
    formula_short a.text.now a.table.now _ c.if-table-ne-TABLE.true c.code.ensures

pub returns-in-Ok : goal.returns-in-Ok
returns-in-Ok c =
    let a = c.args in
    formula_put a.text.now a.table.now (answer_by (Ok c.in-Ok.t)) _ (omega arith) c.in-Ok.ensures _ refl c.code-in-Ok.ensures c.put_table.ensures

pub returns-in-Err : goal.returns-in-Err
returns-in-Err c =
    let a = c.args in
    formula_refused a.text.now a.table.now (answer_by (Err c.in-Err.r)) _ (omega arith) c.in-Err.ensures (is_refusal c.in-Err.r)
    (rw (c.number.ensures, c.place.ensures) at c.code-in-Err.ensures)
