-- `rozsvelen_read_sheet` meets its contract: question 35, then the sheet's own answer, then its table's numbers. Assumes nothing.
use mathlib.Core.Path.{refl, ap, ◌∙◌}
use Prim.Native.Nat.{ℕ}
use Rattle.std.proofs.Common.{Err}
use Rattle.sheet.specs.Outcomes.{answer_of}
use Rattle.sheet.specs.Questions.{accepted}
use Rattle.sheet.proofs.Stops.{some_number}
use Rattle.exports.specs.Answers.{answer_code}
use Rattle.exports.proofs.Sheets.{sheet_short, sheet_refused, sheet_read}
use Rattle.exports.proofs.rozsvelen_read_sheet.Goals as goal

pub returns-then-table-ne-TABLE : goal.returns-then-table-ne-TABLE
returns-then-table-ne-TABLE c =
    let a = c.args in
    sheet_short a.text.now a.table.now _ c.if-table-ne-TABLE.true c.code.ensures

pub returns-in-Ok : goal.returns-in-Ok
returns-in-Ok c =
    let a = c.args in
    sheet_read a.text.now a.table.now (accepted c.in-Ok.t) _ c.if-table-ne-TABLE.false c.in-Ok.ensures c.code-in-Ok.ensures _ refl c.put_table.ensures

pub returns-in-Err : goal.returns-in-Err
returns-in-Err c =
    let a = c.args in
    let r = c.in-Err.r in
    let e = c.code-in-Err.ensures ∙ ap (λ (n : ℕ). answer_code n r.line 0 r.field) c.number.ensures in
    sheet_refused a.text.now a.table.now (answer_of (Err r)) _ c.if-table-ne-TABLE.false c.in-Err.ensures e (some_number r.question)
