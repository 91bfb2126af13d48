-- `rozsvelen_plain_row` meets its contract: question 35, then the plain row's own answer, then the row. Assumes nothing.
use Prim.Native.Nat.{ℕ}
use mathlib.Core.Path.{refl, ap, ◌∙◌}
use Rattle.aldlf.specs.Outcomes.{no_row}
use Rattle.aldlf.specs.Refusals.{refusal_number}
use Rattle.judge.proofs.OutcomeLaws.{some_number}
use Rattle.crossing.specs.Numbers.{table_of}
use Rattle.exports.specs.Answers.{answer_code}
use Rattle.exports.proofs.Judging.{plain_short, plain_refused, plain_given}
use Rattle.exports.proofs.rozsvelen_plain_row.Goals as goal

pub returns-then-row-ne-NODES : goal.returns-then-row-ne-NODES
returns-then-row-ne-NODES c =
    let a = c.args in
    plain_short a.table.now a.row.now _ c.if-row-ne-NODES.true c.code.ensures

pub returns-in-Ok : goal.returns-in-Ok
returns-in-Ok c =
    let a = c.args in
    let t = table_of a.table.now in
    plain_given a.table.now a.row.now t (record { number = 0; row = c.in-Ok.plain }) _ c.if-row-ne-NODES.false refl (c.in-Ok.ensures t c.lend_table.ensures) c.code-in-Ok.ensures _ refl c.put_row.ensures

pub returns-in-Err : goal.returns-in-Err
returns-in-Err c =
    let a = c.args in
    let t = table_of a.table.now in
    let r = c.in-Err.why in
    plain_refused a.table.now a.row.now t (record { number = refusal_number r; row = no_row }) _ c.if-row-ne-NODES.false refl (c.in-Err.ensures t c.lend_table.ensures)
    (c.code-in-Err.ensures ∙ ap (λ (q : ℕ). answer_code q 0 0 0) c.number.ensures) (some_number r)
