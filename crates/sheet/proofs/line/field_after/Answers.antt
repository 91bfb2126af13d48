-- `field_after` meets its contract: a cut of what stands after the comma. Assumes nothing.
use Rattle.sheet.proofs.Parse.{after_none, field_some}
use Rattle.sheet.proofs.line.field_after.Goals as goal

pub returns-then-s-at : goal.returns-then-s-at
returns-then-s-at c =
    let z = after_none c.args.s.now c.args.at c.if-s-at.true in
    record { there = rw z; value = rw z; rest = rw z }

pub returns : goal.returns
returns c =
    let s = c.args.s.now in
    let at = c.args.at in
    rw c.unwrap_or.ensures (field_some s at c.cut_field-cut.result c.rest_from-rest.result.now c.if-s-at.false c.rest_from-rest.ensures c.cut_field-cut.ensures)
