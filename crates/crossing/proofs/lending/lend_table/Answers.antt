-- `lend_table` meets its contract: the fields stand there cut, which is as they are where each fits, or all is cleared. Assumes nothing.
use Rattle.crossing.proofs.Cut.{lent_short, lent_refused, lent_whole}
use mathlib.Core.Path.{sym, ◌∙◌}
use Rattle.crossing.proofs.lending.lend_table.Goals as goal
use Rattle.crossing.proofs.lending.lend_table.Goals.{then-xs-ne-TABLE-via-then-xs-ne-TABLE, then-xs-ne-TABLE-via-else-xs-ne-TABLE+then-not-lend_fields}

pub returns-then-xs-ne-TABLE : goal.returns-then-xs-ne-TABLE
returns-then-xs-ne-TABLE c = elim c.then-xs-ne-TABLE.branch [
  | then-xs-ne-TABLE-via-then-xs-ne-TABLE w ↦ lent_short c.args.xs.now _ w.if-xs-ne-TABLE.true c.clear.ensures
  | then-xs-ne-TABLE-via-else-xs-ne-TABLE+then-not-lend_fields w ↦ lent_refused c.args.xs.now _ w.if-xs-ne-TABLE.false (sym w.lend_fields.ensures.0 ∙ w.if-not-lend_fields.true) c.clear.ensures
]

pub returns-else-not-lend_fields : goal.returns-else-not-lend_fields
returns-else-not-lend_fields c = lent_whole c.args.xs.now _ c.if-xs-ne-TABLE.false (sym c.lend_fields.ensures.0 ∙ c.if-not-lend_fields.false) c.lend_fields.ensures.1
