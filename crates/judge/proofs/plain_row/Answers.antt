-- `plain_row` meets its contract: the table is packed, and asked. Assumes nothing.
use Rattle.judge.proofs.plain_row.Goals as goal

pub returns : goal.returns
returns c = c.plain_row_lent.ensures c.args.table c.pack.ensures
