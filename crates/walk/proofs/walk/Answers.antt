-- `walk` meets its contract: the table is packed, and the walk found by it. Assumes nothing.
use Rattle.walk.proofs.walk.Goals as goal

pub returns : goal.returns
returns c = c.walk_lent.ensures c.args.table c.pack.ensures
