-- `is_given` meets its contract: it asks of the table's numbers. Assumes nothing.
use Rattle.sheet.proofs.is_given.Goals as goal

pub returns : goal.returns
returns c = c.is_given_packed.ensures c.args.table c.pack.ensures
