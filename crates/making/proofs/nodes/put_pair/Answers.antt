-- `put_pair` meets its contract: the line has what was kept before the last node. Assumes nothing.
use Rattle.making.proofs.nodes.put_pair.Goals as goal

pub returns : goal.returns
returns c = c.put_line.ensures
