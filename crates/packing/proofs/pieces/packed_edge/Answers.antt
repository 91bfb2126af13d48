-- `packed_edge` meets its contract: no byte reaches into the next. Assumes nothing.
use Rattle.packing.proofs.PieceLaws.{edge_back}
use borrow.Author.Rules.{rules}
use Rattle.packing.proofs.pieces.packed_edge.Goals as goal

pub returns : goal.returns
returns c = search (rules, edge_back)
