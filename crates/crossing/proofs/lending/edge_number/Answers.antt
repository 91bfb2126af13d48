-- `edge_number` meets its contract: no byte reaches into the next. Assumes nothing.
use Rattle.crossing.proofs.Cut.{edge_byte_back}
use borrow.Author.Rules.{rules}
use Rattle.crossing.proofs.lending.edge_number.Goals as goal

pub returns : goal.returns
returns c = search (rules, edge_byte_back)
