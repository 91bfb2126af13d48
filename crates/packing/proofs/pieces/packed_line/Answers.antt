-- `packed_line` meets its contract: no byte reaches into the next. Assumes nothing.
use Rattle.packing.proofs.PieceLaws.{line_back}
use borrow.Author.Rules.{rules}
use Rattle.packing.proofs.pieces.packed_line.Goals as goal

pub returns : goal.returns
returns c = search (rules, line_back)
