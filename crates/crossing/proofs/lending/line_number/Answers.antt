-- `line_number` meets its contract: no byte reaches into the next. Assumes nothing.
use Rattle.crossing.proofs.Cut.{line_low}
use borrow.Author.Rules.{rules}
use Rattle.crossing.proofs.lending.line_number.Goals as goal

pub returns : goal.returns
returns c = search (rules, line_low)
