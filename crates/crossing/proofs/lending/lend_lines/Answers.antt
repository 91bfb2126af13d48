-- `lend_lines` meets its contract: the first lines converted, and zeros for the others, which have no number. Assumes nothing.
use Rattle.crossing.proofs.Rest.{lines_lent}
use Rattle.crossing.proofs.lending.lend_lines.Goals as goal

pub returns : goal.returns
returns c =
    let n = c.lines_to_lend-n in
    lines_lent c.args.xs.now n.result n.ensures.1 _ c.args.numbers.now _ _ n.ensures.0 c.lend_first_lines-fit.ensures c.clear_lines.ensures
