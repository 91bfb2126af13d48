-- `judge_part` meets its contract: the table is packed, and the part judged by it. Assumes nothing.
use Rattle.judge.proofs.judge_part.Goals as goal

pub returns : goal.returns
returns c = c.part_lent.ensures c.args.table c.pack.ensures
