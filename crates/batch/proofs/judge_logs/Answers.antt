-- `judge_logs` meets its contract: the table is packed, and the logs judged by it. Assumes nothing.
use Rattle.batch.proofs.judge_logs.Goals as goal

pub returns : goal.returns
returns c = c.logs_lent.ensures c.args.table c.pack.ensures
