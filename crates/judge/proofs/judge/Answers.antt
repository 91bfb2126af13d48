-- `judge` meets its contract: the table is packed, and the log judged by it. Assumes nothing.
use Rattle.judge.proofs.judge.Goals as goal

pub returns : goal.returns
returns c = let t = c.args.table in
    let P = c.pack.ensures in
    let r = c.judge_lent.ensures in
    record { verdicts_after = r.verdicts_after t P; result_value = r.result_value t P }
