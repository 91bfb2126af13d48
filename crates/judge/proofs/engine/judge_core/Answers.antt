-- `judge_core` meets its contract: scratch for a few entries, or for as many as a log may have. Assumes nothing.
use Rattle.aldlf.specs.Constants.{entry_limit}
use Rattle.judge.proofs.Adds.{zeros_at}
use native.Mathlib.Omega.{arith}
use Rattle.std.specs.Prelude.{◌*◌}
use Rattle.judge.proofs.engine.judge_core.Goals as goal

pub judge_in-requires : goal.judge_in-requires
judge_in-requires c =
    let few = c.if-log-le-FEW.true in
    record { lent = c.requires.lent; log_in_bounds = c.requires.log_in_bounds; log_in_bounds_2 = (omega arith, omega arith, few); by_index = λ i. zeros_at (2 * 32) i }

pub judge_in-requires-2 : goal.judge_in-requires-2
judge_in-requires-2 c =
    let n = c.requires.log_in_bounds.1 in
    record { lent = c.requires.lent; log_in_bounds = c.requires.log_in_bounds; log_in_bounds_2 = (omega arith, omega arith, n); by_index = λ i. zeros_at (2 * entry_limit) i }
