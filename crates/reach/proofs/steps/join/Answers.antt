-- `join` meets its contract: steps by way of one state more at each turn. Assumes nothing.
use Rattle.reach.proofs.Made.{joined_next}
use native.Mathlib.Omega.{arith}
use Rattle.reach.proofs.steps.join.Goals as goal

pub loop-k-preserved : goal.loop-k-preserved
loop-k-preserved c = let l = c.loop-k in joined_next c.args.steps.now c.args.place l.k (omega (arith, c.loop-k-test.true)) l.steps _ l.invariant c.pivot.ensures
