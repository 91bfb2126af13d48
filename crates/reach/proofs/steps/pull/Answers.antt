-- `pull` meets its contract: a mask of the first states meets only the first columns. Assumes nothing.
use Rattle.aldlf.specs.Constants.{state_limit}
use Rattle.reach.proofs.Pulled.{pulled_low}
use native.Mathlib.Omega.{arith}
use Rattle.reach.proofs.steps.pull.Goals as goal

pub returns-then-mask-lt16 : goal.returns-then-mask-lt16
returns-then-mask-lt16 c = let a = c.args in pulled_low a.steps.now a.place a.mask 4 state_limit _ (omega arith) c.if-mask-lt16.true c.pull_first.ensures
