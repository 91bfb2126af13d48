-- `pivot` meets its contract: one column more at each turn; where no step leads to the state nothing changes. Assumes nothing.
use Rattle.reach.proofs.Made.{pivoted_empty}
use Rattle.aldlf.specs.Constants.{state_limit}
use Rattle.reach.proofs.steps.pivot.Goals as goal

pub returns-then-into-eq0 : goal.returns-then-into-eq0
returns-then-into-eq0 c = let a = c.args in pivoted_empty a.steps.now a.place a.k state_limit c.if-into-eq0.true
