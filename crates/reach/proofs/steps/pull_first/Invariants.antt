-- pull_first: the target states passed.
use Rattle.reach.specs.Columns.{Pulled}
use Rattle.reach.proofs.steps.pull_first.Given as goal

abbrev pub invariant-loop-t : goal.invariant-loop-t
invariant-loop-t g l = Pulled l.steps l.place l.mask l.t l.found
