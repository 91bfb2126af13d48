-- join: the states passed.
use Rattle.reach.specs.Columns.{Joined}
use Rattle.reach.proofs.steps.join.Given as goal

abbrev pub invariant-loop-k : goal.invariant-loop-k
invariant-loop-k l = Joined l.initial.steps l.place l.k l.steps
