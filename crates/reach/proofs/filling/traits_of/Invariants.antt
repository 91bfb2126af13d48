-- traits_of: the edges passed.
use Rattle.reach.specs.Columns.{Told}
use Rattle.reach.specs.Tests.{Tested}
use Rattle.reach.proofs.filling.traits_of.Given as goal

abbrev pub invariant-loop-p : goal.invariant-loop-p
invariant-loop-p l = Told l.fn.edges l.looks l.p-index × Tested l.fn.edges l.tested l.p-index
