-- fill: the columns of the entries passed.
use Rattle.reach.specs.Columns.{Filling}
use Rattle.reach.specs.Marks.{paired}
use lib.ListN.{length}
use mathlib.Core.Path.{◌≡◌}
use Rattle.reach.proofs.filling.fill.Given as goal

abbrev pub invariant-loop-i : goal.invariant-loop-i
invariant-loop-i l = (length l.seen ≡ 251) × Filling l.edges (paired l.words) (length (paired l.words)) l.i l.steps
