-- pivot: the columns passed.
use Prim.Native.Nat.{◌+◌, ◌-◌}
use mathlib.Core.Path.{◌≡◌}
use Rattle.reach.specs.Marks.{at}
use Rattle.reach.specs.Columns.{Pivoted}
use Rattle.reach.proofs.steps.pivot.Given as goal

abbrev pub invariant-loop-u : goal.invariant-loop-u
invariant-loop-u l = Pivoted l.initial.steps l.place l.k (l.u - l.place) l.steps × (l.into ≡ at l.initial.steps (l.place + l.k))
