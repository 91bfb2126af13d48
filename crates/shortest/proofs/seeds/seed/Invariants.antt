use Prim.Native.Nat.{◌*◌}
use mathlib.Core.Path.{◌≡◌}
use lib.ListN.{length}
use Rattle.reach.specs.Marks.{paired}
use Rattle.shortest.specs.Progress.{Seeded}
use Rattle.shortest.specs.Goals.{goal_at}
use Rattle.shortest.proofs.seeds.seed.Given as goal

abbrev pub invariant-loop-j : goal.invariant-loop-j
invariant-loop-j l =
    (l.base ≡ l.j * l.q.states) × (length l.dist ≡ length l.initial.dist) × (length l.queue ≡ length l.initial.queue) × Seeded (goal_at (paired l.words) l.q l.goal) l.dist l.queue l.base l.tail
