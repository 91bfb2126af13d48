use Prim.Native.Nat.{◌-◌}
use mathlib.Core.Path.{◌≡◌}
use lib.ListN.{length}
use Rattle.reach.specs.Marks.{paired}
use Rattle.graph.specs.Configurations.{graph_of}
use Rattle.shortest.specs.Progress.{Progress, zero_in}
use Rattle.shortest.proofs.distances.spread.Given as goal

abbrev pub invariant-loop-head : goal.invariant-loop-head
invariant-loop-head l = Progress (graph_of l.arcs l.q (paired l.words)) (zero_in l.initial.dist) l.dist l.queue l.head l.q.first l.tail × (length l.dist ≡ length l.initial.dist) × (length l.queue ≡ length l.initial.queue)

abbrev pub decreases-loop-head : goal.decreases-loop-head
decreases-loop-head l = 8192 - l.head
