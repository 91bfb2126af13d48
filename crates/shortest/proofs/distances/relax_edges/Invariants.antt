use Prim.Native.Nat.{◌≤◌, ◌<◌, ◌-◌, ◌%◌}
use mathlib.Core.Path.{◌≡◌}
use Rattle.reach.specs.Marks.{paired}
use Rattle.graph.specs.Graph.{at}
use Rattle.graph.specs.Arcs.{unpacked_of}
use Rattle.graph.specs.Configurations.{graph_of}
use Rattle.shortest.proofs.Turns.{Turn}
use Rattle.shortest.proofs.distances.relax_edges.Given as goal

abbrev pub invariant-loop-k : goal.invariant-loop-k
invariant-loop-k l = (l.q.first ≤ l.k) × (l.k < l.last → (unpacked_of (at l.arcs l.k)).to.0 ≡ l.c % l.q.states) × Turn (graph_of l.arcs l.q (paired l.words)) l.initial.dist l.initial.queue l.head l.initial.tail l.dist l.queue l.k l.tail

abbrev pub decreases-loop-k : goal.decreases-loop-k
decreases-loop-k l = l.last - l.k
