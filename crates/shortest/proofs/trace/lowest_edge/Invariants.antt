use Prim.Native.Nat.{ℕ, ◌+◌, ◌≤◌, ◌<◌, ◌-◌}
use mathlib.Core.Path.{◌≡◌}
use Rattle.reach.specs.Marks.{paired}
use Rattle.graph.specs.Graph.{Step, at}
use Rattle.graph.specs.Arcs.{unpacked_of}
use Rattle.graph.specs.Configurations.{graph_of}
use Rattle.shortest.specs.Descent.{number_of}
use Rattle.shortest.proofs.trace.lowest_edge.Given as goal

abbrev pub invariant-loop-entry : goal.invariant-loop-entry
invariant-loop-entry l =
    (l.q.first ≤ l.k) × (l.k < l.q.first + l.q.count) × ((unpacked_of (at l.arcs l.k)).from.0 ≡ l.wanted.from.state.0)
    × ((a r : ℕ) → a < l.k → Step (graph_of l.arcs l.q (paired l.words)) (number_of l.q.states l.wanted.from) a r → at l.dist r ≡ l.wanted.distance → ⊥)

abbrev pub decreases-loop-entry : goal.decreases-loop-entry
decreases-loop-entry l = l.q.first + l.q.count - l.k
