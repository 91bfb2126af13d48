use Prim.Native.Nat.{◌+◌, ◌≤◌}
use mathlib.Core.Path.{◌≡◌}
use lib.ListN.{length}
use Rattle.aldlf.specs.declared.Table.{Table}
use Rattle.packing.specs.Packed.{Packed}
use Rattle.graph.specs.Arcs.{Chained}
use Rattle.graph.proofs.edges.chain_edges.Given as goal

abbrev pub invariant-loop-e : goal.invariant-loop-e
invariant-loop-e l = (l.fn.q.first ≤ l.e) × (length l.arcs ≡ length l.initial.arcs) × ((t : Table) → Packed t l.numbers → Chained t.edges l.e (l.fn.q.first + l.fn.q.count) l.arcs)
