-- put_edges: those passed stand in their places.
use Prim.Native.Nat.{ℕ, ◌*◌}
use Rattle.crossing.specs.Numbers.{edge_size, edge_at}
use Rattle.packing.specs.Numbers.{edge_in}
use Rattle.packing.specs.Packed.{Put}
use mathlib.Core.Path.{◌≡◌}
use Rattle.crossing.proofs.lending.put_edges.Given as goal

abbrev pub invariant-loop-k : goal.invariant-loop-k
invariant-loop-k l = Put (λ (e p : ℕ). edge_in p ≡ edge_at l.bytes (edge_size * e)) 0 l.k l.initial.numbers l.numbers
