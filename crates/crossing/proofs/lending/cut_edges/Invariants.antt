-- cut_edges: the bytes passed are cut.
use Prim.Native.Nat.{ℕ, ◌%◌}
use Rattle.crossing.proofs.Lent.{SoFar, edge_byte}
use Rattle.crossing.specs.Numbers.{is_byte}
use Rattle.crossing.specs.Steps.{edge_bytes}
use Rattle.crossing.proofs.lending.cut_edges.Given as goal

abbrev pub invariant-loop-k : goal.invariant-loop-k
invariant-loop-k l = SoFar is_byte (λ (b : ℕ). b) (λ (x : ℕ). x % 256) (edge_byte l.xs) 0 0 edge_bytes l.k l.fit l.initial.bytes l.bytes
