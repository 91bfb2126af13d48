-- put_edges: those passed stand in their places.
use Prim.Native.Nat.{ℕ}
use Rattle.aldlf.specs.Sheet.{no_edge}
use Rattle.packing.specs.Numbers.{edge_in}
use Rattle.packing.specs.Packed.{Put}
use lib.ListN.{get_or}
use mathlib.Core.Path.{◌≡◌}
use Rattle.packing.proofs.writing.put_edges.Given as goal

abbrev pub invariant-loop-e : goal.invariant-loop-e
invariant-loop-e l = Put (λ (k p : ℕ). edge_in p ≡ get_or l.fn.edges k no_edge) 0 l.e l.initial.numbers l.numbers
