use Rattle.sheet.specs.Questions.{some_edge, edges_of}
use Rattle.aldlf.specs.declared.Table.{Table}
use Rattle.packing.specs.Packed.{Packed}
use Prim.Native.Nat.{◌-◌}
use mathlib.Core.Path.{◌≡◌}
use lib.ListN.{take, drop}
use Rattle.sheet.proofs.closing.some_edge.Given as goal

abbrev pub invariant-loop-i : goal.invariant-loop-i
invariant-loop-i l = (t : Table) → Packed t l.numbers → some_edge l.s (take (l.end - l.i) (drop l.i t.edges)) ≡ some_edge l.s (edges_of t.edges l.fn.x)
