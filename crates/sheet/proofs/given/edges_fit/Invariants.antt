use Rattle.sheet.specs.Given.{edge_fits}
use Rattle.sheet.specs.Questions.{each}
use Rattle.aldlf.specs.Sheet.{no_edge}
use Rattle.aldlf.specs.declared.Table.{Table}
use Rattle.packing.specs.Packed.{Packed}
use Prim.Native.Nat.{◌+◌}
use mathlib.Core.Path.{◌≡◌}
use mathlib.Core.Bool.{true}
use lib.ListN.{get_or}
use Rattle.sheet.proofs.given.edges_fit.Given as goal

abbrev pub invariant-loop-j : goal.invariant-loop-j
invariant-loop-j l = (t : Table) → Packed t l.numbers → each (λ k. edge_fits l.p l.x (get_or t.edges (l.x.first + k) no_edge)) l.j ≡ true
