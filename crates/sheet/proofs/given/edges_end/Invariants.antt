use Rattle.sheet.proofs.Each.{from_on}
use Rattle.sheet.specs.Given.{is_no_edge}
use Rattle.sheet.specs.Questions.{each}
use Rattle.aldlf.specs.Sheet.{no_edge}
use Rattle.aldlf.specs.declared.Table.{Table}
use Rattle.packing.specs.Packed.{Packed}
use Prim.Native.Nat.{◌<◌}
use mathlib.Core.Path.{◌≡◌}
use mathlib.Core.Bool.{true}
use lib.ListN.{get_or}
use Rattle.sheet.proofs.given.edges_end.Given as goal

abbrev pub invariant-loop-i : goal.invariant-loop-i
invariant-loop-i l = (256 < l.i → l.all ≡ true) × ((t : Table) → Packed t l.numbers → l.all ≡ each (from_on (λ k. is_no_edge (get_or t.edges k no_edge)) l.n) l.i)
