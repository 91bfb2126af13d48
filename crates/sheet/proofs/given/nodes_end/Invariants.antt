use Prim.Native.Nat.{◌<◌}
use Rattle.aldlf.specs.Constants.{node_limit}
use Rattle.aldlf.specs.Sheet.{no_line}
use Rattle.aldlf.specs.declared.Table.{Table}
use Rattle.packing.specs.Packed.{Packed}
use Rattle.sheet.proofs.Each.{from_on}
use Rattle.sheet.specs.Given.{is_no_line}
use Rattle.sheet.specs.Questions.{each}
use lib.ListN.{get_or}
use mathlib.Core.Bool.{true}
use mathlib.Core.Path.{◌≡◌}
use Rattle.sheet.proofs.given.nodes_end.Given as goal

abbrev pub invariant-loop-i : goal.invariant-loop-i
invariant-loop-i l = (node_limit < l.i → l.all ≡ true) × ((t : Table) → Packed t l.numbers → l.all ≡ each (from_on (λ k. is_no_line (get_or t.nodes k no_line)) l.n) l.i)
