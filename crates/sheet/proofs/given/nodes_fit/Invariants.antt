use Rattle.sheet.specs.Given.{node_ok}
use Rattle.sheet.specs.Questions.{each}
use Rattle.aldlf.specs.declared.Table.{Table}
use Rattle.packing.specs.Packed.{Packed}
use mathlib.Core.Path.{◌≡◌}
use mathlib.Core.Bool.{true}
use Rattle.sheet.proofs.given.nodes_fit.Given as goal

abbrev pub invariant-loop-i : goal.invariant-loop-i
invariant-loop-i l = (t : Table) → Packed t l.numbers → each (node_ok t) l.i ≡ true
