use Rattle.sheet.specs.Questions.{edges_of, each_state}
use Rattle.aldlf.specs.declared.Table.{Table}
use Rattle.packing.specs.Packed.{Packed}
use mathlib.Core.Path.{◌≡◌}
use mathlib.Core.Bool.{true}
use Rattle.sheet.proofs.closing.each_state.Given as goal

abbrev pub invariant-loop-s : goal.invariant-loop-s
invariant-loop-s l = (t : Table) → Packed t l.numbers → each_state (edges_of t.edges l.x) l.s ≡ true
