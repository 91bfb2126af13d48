use mathlib.Core.Path.{◌≡◌}
use lib.ListN.{length}
use Rattle.aldlf.specs.Constants.{node_limit}
use Rattle.aldlf.specs.Sheet.{sheet_of}
use Rattle.aldlf.specs.Stands.{mark_tests}
use Rattle.aldlf.specs.declared.Table.{Table}
use Rattle.packing.specs.Packed.{Packed}
use Rattle.stands.proofs.marking.mark_tests.Given as goal

abbrev pub invariant-loop-c : goal.invariant-loop-c
invariant-loop-c l = (length l.flags ≡ node_limit) × ((t : Table) → Packed t l.numbers → l.flags ≡ mark_tests (sheet_of t) l.x.first l.c l.initial.flags)
