use mathlib.Core.Path.{◌≡◌}
use lib.ListN.{length}
use Rattle.aldlf.specs.Constants.{automaton_limit}
use Rattle.aldlf.specs.Sheet.{sheet_of}
use Rattle.aldlf.specs.declared.Table.{Table}
use Rattle.sheet.specs.Facts.{Lent}
use Rattle.stands.specs.Looking.{SheetLooks, Asked}
use Rattle.stands.proofs.looking.looks_in.Given as goal

abbrev pub invariant-loop-k : goal.invariant-loop-k
invariant-loop-k l =
    (length l.asked ≡ automaton_limit) × ((t : Table) → Lent t l.numbers → SheetLooks (sheet_of t) l.k l.looks × Asked (sheet_of t) l.looks l.asked)
