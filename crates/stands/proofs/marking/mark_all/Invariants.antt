use mathlib.Core.Path.{◌≡◌}
use lib.ListN.{length}
use Rattle.aldlf.specs.Constants.{node_limit, automaton_limit}
use Rattle.aldlf.specs.Sheet.{sheet_of}
use Rattle.aldlf.specs.Stands.{stands_from}
use Rattle.aldlf.specs.declared.Table.{Table}
use Rattle.sheet.specs.Facts.{Lent}
use Rattle.stands.specs.Marking.{Taken}
use Rattle.stands.proofs.marking.mark_all.Given as goal

abbrev pub invariant-loop-k : goal.invariant-loop-k
invariant-loop-k l =
    (length l.flags ≡ node_limit) × (length l.taken ≡ automaton_limit)
    × ((t : Table) → Lent t l.numbers → Taken (sheet_of t) l.flags l.taken × (stands_from (sheet_of t) l.k l.flags ≡ stands_from (sheet_of t) t.used.nodes l.initial.flags))
