-- A line that the numbers of a given table have at a place in use names what is within the limits.
use Prim.Native.Nat.{ℕ, ◌<◌}
use mathlib.Core.Path.{sym, subst}
use mathlib.Core.List.{List}
use Rattle.aldlf.specs.declared.NodeLine.{NodeLine}
use Rattle.aldlf.specs.declared.Table.{Table}
use Rattle.aldlf.specs.declared.Used.{Used}
use Rattle.packing.specs.Numbers.{lent_line, lent_used}
use Rattle.sheet.specs.Facts.{Lent}
use Rattle.sheet.proofs.InUse.{node_used, line_lent}
use Rattle.stands.specs.Marking.{LineIn}
use Rattle.stands.proofs.MarkLaws.{line_in}

pub line_named : (t : Table) (numbers : List ℕ) (L : Lent t numbers) (k : ℕ) → k < (lent_used numbers).nodes → LineIn (lent_used numbers).automata (lent_line numbers k)
line_named t numbers L k l =
    subst (λ (u : Used). LineIn u.automata (lent_line numbers k)) (sym L.packed.used_is)
    (subst (λ (x : NodeLine). LineIn t.used.automata x) (sym (line_lent t numbers L k l)) (line_in t L.facts k (node_used t numbers L k l)))
