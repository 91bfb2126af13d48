-- THE TABLE MADE OF A FORMULA AGREES WITH IT: its rule holds at an entry of a log exactly where the formula does. For the formula stands on the table's sheet.
use Prim.Native.Nat.{ℕ, ◌+◌}
use native.Mathlib.Omega.{arith}
use mathlib.Core.Path.{◌≡◌, subst}
use mathlib.Core.Logic.{◌↔◌}
use mathlib.Core.Bool.{true}
use mathlib.Core.List.{List}
use Rattle.aldlf.specs.Sheet.{sheet_of}
use Rattle.aldlf.specs.Meaning.{Holds}
use Rattle.sheet.specs.Questions.{with_node}
use Rattle.formula.specs.Formula.{Formula, Sat}
use Rattle.formula.specs.Numbering.{under, made, newest, first_table, table_of}
use Rattle.formula.specs.Outcome.{fits_sheet}
use Rattle.formula.proofs.Making.{makes, first_sized}
use Rattle.formula.proofs.Counts.{made_adds, fits_iff}
use Rattle.formula.proofs.Agree.{agree}
use Rattle.formula.proofs.Placing.{on_self, on_makes, line_first, placed}

-- for every formula within the sheet's limits, every log and every entry
pub sheet_agrees : (a : Formula) → fits_sheet a ≡ true → (log : List ℕ) (i : ℕ) → Holds (sheet_of (table_of a)) log (newest (table_of a)) i ↔ Sat a log i
unfolding table_of with_node
sheet_agrees a fits log i =
    let w = (fits_iff a).0 fits in
    let t = made a first_table in
    let c = made_adds a first_table in
    let o = on_self t in
    let first = line_first (sheet_of t) (on_makes (sheet_of t) (makes a first_table) o) in
    let q : 1 + under a ≡ newest t = omega arith in
    subst (λ (k : ℕ). Holds (sheet_of t) log k i ↔ Sat a log i) q
    (agree (sheet_of t) log first a 1 0 0 (omega arith) (placed (sheet_of t) a first_table first_sized (omega arith) o) i)
