-- What an answer of the call says of the text, and of the sheet that it gives: document 02's S-7.
use Rattle.std.specs.Prelude.{ℕ, ◌<◌, ◌≡◌, ◌↔◌, true, List, length}
use Rattle.aldlf.specs.Sheet.{sheet_of}
use Rattle.aldlf.specs.Meaning.{Holds}
use Rattle.aldlf.specs.Verdict.{verdict}
use Rattle.sheet.specs.Given.{well_formed}
use Rattle.formula.specs.Formula.{Formula, Sat}
use Rattle.formula.specs.Grammar.{Writes}
use Rattle.formula.specs.Numbering.{newest}
use Rattle.formula.specs.Outcome.{Read, steps_plain, fits_sheet}
use Rattle.formula.specs.Answer.{Asked, Meant}
use Rattle.compile.specs.Answers.{FormulaAnswer, answer_of}

pub record FormulaRight (text : List ℕ) (r : FormulaAnswer) : Type 0 where
  -- the answer is the one that is meant: its number, its place, and all of its table
  pub meant : (q : Read) → Meant text q → r ≡ answer_of q
  -- and one is meant
  pub some : (q : Read) × Meant text q
  -- it is accepted exactly where the text writes a formula, is short and shallow enough, and neither 54 nor 53 applies
  pub accepts : (r.number ≡ 0) ↔ ((a : Formula) × Asked text a × (steps_plain a ≡ true) × (fits_sheet a ≡ true))
  -- then some sheet gives the table (31)
  pub given : r.number ≡ 0 → well_formed r.table ≡ true
  -- and its rule holds, by Definition 4, exactly where the formula that the text writes does, at every entry of every log
  pub agrees : r.number ≡ 0 → (a : Formula) → Writes a text → (log : List ℕ) (i : ℕ) → Holds (sheet_of r.table) log (newest r.table) i ↔ Sat a log i
  -- and so does the verdict that judging gives
  pub judged : r.number ≡ 0 → (a : Formula) → Writes a text → (log : List ℕ) (i : ℕ) → i < length log → (verdict (sheet_of r.table) log (newest r.table) i ≡ true) ↔ Sat a log i
