-- THE PAGE BY A FORMULA IS THAT OF ITS SHEET: a refused text has its line alone; an accepted one has the page of the table that it reads to, as a
-- sheet's text that reads to the same table has it; and there a 1 stands exactly where the formula holds.
use Prim.Native.Nat.{ℕ, ◌<◌}
use mathlib.Core.Path.{◌≡◌, ap, sym, subst, ◌∙◌}
use mathlib.Core.Logic.Iff
use mathlib.Core.Logic.{◌↔◌}
use mathlib.Core.Bool.{true}
use mathlib.Core.List.{List}
use lib.ListN.{length}
use borrow.Author.Tests.{eq-eqb, ne_eqb}
use Rattle.aldlf.specs.Constants.{entry_limit}
use Rattle.aldlf.specs.Sheet.{sheet_of}
use Rattle.aldlf.specs.Meaning.{Holds}
use Rattle.aldlf.specs.Outcomes.{log_words}
use Rattle.aldlf.specs.declared.Table.{Table}
use Rattle.sheet.specs.Questions.{read_sheet}
use Rattle.sheet.specs.Given.{well_formed}
use Rattle.joblog.specs.Log.{entries, read_log}
use Rattle.joblog.proofs.Answers.{Accepted, Sound, sound_log}
use Rattle.lines.specs.Lines.{refusal_line, verdict_digit}
use Rattle.formula.specs.Formula.{Formula, Sat}
use Rattle.formula.specs.Grammar.{Writes}
use Rattle.compile.specs.Answers.{FormulaAnswer, formula_answer}
use Rattle.compile.proofs.Request.{formula_right}
use Rattle.report.specs.Page.{rule_of, rule_page, page_of}
use Rattle.report.specs.Readable.{read_page}
use Rattle.report.proofs.Pages.{sheet_read}
use Rattle.report.proofs.Printed.{printed_iff}
use Rattle.report.proofs.Readable.{judged, words, log_page_read}
use Rattle.formula_report.specs.FormulaPage.{read_formula_page, formula_page_of}

-- a formula as read: the line of its refusal, or the page by its table
module _ (a : FormulaAnswer) (steps : List ℕ) where
  pub read_refused : (a.number ≡ 0 → ⊥) → read_formula_page a steps ≡ refusal_line a.number a.place
  unfolding read_formula_page
  read_refused z = rw (ne_eqb a.number 0 z)

  pub read_accepted : a.number ≡ 0 → read_formula_page a steps ≡ rule_page a.table steps
  unfolding read_formula_page
  read_accepted z = rw (eq-eqb a.number 0 z)

module _ (rule steps : List ℕ) where
  abbrev f : FormulaAnswer
  f = formula_answer rule

  -- a refused formula: the log is not looked at
  pub formula_refused : (f.number ≡ 0 → ⊥) → formula_page_of rule steps ≡ refusal_line f.number f.place
  unfolding formula_page_of
  formula_refused = read_refused f steps

  pub formula_read : f.number ≡ 0 → formula_page_of rule steps ≡ rule_page f.table steps
  unfolding formula_page_of
  formula_read = read_accepted f steps

  -- a sheet that reads to the formula's table has the same page
  pub sheet_same : (rules : List ℕ) → f.number ≡ 0 → (read_sheet rules).number ≡ 0 → (read_sheet rules).table ≡ f.table → page_of rules steps ≡ formula_page_of rule steps
  unfolding page_of
  sheet_same rules z y e =
      let a = read_sheet rules in
      sheet_read a steps y ∙ ap (λ (t : Table). rule_page t steps) e ∙ sym (formula_read z)

-- a formula that was accepted, and a log that was read
module _ (rule steps log : List ℕ) (z : (formula_answer rule).number ≡ 0) (read : read_log steps entry_limit ≡ entries log) where
  abbrev t : Table
  t = (formula_answer rule).table

  given : well_formed t ≡ true
  given = (formula_right rule).given z

  -- the page is no refusal: the verdicts, the count held, and the rule's walk or `walk,none`
  pub formula_page_read : formula_page_of rule steps ≡ read_page t log
  formula_page_read = formula_read rule steps z ∙ log_page_read t steps log given read

  -- the digit that it prints at an entry is 1 exactly where the rule of the formula's sheet holds by Definition 4
  digit_iff : (i : ℕ) → i < length log → (verdict_digit (log_words (sheet_of t) log) i (rule_of t) ≡ 1) ↔ Holds (sheet_of t) log (rule_of t) i
  digit_iff i l =
      let x : Accepted entry_limit log = subst (Sound entry_limit) read (sound_log steps entry_limit) in
      subst (λ (ws : List ℕ). (verdict_digit ws i (rule_of t) ≡ 1) ↔ Holds (sheet_of t) log (rule_of t) i) (words t log given x.some x.limit) (printed_iff t log (judged t log given x.some x.limit) i l)

  -- and so exactly where the formula that the text writes does
  pub formula_printed_iff : (a : Formula) → Writes a rule → (i : ℕ) → i < length log → (verdict_digit (log_words (sheet_of t) log) i (rule_of t) ≡ 1) ↔ Sat a log i
  formula_printed_iff a w i l = Iff.trans (digit_iff i l) ((formula_right rule).agrees z a w log i)
