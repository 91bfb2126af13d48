-- page meets its contract: it is the line of a refused sheet, or the page by the table that the sheet was read to. Assumes nothing.
use Prim.Native.Nat.{ℕ}
use mathlib.Core.Path.{refl, ap, sym, ◌∙◌}
use mathlib.Core.List.{List}
use Rattle.sheet.specs.Answers.{SheetAnswer}
use Rattle.sheet.specs.Questions.{accepted}
use Rattle.sheet.proofs.Stops.{some_number}
use Rattle.appending.specs.Placed.{placed}
use Rattle.report.specs.Page.{sheet_page, page_of, page_outcome}
use Rattle.report.proofs.Pages.{sheet_refused, sheet_read}
use Rattle.report.proofs.page.Goals as goal

pub returns-in-Ok : goal.returns-in-Ok
unfolding page_of page_outcome
returns-in-Ok c =
    let a = c.args in
    c.rule_page.ensures
    ∙ ap (λ (l : List ℕ). placed 44 l a.out.now) (sym (sheet_read (accepted c.in-Ok.table) a.steps.now refl))
    ∙ ap (λ (s : SheetAnswer). placed 44 (sheet_page s a.steps.now) a.out.now) c.in-Ok.ensures

pub returns-in-Err : goal.returns-in-Err
unfolding page_of page_outcome
returns-in-Err c =
    let a = c.args in
    let r = c.in-Err.refusal in
    c.refused_page.ensures
    ∙ ap (λ (l : List ℕ). placed 44 l a.out.now) (sym (sheet_refused _ a.steps.now (some_number r.question)))
    ∙ ap (λ (s : SheetAnswer). placed 44 (sheet_page s a.steps.now) a.out.now) c.in-Err.ensures
