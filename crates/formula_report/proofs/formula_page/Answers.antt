-- formula_page meets its contract: it is the line of a refused formula, or the page by the table that the formula was read to. Assumes nothing.
use Prim.Native.Nat.{ℕ}
use mathlib.Core.Path.{ap, sym, ◌∙◌}
use mathlib.Core.List.{List}
use Rattle.compile.specs.Answers.{FormulaAnswer, answer_by}
use Rattle.compile.proofs.Results.{is_refusal}
use Rattle.appending.specs.Placed.{placed}
use Rattle.formula_report.specs.FormulaPage.{read_formula_page, formula_page_of, formula_page_outcome}
use Rattle.formula_report.proofs.Pages.{read_refused}
use Rattle.formula_report.proofs.formula_page.Goals as goal
use Rattle.std.specs.Prelude.{Err}

pub returns-in-Ok : goal.returns-in-Ok
unfolding formula_page_of formula_page_outcome read_formula_page
returns-in-Ok c =
    let a = c.args in
    c.rule_page.ensures ∙ ap (λ (f : FormulaAnswer). placed 44 (read_formula_page f a.steps.now) a.out.now) c.in-Ok.ensures

pub returns-in-Err : goal.returns-in-Err
unfolding formula_page_of formula_page_outcome
returns-in-Err c =
    let a = c.args in
    c.refused_page.ensures
    ∙ ap (λ (l : List ℕ). placed 44 l a.out.now) (sym (read_refused (answer_by (Err c.in-Err.r)) a.steps.now (is_refusal c.in-Err.r)))
    ∙ ap (λ (f : FormulaAnswer). placed 44 (read_formula_page f a.steps.now) a.out.now) c.in-Err.ensures
