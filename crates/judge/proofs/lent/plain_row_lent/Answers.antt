-- `plain_row_lent` meets its contract, for a table that some sheet gives and for any other. Assumes nothing.
use Rattle.std.specs.Prelude.{ℕ}
use Rattle.aldlf.specs.Outcomes.{plain_row}
use Rattle.aldlf.specs.declared.Row.{Row}
use Rattle.judge.proofs.Demand.{plain_answer_given, plain_answer_refused}
use Rattle.judge.specs.Answers.{PartAnswer}
use Rattle.stands.specs.Trimmed.{rule_table}
use Rattle.stands.proofs.TrimLaws.{rule_table_sheet}
use Rattle.std.proofs.lemmas.Result.{err_from_is_err_and}
use mathlib.Core.Path.{◌∙◌, ap, sym}
use Rattle.judge.proofs.lent.plain_row_lent.Goals as goal

abbrev answer : ℕ → Row → PartAnswer
answer number row = record { number = number; row = row }

pub returns-in_err-given_rule_numbers : goal.returns-in_err-given_rule_numbers
returns-in_err-given_rule_numbers c =
    let p = err_from_is_err_and c.from_residual.result c.from_residual.ensures.1 in
    let g = c.in_err-given_rule_numbers.ensures in
    λ t P. rw (p.1, p.2, g.refused) (sym (plain_answer_refused t (sym (g.asked t P))))

pub end_row-requires : goal.end_row-requires
end_row-requires c = let (t, P) = c.requires in (rule_table t, c.in_ok-given_rule_numbers.ensures.lent t P)

pub returns : goal.returns
returns c =
    let g = c.in_ok-given_rule_numbers.ensures in
    λ t P. ap (answer 0) (c.end_row.ensures (rule_table t) (g.lent t P) ∙ ap plain_row (rule_table_sheet t)) ∙ sym (plain_answer_given t (sym (g.asked t P)))
