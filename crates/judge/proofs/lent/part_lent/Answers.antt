-- `part_lent` meets its contract: refused by the first no, else as the core gives for the table in which the other nodes are false. Assumes nothing.
use Rattle.std.specs.Prelude.{◌≡◌, ℕ, ◌*◌, leb, List, [], ◌∷◌, ◌++◌, length, drop}
use Rattle.aldlf.specs.Constants.{entry_limit}
use Rattle.aldlf.specs.Outcomes.{bits_of, first_no, pack_row, part_number, part_words}
use Rattle.aldlf.specs.Parts.{looks_only}
use Rattle.aldlf.specs.Sheet.{Sheet, sheet_of}
use Rattle.aldlf.specs.Verdict.{row_of}
use Rattle.aldlf.specs.declared.Refusal.TheVariants.{NotGiven}
use Rattle.aldlf.specs.declared.Table.{Table}
use Rattle.judge.specs.Nodes.{may_cut}
use Rattle.judge.proofs.OutcomeLaws.{part_accepted, part_refused}
use Rattle.judge.proofs.QuestionLaws.{part-number, part_number_31, four_yes}
use Rattle.packing.specs.Packed.{Packed}
use Rattle.sheet.specs.Given.{well_formed}
use Rattle.stands.specs.Trimmed.{rule_table}
use Rattle.stands.proofs.TrimLaws.{rule_table_sheet}
use borrow.Author.Tests.{leb-true}
use Rattle.std.proofs.lemmas.Result.{err_from_is_err_and}
use mathlib.Core.Path.{◌∙◌, ap, sym}
use Rattle.judge.proofs.lent.part_lent.Goals as goal
use Rattle.judge.proofs.lent.part_lent.Goals.{After-rule_ways}

-- the first no after question 31 is that of all four questions
asked : (c : After-rule_ways) → (t : Table) → Packed t c.args.numbers.now → (q : ℕ)
    → q ≡ first_no ((may_cut c.rule_ways.result c.args.way, 34) ∷ (leb (length c.args.words.now) entry_limit, 32) ∷ (leb (2 * length c.args.words.now) (length c.args.verdicts.now), 33) ∷ [])
    → q ≡ part_number (well_formed t) c.args.way (sheet_of t) c.args.words.now c.args.verdicts.now
asked c t P =
    let g = c.in_ok-given_rule_numbers.ensures in
    part-number t c.rule_ways.result c.args.way c.args.words.now c.args.verdicts.now (sym (g.asked t P)) (c.rule_ways.ensures t (g.lent t P))

pub returns-in_err-given_rule_numbers : goal.returns-in_err-given_rule_numbers
returns-in_err-given_rule_numbers c =
    let p = err_from_is_err_and c.from_residual.result c.from_residual.ensures.1 in
    let g = c.in_err-given_rule_numbers.ensures in
    λ t P. rw (p.1, p.2, g.refused) (part_refused (well_formed t) c.args.way (sheet_of t) c.args.row c.args.words.now c.args.verdicts.now NotGiven (part_number_31 t c.args.way c.args.words.now c.args.verdicts.now (sym (g.asked t P))))

pub rule_ways-requires : goal.rule_ways-requires
rule_ways-requires c = let (t, P) = c.requires in (t, c.in_ok-given_rule_numbers.ensures.lent t P)

pub returns-in_err-part_question : goal.returns-in_err-part_question
returns-in_err-part_question c =
    let at = goal.at.returns-in_err-part_question c in
    let p = err_from_is_err_and c.from_residual-in_err-part_question.result c.from_residual-in_err-part_question.ensures.1 in
    λ t P. rw (p.1, p.2) (part_refused (well_formed t) c.args.way (sheet_of t) c.args.row c.args.words.now c.args.verdicts.now c.in_err-part_question.field-0.0 (asked at.After-rule_ways t P _ c.in_err-part_question.ensures))

pub judge_core-a-requires : goal.judge_core-a-requires
unfolding part_number
judge_core-a-requires c =
    let (t, P) = c.requires in
    let n = length c.args.words.now in
    let at = goal.at.judge_core-a-requires c in
    let y = four_yes (well_formed t) (looks_only c.args.way (sheet_of t)) (leb n entry_limit) (leb (2 * n) (length c.args.verdicts.now)) (sym (asked at.After-rule_ways t P 0 c.in_ok-part_question.ensures)) in
    record { lent = (rule_table t, c.in_ok-given_rule_numbers.ensures.lent t P); log_in_bounds = (leb-true (2 * n) (length c.args.verdicts.now) y.2, leb-true n entry_limit y.1) }

pub returns : goal.returns
returns c =
    let words = c.args.words.now in
    let at = goal.at.returns c in
    λ t P.
    let d = c.judge_core-a.ensures (rule_table t) (c.in_ok-given_rule_numbers.ensures.lent t P) in
    part_accepted (well_formed t) c.args.way (sheet_of t) c.args.row words c.args.verdicts.now _ _ (sym (asked at.After-rule_ways t P 0 c.in_ok-part_question.ensures))
    (d.done.row_is ∙ ap (λ (R : Sheet). pack_row (row_of c.args.way R words (bits_of c.args.row))) (rule_table_sheet t))
    (d.put ∙ ap (λ (l : List ℕ). l ++ drop (2 * length words) c.args.verdicts.now) (d.done.words_are ∙ ap (λ (R : Sheet). part_words R (bits_of c.args.row) words) (rule_table_sheet t)))
