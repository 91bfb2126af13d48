-- `judge_lent` meets its contract: refused by the first no, else the core at the plain row. Assumes nothing.
use Rattle.std.specs.Prelude.{◌≡◌, ℕ, ◌*◌, true, ◌&&◌, leb, List, ◌++◌, length, drop}
use Rattle.aldlf.proofs.Bools.{and_right}
use Rattle.aldlf.specs.Constants.{entry_limit}
use Rattle.aldlf.specs.Refusals.{refusal_number}
use Rattle.aldlf.specs.Outcomes.{whole_number}
use Rattle.aldlf.specs.Sheet.{sheet_of}
use Rattle.aldlf.specs.declared.Table.{Table}
use Rattle.sheet.proofs.Sound.{sound}
use Rattle.judge.specs.Nodes.{AllPlain}
use Rattle.judge.proofs.GivenLaws.{plain_is_plain}
use Rattle.aldlf.proofs.Outcomes.{three_yes, whole_accepted, whole_refused}
use Rattle.judge.proofs.OutcomeLaws.{some_number, plain_held, plain_words}
use Rattle.sheet.specs.Facts.{Lent}
use Rattle.packing.specs.Packed.{Packed}
use Rattle.sheet.proofs.Facts.{table_facts}
use Rattle.sheet.specs.Given.{well_formed}
use borrow.Author.Tests.{eq-eqb, leb-true, ne_eqb}
use Rattle.std.proofs.lemmas.Result.{err_from_is_err_and}
use mathlib.Core.Path.{◌∙◌, ap, subst, sym}
use Rattle.judge.proofs.lent.judge_lent.Goals as goal
use Rattle.judge.proofs.lent.judge_lent.Goals.{In_ok-whole_question}

-- all questions got a yes
yes : (c : In_ok-whole_question) → let n = length c.args.log.now in (t : Table) → Packed t c.args.numbers.now → (well_formed t ≡ true) × (leb 1 n && leb n entry_limit ≡ true) × (leb (2 * n) (length c.args.verdicts.now) ≡ true)
yes c t P =
    let n = length c.args.log.now in
    three_yes (well_formed t) (leb 1 n && leb n entry_limit) (leb (2 * n) (length c.args.verdicts.now)) (sym (c.in_ok-whole_question.ensures t P))

lent : (c : In_ok-whole_question) → (t : Table) → Packed t c.args.numbers.now → Lent t c.args.numbers.now
lent c t P = record { facts = table_facts t (yes c t P).0; packed = P }

pub returns-in_err-whole_question : goal.returns-in_err-whole_question
unfolding whole_number
returns-in_err-whole_question c =
    let q = c.in_err-whole_question in
    let r = q.field-0.0 in
    let p = err_from_is_err_and c.from_residual.result c.from_residual.ensures.1 in record {
      verdicts_after = λ t P. rw (p.1, p.2) (whole_refused (well_formed t) (sheet_of t) c.args.log.now c.args.verdicts.now (refusal_number r) (q.ensures t P) (some_number r));
      result_value = λ t P. rw p.1 (sym (ne_eqb _ 0 (λ z. some_number r (q.ensures t P ∙ z))));
    }

pub end_row-row-requires : goal.end_row-row-requires
end_row-row-requires c = (c.requires.0, lent (goal.at.end_row-row-requires c).In_ok-whole_question c.requires.0 c.requires.1)

pub judge_core-a-requires : goal.judge_core-a-requires
judge_core-a-requires c =
    let n = length c.args.log.now in
    let y = yes (goal.at.judge_core-a-requires c).In_ok-whole_question c.requires.0 c.requires.1 in
    record { lent = (c.requires.0, lent (goal.at.judge_core-a-requires c).In_ok-whole_question c.requires.0 c.requires.1); log_in_bounds = (leb-true (2 * n) (length c.args.verdicts.now) y.2, leb-true n entry_limit (and_right (leb 1 n) (leb n entry_limit) y.1)) }

pub returns : goal.returns
unfolding whole_number sheet_of
returns c =
    let log = c.args.log.now in
    let row = c.end_row-row in
    let q = c.in_ok-whole_question in record {
      verdicts_after = λ t P.
          let T = sheet_of t in
          let L = lent (goal.at.returns c).In_ok-whole_question t P in
          let d = c.judge_core-a.ensures t L in
          let is_plain = subst (AllPlain T) (sym (row.ensures t L)) (plain_is_plain t L.facts) in
          whole_accepted (well_formed t) T log c.args.verdicts.now _ _ (sym (q.ensures t P))
          (d.done.held_is ∙ plain_held T (sound t L.facts) row.result is_plain log _ d.done.words_are)
          (d.put ∙ ap (λ (l : List ℕ). l ++ drop (2 * length log) c.args.verdicts.now) (d.done.words_are ∙ plain_words T (sound t L.facts) row.result is_plain log));
      result_value = λ t P. sym (eq-eqb _ 0 (sym (q.ensures t P)));
    }
