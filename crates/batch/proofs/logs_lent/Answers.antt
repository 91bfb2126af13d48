-- `logs_lent` meets its contract: refused before anything is judged, else every log judged. Assumes nothing.
use mathlib.Core.Bool.{true}
use Rattle.aldlf.specs.Refusals.{refusal_number}
use Rattle.std.proofs.lemmas.Result.{err_from_is_err_and}
use Rattle.judge.proofs.OutcomeLaws.{some_number}
use mathlib.Core.Path.{◌≡◌, refl, sym, ap}
use lib.ListN.{length}
use Rattle.aldlf.specs.Sheet.{sheet_of}
use Rattle.aldlf.specs.declared.Table.{Table}
use Rattle.sheet.specs.Facts.{Lent}
use Rattle.judge.specs.Prepared.{Prepared}
use Rattle.packing.specs.Packed.{Packed}
use Rattle.sheet.specs.Given.{well_formed}
use Rattle.sheet.proofs.Facts.{table_facts}
use Rattle.batch.specs.Batch.{misfit, roomless}
use Rattle.batch.specs.Batch.{BatchAnswer}
use Rattle.batch.proofs.Answers.{accepted, ends_refused, ends_judged}
use Rattle.batch.proofs.logs_lent.Goals as goal
use Rattle.batch.proofs.logs_lent.Goals.{After-plain_of-plain, In_ok-asked}

-- all questions got a yes
yes : (c : In_ok-asked) → let a = c.args in (t : Table) → Packed t a.numbers.now → (well_formed t ≡ true) × (misfit (length a.words.now) a.lengths.now ≡ 0) × (roomless (length a.verdicts.now) (length a.held.now) a.lengths.now ≡ 0)
yes c t P =
    let a = c.args in
    accepted (well_formed t) (length a.words.now) a.lengths.now (length a.verdicts.now) (length a.held.now) (sym (ap (λ (x : BatchAnswer). x.number) (c.in_ok-asked.ensures t P)))

lent : (c : In_ok-asked) → (t : Table) → Packed t c.args.numbers.now → Lent t c.args.numbers.now
lent c t P = record { facts = table_facts t (yes c t P).0; packed = P }

prepared : (c : After-plain_of-plain) → (t : Table) → Lent t c.args.numbers.now → Prepared t c.plain_of-plain.result c.args.numbers.now
prepared c t L = record { lent = L; plain_is = c.plain_of-plain.ensures t L }

pub returns-in_err-asked : goal.returns-in_err-asked
returns-in_err-asked c =
    let a = c.args in
    let q = c.in_err-asked in
    let p = err_from_is_err_and c.from_residual.result c.from_residual.ensures.1 in
    λ t P. rw (p.1, p.2) (ends_refused (well_formed t) (sheet_of t) a.words.now a.lengths.now a.verdicts.now a.held.now (record { number = refusal_number q.field-0.0.question; log = q.field-0.0.log }) (q.ensures t P) (some_number q.field-0.0.question))

pub plain_of-plain-requires : goal.plain_of-plain-requires
plain_of-plain-requires c = (c.requires.0, lent (goal.at.plain_of-plain-requires c).In_ok-asked c.requires.0 c.requires.1)

pub judge_each-requires : goal.judge_each-requires
judge_each-requires c =
    let y = yes (goal.at.judge_each-requires c).In_ok-asked c.requires.0 c.requires.1 in
    record { prepared = (c.requires.0, prepared (goal.at.judge_each-requires c).After-plain_of-plain c.requires.0 (lent (goal.at.judge_each-requires c).In_ok-asked c.requires.0 c.requires.1)); lengths_value = y.1; lengths_value_2 = y.2 }

pub returns : goal.returns
returns c =
    let a = c.args in
    let q = c.in_ok-asked in
    let j = c.judge_each in
    λ t P.
    ends_judged (well_formed t) (sheet_of t) a.words.now a.lengths.now a.verdicts.now a.held.now (record { number = 0; log = 0 }) (q.ensures t P) refl _ _
    (j.ensures.verdicts_after t (prepared (goal.at.returns c).After-plain_of-plain t (lent (goal.at.returns c).In_ok-asked t P))) (j.ensures.held_after t (prepared (goal.at.returns c).After-plain_of-plain t (lent (goal.at.returns c).In_ok-asked t P)))
