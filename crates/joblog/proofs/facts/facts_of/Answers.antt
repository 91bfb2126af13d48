-- facts_of meets its contract: what the facts seen say of the fields left is always what the line says. Assumes nothing.
use Rattle.std.proofs.Common.{◌≡◌, ◌+◌, ◌≤◌, false, length, sym, refl, ap, ◌∙◌, [], Err, unwrap_or, arith, rules}
use Rattle.text.specs.Text.{not_number, fields}
use Rattle.joblog.specs.declared.LogQuestion.TheVariants as question
use Rattle.joblog.specs.Log.{NotNumbers, numbers, lone}
use Rattle.joblog.specs.Results.{facts_result}
use Rattle.joblog.specs.Steps.{start, facts_from}
use Rattle.joblog.proofs.LineFacts.{lone_by, lone_yes, lone_no, turn_end, turn, turn_none, turn_place}
use Rattle.joblog.proofs.facts.facts_of.Goals as goal
use Rattle.joblog.proofs.facts.facts_of.Goals.{After-cut_field-field, Else-eq}

pub returns-then-eq : goal.returns-then-eq
returns-then-eq c = ap facts_result (lone_yes c.args.s.now (lone_by c.args.s.now c.as_slice.result.now c.as_slice.ensures ∙ sym c.eq.ensures ∙ c.if-eq.true))

-- the line is no lone `-`
more : (c : Else-eq) → lone c.args.s.now ≡ false
more c = lone_by c.args.s.now c.as_slice.result.now c.as_slice.ensures ∙ sym c.eq.ensures ∙ c.if-eq.false

-- the field's end lies within the line
place : (c : After-cut_field-field) → c.loop-at.at + c.cut_field-field.result.end ≤ length c.args.s.now
place c =
    let s = c.args.s.now in
    let l = c.loop-at in
    let rest = c.rest_from in
    let f = c.cut_field-field in
    turn_place s rest.result.now l.at f.result.end (unwrap_or f.result.value not_number) l.seen (facts_from start (numbers (fields s))) c.loop-at-test.true rest.ensures f.ensures.at f.ensures.reads l.invariant.2 f.ensures.within

pub returns-in_err-fact : goal.returns-in_err-fact
returns-in_err-fact c =
    let s = c.args.s.now in
    let l = c.loop-at in
    let rest = c.rest_from in
    let f = c.cut_field-field in
    let none = c.in_err-fact.ensures.ok_part in
    let reads = rw none at f.ensures.reads in
    let e : c.from_residual.result ≡ Err question.NotNumbers = search rules in
    e ∙ ap facts_result
    (lone_no s NotNumbers (more (goal.at.returns-in_err-fact c).Else-eq)
    (turn_none s rest.result.now l.at f.result.end not_number l.seen (facts_from start (numbers (fields s))) c.loop-at-test.true rest.ensures f.ensures.at reads l.invariant.2 refl))

pub loop-at-preserved : goal.loop-at-preserved
loop-at-preserved c =
    let s = c.args.s.now in
    let l = c.loop-at in
    let rest = c.rest_from in
    let f = c.cut_field-field in
    let g = c.with_fact-seen in
    let some = c.in_ok-fact.ensures.ok_part in
    let reads = rw some at f.ensures.reads in
    let small = rw some at f.ensures.small in
    let next : l.at + (f.result.end + 1) ≡ l.at + f.result.end + 1 = omega arith in (
      omega (arith, place (goal.at.loop-at-preserved c).After-cut_field-field),
      g.ensures.1,
      rw (next, g.ensures.0) (turn s rest.result.now l.at f.result.end c.in_ok-fact.fact l.seen (facts_from start (numbers (fields s))) c.loop-at-test.true rest.ensures f.ensures.at reads l.invariant.2 small),
    )

pub returns : goal.returns
returns c =
    let s = c.args.s.now in
    let l = c.loop-at in
    c.told.ensures ∙ ap facts_result (lone_no s (facts_from l.seen []) (more (goal.at.returns c).Else-eq) (turn_end s l.at l.seen (facts_from start (numbers (fields s))) c.loop-at-test.false l.invariant.2))
