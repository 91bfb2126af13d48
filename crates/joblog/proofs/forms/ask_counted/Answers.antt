-- ask_counted meets its contract: each early return is a question that the definition asks at the same place. Assumes nothing.
use Rattle.std.proofs.Common.{◌≡◌, ℕ, ◌<◌, true, false, List, length, sym, ap, ◌∙◌, Err, arith, rules}
use Rattle.text.specs.Text.{comma, up_to}
use Rattle.joblog.specs.declared.LogQuestion.TheVariants as question
use Rattle.joblog.specs.Log.{facts_of, question_of}
use Rattle.joblog.specs.Counted.{counter_limit, next_counter, counter_at, facts_at, follows}
use Rattle.joblog.specs.Results.{facts_result}
use Rattle.joblog.specs.Steps.{due_of}
use Rattle.joblog.proofs.CountedLine.{line_24, facts_24, line_28, line_29, line_facts}
use Rattle.joblog.proofs.Results.{facts_ok, facts_err, facts_listed, follows_not, follows_next}
use Rattle.joblog.proofs.forms.ask_counted.Goals as goal
use Rattle.joblog.proofs.forms.ask_counted.Goals.{After-facts_of-facts, Else-eq, In_ok-counter, Else-ne, then-up_to-line-via-then-up_to-line, then-up_to-line-via-else-up_to-line+then-eq}

-- the facts are those of what follows the comma
facts : (c : After-facts_of-facts) → c.facts_of-facts.result ≡ facts_result (facts_at c.args.line.now)
facts c = c.facts_of-facts.ensures ∙ ap (λ (s : List ℕ). facts_result (facts_of s)) c.after_comma.ensures

pub returns-then-up_to-line : goal.returns-then-up_to-line
returns-then-up_to-line c =
    let a = c.args in
    let here = (goal.at.returns-then-up_to-line c).After-facts_of-facts in
    elim c.then-up_to-line.branch [
      | then-up_to-line-via-then-up_to-line w ↦ sym (line_24 (due_of a.due) a.line.now (omega (arith, c.up_to.ensures.0, w.if-up_to-line.true)))
      | then-up_to-line-via-else-up_to-line+then-eq w ↦ (
          let e : c.facts_of-facts.result ≡ Err question.NotNumbers = search rules in
          sym (facts_24 (due_of a.due) a.line.now (facts_err (facts_at a.line.now) question.NotNumbers (sym (facts here) ∙ e))))
    ]

-- question 24 got a yes
parted : (c : Else-eq) → up_to comma c.args.line.now < length c.args.line.now
parted c = omega (arith, c.up_to.ensures.0, c.up_to.ensures.1, c.if-up_to-line.false)

listed : (c : Else-eq) → c.facts_of-facts.result ≡ facts_result (facts_at c.args.line.now) → question_of (facts_at c.args.line.now) ≡ 24 → ⊥
listed c is =
    facts_listed (facts_at c.args.line.now) (λ e.
    let h : false ≡ true = sym c.if-eq.false ∙ rw (is ∙ e) at c.eq.ensures in
    cc)

pub returns-in_err-counter : goal.returns-in_err-counter
returns-in_err-counter c =
    let a = c.args in
    let at = goal.at.returns-in_err-counter c in
    let here = at.Else-eq in
    let big = rw c.in_err-counter.ensures.ok_part at c.counter_at.ensures in
    let e : c.from_residual.result ≡ Err question.NotCounter = search rules in
    rw e (sym (line_28 (due_of a.due) a.line.now (parted here) (listed here (facts at.After-facts_of-facts)) big))

-- question 28 got a yes
counter : (c : In_ok-counter) → c.in_ok-counter.counter.0 ≡ counter_at c.args.line.now
counter c = rw c.in_ok-counter.ensures.ok_part at c.counter_at.ensures

small : (c : In_ok-counter) → counter_at c.args.line.now < counter_limit
small c = omega (arith, counter c)

pub returns-then-ne : goal.returns-then-ne
returns-then-ne c =
    let a = c.args in
    let at = goal.at.returns-then-ne c in
    let e : follows (due_of a.due) c.in_ok-counter.counter.0 ≡ false = follows_not a.due c.in_ok-counter.counter (rw (← c.unwrap_or.ensures) (omega arith)) (rw (← c.unwrap_or.ensures) (sym c.ne.ensures ∙ c.if-ne.true)) in
    sym (line_29 (due_of a.due) a.line.now (parted at.Else-eq) (listed at.Else-eq (facts at.After-facts_of-facts)) (small at.In_ok-counter) (ap (follows (due_of a.due)) (sym (counter at.In_ok-counter)) ∙ e))

-- question 29 got a yes
next : (c : Else-ne) → follows (due_of c.args.due) c.in_ok-counter.counter.0 ≡ true
next c = follows_next c.args.due c.in_ok-counter.counter (rw (← c.unwrap_or.ensures) (sym c.ne.ensures ∙ c.if-ne.false))

pub returns-in_err-facts : goal.returns-in_err-facts
returns-in_err-facts c =
    let a = c.args in
    let at = goal.at.returns-in_err-facts c in
    let is = facts at.After-facts_of-facts in
    let e : c.from_residual-in_err-facts.result ≡ Err c.in_err-facts.field-0.0 = search rules in
    let f = ap (follows (due_of a.due)) (sym (counter at.In_ok-counter)) ∙ next at.Else-ne in
    rw e (sym (line_facts (due_of a.due) a.line.now (parted at.Else-eq) (listed at.Else-eq is) (small at.In_ok-counter) f) ∙ facts_err (facts_at a.line.now) c.in_err-facts.field-0.0 (sym is ∙ c.in_err-facts.was))

pub returns : goal.returns
returns c =
    let a = c.args in
    let at = goal.at.returns c in
    let is = facts at.After-facts_of-facts in
    let f = ap (follows (due_of a.due)) (sym (counter at.In_ok-counter)) ∙ next at.Else-ne in (
      sym (line_facts (due_of a.due) a.line.now (parted at.Else-eq) (listed at.Else-eq is) (small at.In_ok-counter) f) ∙ facts_ok (facts_at a.line.now) c.in_ok-facts.field-0 (sym is ∙ c.in_ok-facts.was),
      c.next_counter.ensures ∙ ap next_counter (counter at.In_ok-counter),
    )
