-- judge_lines meets its contract: with the lines left, what is judged is always what the whole log is, in either form. Assumes nothing.
use Rattle.std.proofs.Common.{◌≡◌, ◌+◌, drop, false, Option, Result, Ok, Err, is_ok, sym, refl, arith, rules}
use Rattle.text.specs.Text.{lines}
use Rattle.joblog.specs.declared.LogQuestion.{LogQuestion}
use Rattle.joblog.specs.declared.counters.Counter.{Counter}
use Rattle.joblog.specs.Steps.{due_of}
use Rattle.joblog.proofs.LineByLine.{standing_end, standing_over, standing_no, standing_next}
use Rattle.joblog.proofs.judging.judge_lines.Goals as goal

pub loop-bytes-init : goal.loop-bytes-init
loop-bytes-init c =
    let at = c.reader_at-bytes-items.ensures in
    let is = c.into_iter-bytes-iterator.ensures.into_iter_gives in
    let start : lines (drop c.into_iter-bytes-iterator.result.at c.into_iter-bytes-iterator.result.bytes.now) ≡ lines c.args.text.now = rw (is, at.1, at.0) refl in
    record { count≤ = omega arith; standing = λ x j. rw (← start) j }

pub returns-then-line-gt-ENTRIES : goal.returns-then-line-gt-ENTRIES
returns-then-line-gt-ENTRIES c =
    let a = c.args in
    let l = c.loop-bytes in
    standing_over a.counted a.text.now l.count (due_of l.due) _ _ _ l.invariant.standing c.in-Some.ensures.steps (omega arith) _ refl refl

-- a result that is no answer is an error
no_answer : (r : Result (Option Counter) LogQuestion) → is_ok r ≡ false → (q : LogQuestion) × (r ≡ Err q)
no_answer (Ok d) e = cc
no_answer (Err q) e = (q, refl)

pub returns-in_err-due : goal.returns-in_err-due
returns-in_err-due c =
    let a = c.args in
    let l = c.loop-bytes in
    let no = no_answer c.ask.result (sym c.in_err-due.ensures.variant) in
    let e : c.in_err-due.field-0.0 ≡ record { question = no.0; line = l.count + 1 } = let h = no.1 in search rules in
    let f : c.from_residual.result ≡ Err c.in_err-due.field-0.0 = search rules in
    let asked = rw no.1 at c.ask.ensures in
    rw (f, e) (standing_no a.counted a.text.now l.count (due_of l.due) _ _ _ l.invariant.standing c.in-Some.ensures.steps (omega arith) (record { question = no.0; line = l.count + 1 }) asked refl)

pub loop-bytes-preserved : goal.loop-bytes-preserved
loop-bytes-preserved c =
    let a = c.args in
    let l = c.loop-bytes in
    let asked : c.ask.result ≡ Ok c.in_ok-due.due = search rules in
    let yes = rw asked at c.ask.ensures in
    record {
      count≤ = omega arith;
      standing = standing_next a.counted a.text.now l.count (due_of l.due) _ _ _ l.invariant.standing c.in-Some.ensures.steps (omega arith) (due_of c.in_ok-due.due) yes.0 yes.1;
    }

pub returns : goal.returns
returns c =
    let a = c.args in
    let l = c.loop-bytes in
    standing_end a.counted a.text.now l.count (due_of l.due) _ l.invariant.standing c.in-None.ensures.steps.0
