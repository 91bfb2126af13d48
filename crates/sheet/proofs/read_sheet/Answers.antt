-- `read_sheet` meets its contract: what is left of the text always reads to the whole text's answer. Assumes nothing.
use Rattle.sheet.proofs.Turn.{Standing, standing_start, standing_end, turn_no, turn_room, turn_on}
use Rattle.sheet.proofs.Lines.{sheet_1, sheet_2}
use Rattle.sheet.proofs.Asked.{yes_is, no_is}
use mathlib.Core.Path.{ap, sym, subst, ◌∙◌}
use Rattle.sheet.specs.Answers.{Stop}
use Prim.Native.Nat.{◌+◌}
use Rattle.sheet.specs.Questions.{added}
use Rattle.sheet.specs.Outcomes.{stop_by}
use Rattle.sheet.proofs.Stops.{some_number}
use native.Mathlib.Omega.{arith}
use mathlib.Core.Bool.{not}
use Rattle.sheet.proofs.read_sheet.Goals as goal

pub returns-then-text-gt-BYTES : goal.returns-then-text-gt-BYTES
returns-then-text-gt-BYTES c = c.refusal.ensures ∙ sheet_1 c.args.text.now c.if-text-gt-BYTES.true

pub returns-then-not-ends_in_lf : goal.returns-then-not-ends_in_lf
returns-then-not-ends_in_lf c = c.refusal-then-not-ends_in_lf.ensures ∙ sheet_2 c.args.text.now c.if-text-gt-BYTES.false (no_is c.ends_in_lf.ensures (ap not c.if-not-ends_in_lf.true))

pub loop-at-init : goal.loop-at-init
loop-at-init c =
    let text = c.args.text.now in
    rw c.start_reading-r.ensures (standing_start text c.if-text-gt-BYTES.false (yes_is c.ends_in_lf.ensures (ap not c.if-not-ends_in_lf.false)))

pub returns-in-Err : goal.returns-in-Err
returns-in-Err c =
    let text = c.args.text.now in
    let l = c.loop-at in
    let line = c.line_at-line in
    let x = c.parse_line-l in
    let stop = c.in-Err.stop in
    c.refusal_by.ensures ∙ turn_no text l.r l.k l.at l.invariant c.loop-at-test.true line.result.now line.ensures x.result x.ensures (stop_by stop) c.in-Err.ensures (some_number stop.question)

pub added_to-r-requires : goal.added_to-r-requires
added_to-r-requires c =
    let text = c.args.text.now in
    let l = c.loop-at in
    let line = c.line_at-line in
    let x = c.parse_line-l in
    turn_room text l.r l.k l.at l.invariant c.loop-at-test.true line.result.now line.ensures x.result x.ensures (ap (λ (s : Stop). s.number) (sym c.in_default.ensures))

pub loop-at-preserved : goal.loop-at-preserved
loop-at-preserved c =
    let text = c.args.text.now in
    let l = c.loop-at in
    let line = c.line_at-line in
    let x = c.parse_line-l in
    rw c.added_to-r.ensures (subst (Standing text (added l.r (l.k + 1) x.result) (l.k + 1)) (omega arith) (turn_on text l.r l.k l.at l.invariant c.loop-at-test.true line.result.now line.ensures x.result x.ensures (ap (λ (s : Stop). s.number) (sym c.in_default.ensures))))

pub returns : goal.returns
returns c =
    let l = c.loop-at in
    c.finish_of.ensures ∙ standing_end c.args.text.now l.r l.k l.at l.invariant c.loop-at-test.false
