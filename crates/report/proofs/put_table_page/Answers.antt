-- put_table_page meets its contract: judging's refusal, or the verdicts and then the walk. Assumes nothing.
use Prim.Native.Nat.{ℕ, ◌*◌, ◌≤◌}
use lib.ListN.{length, take}
use lib.Seq.{length-take-le}
use mathlib.Core.Path.{◌≡◌, ap, sym, ◌∙◌}
use native.Mathlib.Omega.{arith}
use Rattle.aldlf.specs.Sheet.{sheet_of}
use Rattle.sheet.specs.Given.{well_formed}
use Rattle.std.specs.Prelude.{Ok}
use Rattle.lines.specs.Lines.{refusal_line, verdict_lines}
use Rattle.report.specs.Page.{rule_of, lent_words, walk_page, table_page}
use Rattle.appending.proofs.Storing.{appends_then, appends_same}
use Rattle.report.proofs.Answers.{held_room, held_page, refused_page}
use Rattle.report.proofs.put_table_page.Goals as goal
use Rattle.report.proofs.put_table_page.Goals.{After-judge_lent}

-- the buffer has two words for each entry
room : (c : After-judge_lent) → (h : ℕ) → c.judge_lent.result ≡ Ok h → 2 * length c.args.log.now ≤ length c.judge_lent.new.verdicts
room c h is =
    let t = c.requires.0 in
    let j = c.judge_lent in
    omega (arith, held_room (well_formed t) (sheet_of t) c.args.log.now lent_words j.result h j.new.verdicts is (j.ensures.verdicts_after t c.requires.1), j.auto.verdicts)

pub overflow_mul-verdicts : goal.overflow_mul-verdicts
overflow_mul-verdicts c = omega (arith, room (goal.at.overflow_mul-verdicts c).After-judge_lent c.in-Ok.held c.in-Ok.is)

pub slice_bounds-verdicts-end : goal.slice_bounds-verdicts-end
slice_bounds-verdicts-end c = room (goal.at.slice_bounds-verdicts-end c).After-judge_lent c.in-Ok.held c.in-Ok.is

pub slice_bounds-put_verdicts-end : goal.slice_bounds-put_verdicts-end
slice_bounds-put_verdicts-end c =
    sym (length-take-le (2 * length c.args.log.now) c.judge_lent.new.verdicts (room (goal.at.slice_bounds-put_verdicts-end c).After-judge_lent c.in-Ok.held c.in-Ok.is))

pub returns-in-Ok : goal.returns-in-Ok
unfolding table_page
returns-in-Ok c =
    let j = c.judge_lent in
    let a = c.args in
    let h = c.in-Ok.held in
    let words = take (2 * length a.log.now) j.new.verdicts in
    λ t P.
    appends_same (held_page (well_formed t) (sheet_of t) a.log.now lent_words (rule_of t) (length a.log.now) (walk_page t a.log.now) j.result h j.new.verdicts c.in-Ok.is (j.ensures.verdicts_after t P))
    (appends_then (appends_same (ap (λ (k : ℕ). verdict_lines k h words) (c.rule_of-rule.ensures t P)) c.put_verdicts-next.ensures) (c.put_walk_page.ensures t P))

pub returns-in-Err : goal.returns-in-Err
unfolding table_page
returns-in-Err c =
    let j = c.judge_lent in
    let a = c.args in
    let v = c.in-Err in
    λ t P.
    appends_same (ap (λ (q : ℕ). refusal_line q 0) c.number.ensures ∙ refused_page (well_formed t) (sheet_of t) a.log.now lent_words (rule_of t) (length a.log.now) (walk_page t a.log.now) j.result v.why j.new.verdicts v.is (j.ensures.verdicts_after t P) (j.ensures.result_value t P)) c.put_refusal.ensures
