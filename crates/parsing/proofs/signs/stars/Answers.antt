-- `stars` meets its contract: each star read is one instruction more. Assumes nothing.
use mathlib.Core.Path.{refl, sym, ◌∙◌}
use native.Mathlib.Omega.{arith}
use borrow.Author.Rules.{rules}
use lib.ListN.{length}
use Rattle.std.specs.Prelude.{Err}
use Rattle.std.proofs.lemmas.Result.{err_from_is_err_and}
use Rattle.parsing.specs.Work.{work_of}
use Rattle.parsing.specs.Build.{seen_of, got_of, stars_by}
use Rattle.formula.proofs.Bytes.{byte_there}
use Rattle.parsing.proofs.Laws.{is_there, not_there, lost, stars_off, stars_stop, stars_more}
use Rattle.parsing.proofs.signs.stars.Goals as goal

pub returns-in_err-at : goal.returns-in_err-at
returns-in_err-at c =
    let p = err_from_is_err_and c.from_residual.result c.from_residual.ensures.1 in
    let e = c.in_err-at.field-0.0 in
    rw (p.1, p.2, c.in_err-at.was) (stars_off c.args.text.now (seen_of (Err e) c.args.out.now) (lost e c.args.out.now))

pub loop-out-init : goal.loop-out-init
loop-out-init c = (refl, length c.args.text.now, omega arith, refl)

pub overflow_add-at : goal.overflow_add-at
overflow_add-at c = let h = byte_there c.args.text.now c.loop-out.at 42 (is_there c.byte_at.result _ 42 c.byte_at.ensures c.eq.ensures c.loop-out-test.true) (omega arith) in omega arith

pub loop-out-smaller : goal.loop-out-smaller
loop-out-smaller c = let h = byte_there c.args.text.now c.loop-out.at 42 (is_there c.byte_at.result _ 42 c.byte_at.ensures c.eq.ensures c.loop-out-test.true) (omega arith) in omega arith

pub loop-out-preserved : goal.loop-out-preserved
loop-out-preserved c =
    let l = c.loop-out in
    let a = c.args in
    let p = c.in_ok-at.field-0 in
    let m = stars_more a.text.now l.invariant.1 (work_of l.writing l.out) _ l.at (stars_by a.text.now (length a.text.now) (work_of p.writing a.out.now) p.at) (is_there c.byte_at.result _ 42 c.byte_at.ensures c.eq.ensures c.loop-out-test.true) c.write-writing.ensures l.invariant.2 l.invariant.3 in
    (search rules, m.0, m.1, m.2)

pub shape_of-out : goal.shape_of-out
shape_of-out c = c.loop-out.invariant.0

pub returns : goal.returns
unfolding got_of
returns c =
    let l = c.loop-out in
    let a = c.args in
    rw c.in_ok-at.was (stars_stop a.text.now l.invariant.1 (work_of l.writing l.out) l.at (not_there c.byte_at.result _ 42 (omega arith) c.byte_at.ensures c.eq.ensures c.loop-out-test.false) ∙ sym l.invariant.3)
