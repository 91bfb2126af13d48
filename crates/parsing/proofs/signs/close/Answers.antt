-- `close` meets its contract. Assumes nothing.
use mathlib.Core.Path.{refl}
use native.Mathlib.Omega.{arith}
use Rattle.std.specs.Prelude.{Ok, Err}
use Rattle.std.proofs.lemmas.Result.{err_from_is_err_and}
use Rattle.parsing.specs.Build.{seen_of, got_of}
use Rattle.formula.proofs.Bytes.{byte_there}
use Rattle.parsing.proofs.Laws.{is_there, not_there, lost, close_off, close_yes, close_no}
use Rattle.parsing.proofs.signs.close.Goals as goal

pub returns-in_err-p : goal.returns-in_err-p
returns-in_err-p c = λ out.
    let p = err_from_is_err_and c.from_residual.result c.from_residual.ensures.1 in
    let e = c.in_err-p.field-0.0 in
    rw (p.1, p.2, c.in_err-p.was) (close_off c.args.text.now c.args.b (seen_of (Err e) out) (lost e out))

pub overflow_add-result : goal.overflow_add-result
overflow_add-result c = let h = byte_there c.args.text.now c.in_ok-p.p.at c.args.b (is_there c.byte_at.result _ c.args.b c.byte_at.ensures c.eq.ensures c.if-eq.true) (omega arith) in omega arith

pub returns-then-eq : goal.returns-then-eq
unfolding got_of
returns-then-eq c = λ out. rw c.in_ok-p.was (close_yes c.args.text.now c.args.b (seen_of (Ok c.in_ok-p.p) out) refl (is_there c.byte_at.result _ c.args.b c.byte_at.ensures c.eq.ensures c.if-eq.true))

pub returns : goal.returns
unfolding got_of
returns c = λ out. rw c.in_ok-p.was (close_no c.args.text.now c.args.b (seen_of (Ok c.in_ok-p.p) out) refl (not_there c.byte_at.result _ c.args.b (omega arith) c.byte_at.ensures c.eq.ensures c.if-eq.false))
