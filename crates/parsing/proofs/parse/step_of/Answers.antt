-- `step_of` meets its contract. Assumes nothing.
use Prim.Native.Nat.{ℕ}
use mathlib.Core.Path.{◌≡◌, refl, subst, ap, ◌∙◌}
use native.Mathlib.Omega.{arith}
use Rattle.std.specs.Prelude.{Ok, Err, Option}
use Rattle.std.specs.Option.{unwrap_or}
use Rattle.std.proofs.lemmas.Result.{err_from_is_err_and}
use Rattle.formula.specs.Parse.{byte}
use Rattle.parsing.specs.Work.{work_of, stepped}
use Rattle.parsing.specs.Build.{seen_of, got_of}
use Rattle.formula.proofs.Bytes.{byte_there}
use Rattle.parsing.proofs.Laws.{lost, step_off, step_back, step_stay, step_ahead}
use Rattle.parsing.proofs.parse.step_of.Goals as goal
use Rattle.parsing.proofs.parse.step_of.Goals.{in-Some-eq45, in-Some-eq63, in_default, in_default-2}

pub returns-in_err-p : goal.returns-in_err-p
returns-in_err-p c =
    let p = err_from_is_err_and c.from_residual.result c.from_residual.ensures.1 in
    let e = c.in_err-p.field-0.0 in
    rw (p.1, p.2, c.in_err-p.was) (step_off c.args.text.now (seen_of (Err e) c.args.out.now) (lost e c.args.out.now))

pub overflow_add-code : goal.overflow_add-code
overflow_add-code c = let h = byte_there c.args.text.now c.in_ok-p.p.at 45 (omega (arith, c.in-Some-eq45.ensures, c.in-Some-eq45.field-0-is)) (omega arith) in omega arith

pub overflow_add-code-in-Some-eq63 : goal.overflow_add-code-in-Some-eq63
overflow_add-code-in-Some-eq63 c = let h = byte_there c.args.text.now c.in_ok-p.p.at 63 (omega (arith, c.in-Some-eq63.ensures, c.in-Some-eq63.field-0-is)) (omega arith) in omega arith

pub returns : goal.returns
unfolding got_of
returns c =
    let p = c.in_ok-p.p in
    let s = seen_of (Ok p) c.args.out.now in
    let by : (k n : ℕ) → c.match-byte_at.code ≡ (k, n) → work_of c.write_step-writing.result c.write_step-writing.new.out ≡ stepped k s.work = λ k n e. c.write_step-writing.ensures ∙ ap (λ (z : ℕ × ℕ). stepped z.0 s.work) e in
    rw c.in_ok-p.was (elim c.match-byte_at.branch [
      | in-Some-eq45 w ↦ rw w.code-is (step_back c.args.text.now s _ refl (omega (arith, w.in-Some-eq45.ensures, w.in-Some-eq45.field-0-is)) (by _ _ w.code-is))
      | in-Some-eq63 w ↦ rw w.code-is (step_stay c.args.text.now s _ refl (omega (arith, w.in-Some-eq63.ensures, w.in-Some-eq63.field-0-is)) (by _ _ w.code-is))
      | in_default w ↦ rw w.code-is (step_ahead c.args.text.now s _ refl (omega (arith, w.in_default.ensures)) (omega (arith, w.in_default.ensures)) (by _ _ w.code-is))
      | in_default-2 w ↦
          let e = subst (λ (o : Option ℕ). unwrap_or o 256 ≡ byte c.args.text.now p.at) w.in_default.is c.byte_at.ensures in
          rw w.code-is (step_ahead c.args.text.now s _ refl (omega (arith, e)) (omega (arith, e)) (by _ _ w.code-is))
    ])
