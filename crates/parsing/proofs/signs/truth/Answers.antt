-- `truth` meets its contract: the bytes passed are those of `true`. Assumes nothing.
use Prim.Native.Nat.{◌+◌}
use mathlib.Core.Path.{ap, ◌∙◌}
use native.Mathlib.Omega.{arith}
use Rattle.formula.specs.Parse.{ok}
use Rattle.parsing.specs.Work.{Work, work_of}
use Rattle.parsing.specs.Build.{got_of}
use Rattle.parsing.proofs.Laws.{is_there_ne, not_there_ne, true_low, true_on, true_off, true_all}
use Rattle.parsing.proofs.signs.truth.Goals as goal

pub loop-i-init : goal.loop-i-init
loop-i-init c = (λ h. absurd (omega arith), λ h. absurd (omega arith), λ h. absurd (omega arith))

pub returns-then-ne : goal.returns-then-ne
unfolding got_of
returns-then-ne c =
    let i = c.loop-i.i in
    true_off c.args.text.now c.args.at (work_of c.args.w c.args.out.now) i (omega arith) c.loop-i.invariant (not_there_ne c.byte_at.result _ _ (true_low i) c.byte_at.ensures c.ne.ensures c.if-ne.true)

pub loop-i-preserved : goal.loop-i-preserved
loop-i-preserved c =
    true_on c.args.text.now c.args.at (work_of c.args.w c.args.out.now) c.loop-i.i (omega arith) c.loop-i.invariant (is_there_ne c.byte_at.result _ _ c.byte_at.ensures c.ne.ensures c.if-ne.false)

pub returns : goal.returns
unfolding got_of
returns c = ap (λ (z : Work). ok z (c.args.at + 3)) c.write-writing.ensures ∙ true_all c.args.text.now c.args.at (work_of c.args.w c.args.out.now) c.loop-i.i (omega arith) c.loop-i.invariant
