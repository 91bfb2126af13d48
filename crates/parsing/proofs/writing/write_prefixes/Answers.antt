-- `write_prefixes` meets its contract: as many instructions as were counted are written. Assumes nothing.
use Prim.Native.Nat.{ℕ}
use mathlib.Core.Path.{◌≡◌, refl, ap, ◌∙◌}
use native.Mathlib.Omega.{arith}
use Rattle.formula.specs.Code.{code_apply}
use Rattle.parsing.specs.Work.{Work, work_of, put, applied}
use Rattle.parsing.proofs.Putting.{applied_one}
use Rattle.parsing.proofs.writing.write_prefixes.Goals as goal

pub loop-init : goal.loop-init
unfolding applied
loop-init c = refl

pub loop-preserved : goal.loop-preserved
loop-preserved c = c.write-x.ensures ∙ ap (λ (z : Work). put code_apply z) c.loop.invariant ∙ applied_one c.loop.counter (work_of c.args.w c.args.out.now)

pub returns : goal.returns
returns c = let l = c.loop in l.invariant ∙ ap (λ (z : ℕ). applied z (work_of c.args.w c.args.out.now)) (let h : l.counter ≡ c.args.count = omega arith in h)
