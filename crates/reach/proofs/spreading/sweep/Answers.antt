-- `sweep` meets its contract: one entry more at each turn, from the last down. Assumes nothing.
use Prim.Native.Nat.{◌-◌}
use Rattle.reach.proofs.Turns.{sweep_next}
use Rattle.reach.specs.Steps.{Moves, all_due, swept_to}
use mathlib.Core.Path.{refl, subst}
use native.Mathlib.Omega.{arith}
use Rattle.reach.proofs.spreading.sweep.Goals as goal

pub loop-i-preserved : goal.loop-i-preserved
loop-i-preserved c =
    let l = c.loop-i in
    let h = c.loop-i-test.true in
    sweep_next _ c.args.steps.now c.args.masks.now l.masks _ _ (l.i - 1) refl refl (omega (arith, l.auto.masks, l.auto.i, h)) c.visit_entry.ensures
    (subst (λ z. Moves c.args.exits c.args.looks c.args.steps.now c.args.masks.now l.masks all_due (swept_to z)) (omega (arith, h)) l.invariant)

pub returns-clause-moves : goal.returns-clause-moves
returns-clause-moves c =
    let l = c.loop-i in
    subst (λ z. Moves c.args.exits c.args.looks c.args.steps.now c.args.masks.now l.masks all_due (swept_to z)) (omega (arith, c.loop-i-test.false)) l.invariant
