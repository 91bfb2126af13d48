-- `pull_first` meets its contract: one target state more at each turn. Assumes nothing.
use Prim.Native.Nat.{◌+◌}
use Rattle.reach.proofs.Pulled.{pulled_next}
use mathlib.Core.Path.{sym, ◌∙◌}
use native.Mathlib.Omega.{arith}
use Rattle.reach.proofs.steps.pull_first.Goals as goal
use Rattle.reach.proofs.steps.pull_first.Goals.{then-has, else-has}

pub loop-t-preserved : goal.loop-t-preserved
loop-t-preserved g c =
    let a = c.args in
    let l = c.loop-t in
    pulled_next a.steps.now a.place a.mask l.t l.found c.if-has.found (omega (arith, c.type_inv.steps (a.place + l.t))) l.invariant (elim c.if-has.branch [
      | then-has w ↦ rw (sym c.has.ensures ∙ w.if-has.true) w.found-is
      | else-has w ↦ rw (sym c.has.ensures ∙ w.if-has.false) w.found-is
    ])
