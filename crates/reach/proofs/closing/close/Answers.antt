-- `close` meets its contract: a mask closed by its columns is closed by its edges. Assumes nothing.
use Rattle.reach.proofs.Settling.{closed_columns, closed_size}
use Rattle.reach.specs.Steps.{Beside, Closed}
use mathlib.Core.Bool.{Bool}
use mathlib.Core.Path.{subst, sym}
use native.Mathlib.Omega.{arith}
use Prim.Native.Nat.{◌+◌}
use Rattle.reach.proofs.closing.close.Goals as goal

pub returns : goal.returns
returns c =
    let a = c.args in
    let W = c.within.ensures in
    let x = c.beside-ahead in
    let y = c.beside-behind in
    let sized = closed_size a.start x.result y.result W.within (omega (arith, c.ranges.start)) x.ensures.fits y.ensures.fits W.beside.fits in record {
      lower_bound = (omega (arith, sized.0, W.result), omega (arith, sized.1, W.result));
      by_index = λ E word f told K. subst (Closed E word a.around.ahead a.around.behind a.v.due a.start) (sym W.result)
          (closed_columns E f a.v.looks a.v.due told word a.around.ahead a.around.behind a.steps.now a.place K a.start x.result y.result W.within
          (subst (λ (b : Bool). Beside b a.steps.now (a.place + 16) a.around.ahead x.result) c.has.ensures x.ensures)
          (subst (λ (b : Bool). Beside b a.steps.now (a.place + 32) a.around.behind y.result) c.has-2.ensures y.ensures)
          W.beside);
    }
