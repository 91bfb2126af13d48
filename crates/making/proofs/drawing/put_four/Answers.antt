-- `put_four` meets its contract: after i turns the first i links are put. Assumes nothing.
use Prim.Native.Nat.{◌+◌}
use native.Mathlib.Omega.{arith}
use Rattle.making.proofs.Links.{drawn_ends, stop_ends, four_none, four_next, four_stop, four_all}
use Rattle.making.proofs.drawing.put_four.Goals as goal

pub loop-e-init : goal.loop-e-init
loop-e-init c =
    let a = c.args in
    four_none a.c a.links.now c.requires.0 c.requires.1 a.four

pub put_link-requires : goal.put_link-requires
put_link-requires c =
    let d = c.loop-e.invariant in
    (d.sized, d.long)

pub returns-in_err-x : goal.returns-in_err-x
returns-in_err-x c =
    let a = c.args in
    rw c.from_residual.ensures (stop_ends (a.s + 2) (record { 0 = a.s }) (record { 0 = a.s + 1 }) (four_stop a.four (c.loop-e.e-index + 1) (four_next a.four c.loop-e.e-index _ (omega (arith, c.requires.3)) c.loop-e.invariant c.in_err-x.ensures)))

pub loop-e-preserved : goal.loop-e-preserved
loop-e-preserved c = four_next c.args.four c.loop-e.e-index _ (omega (arith, c.requires.3)) c.loop-e.invariant c.in_ok-x.ensures

pub returns : goal.returns
returns c =
    let a = c.args in
    drawn_ends c.with_ends.result (a.s + 2) (record { 0 = a.s }) (record { 0 = a.s + 1 }) (four_all a.four c.loop-e.e-index (omega (arith, c.requires.3)) c.loop-e.invariant) c.with_ends.ensures
