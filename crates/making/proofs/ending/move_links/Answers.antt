-- `move_links` meets its contract: a run of stores is what the slice that is copied over becomes. Assumes nothing.
use mathlib.Core.Path.{◌≡◌}
use Prim.Native.Nat.{◌+◌, ◌-◌}
use native.Mathlib.Omega.{arith}
use lib.ListN.{take, drop, length-drop}
use lib.Seq.{length-take-le}
use Rattle.making.proofs.Lists.{put_sets}
use Rattle.making.proofs.ending.move_links.Goals as goal

pub returns : goal.returns
returns c =
    let a = c.args in
    let l = length-take-le a.n (drop a.base a.links.now) (omega (arith, length-drop a.base a.links.now)) in
    let f : a.first + a.n - a.first ≡ a.n = omega arith in
    let e : a.base + a.n - a.base ≡ a.n = omega arith in
    rw (f, c.copy_from_slice.ensures.after, e) (put_sets a.edges.now a.first a.n (take a.n (drop a.base a.links.now)) (omega arith) (omega arith))
