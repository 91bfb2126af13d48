-- `add_edges` meets its contract: one edge more at each turn. Assumes nothing.
use Prim.Native.Nat.{◌+◌, ◌<◌}
use Rattle.reach.proofs.Made.{apart_set, group_lt, held_next}
use Rattle.reach.specs.Columns.{column_of}
use Rattle.reach.specs.Marks.{at, paired, dir_in}
use native.Mathlib.Omega.{arith}
use Rattle.reach.proofs.steps.add_edges.Goals as goal

pub loop-p-preserved : goal.loop-p-preserved
loop-p-preserved c =
    let l = c.loop-p in
    let E = c.args.edges.now in
    let e = l.p-index in
    let p = c.args.place in
    let h = c.loop-p-test.true in
    let r = c.add_edge.ensures in
    let column_in : column_of (at E e) < 48 = omega (arith, group_lt (dir_in (at E e)), (c.requires.edges_fit.each e h).to_fits) in (
      rw r (apart_set p (p + 48) _ l.steps (p + column_of (at E e)) _ l.invariant.0 (omega arith) (omega arith)),
      held_next E c.requires.edges_fit (at (paired c.args.words.now) c.args.i) e h l.steps p (omega (arith, l.invariant.0.same, c.requires.i_in_bounds.1)) l.invariant.1 _ r,
    )
