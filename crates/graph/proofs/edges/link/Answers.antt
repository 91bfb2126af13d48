-- `link` meets its contract: three stores, at the two heads and at the edge. Assumes nothing.
use lib.ListN.{length-set, set}
use Prim.Native.Nat.{◌+◌}
use native.Mathlib.Omega.{arith}
use Rattle.graph.proofs.edges.link.Goals as goal

pub bounds-arcs-from-2 : goal.bounds-arcs-from-2
bounds-arcs-from-2 c =
    let a = c.args in
    omega (arith, length-set a.arcs.now (256 + a.x.to.0) a.e, c.requires.edge_fits.from_fits, c.requires.e_lt_edge_limit.1)

pub bounds-arcs-e : goal.bounds-arcs-e
bounds-arcs-e c =
    let a = c.args in
    omega (arith, length-set a.arcs.now (256 + a.x.to.0) a.e, length-set (set a.arcs.now (256 + a.x.to.0) a.e) (272 + a.x.from.0) a.e, c.requires.e_lt_edge_limit.0, c.requires.e_lt_edge_limit.1)
