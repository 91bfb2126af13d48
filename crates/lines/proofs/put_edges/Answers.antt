-- put_edges meets its contract: the edges passed are appended. Assumes nothing.
use mathlib.Core.Path.{ap}
use native.Mathlib.Omega.{arith}
use Rattle.lines.specs.Lines.{edges_below}
use Rattle.appending.proofs.Storing.{appends_none, appends_then, appends_same}
use Rattle.lines.proofs.Passed.{edges_next}
use Rattle.lines.proofs.put_edges.Goals as goal

pub loop-edge-init : goal.loop-edge-init
unfolding edges_below
loop-edge-init c = appends_none c.args.out.now c.args.at

pub loop-edge-preserved : goal.loop-edge-preserved
loop-edge-preserved c =
    let l = c.loop-edge in
    appends_same (edges_next c.args.edges.now l.edge-index c.from.result c.from.ensures) (appends_then (appends_then l.invariant c.put-edge_at.ensures) c.put_number-next.ensures)

pub returns : goal.returns
returns c = appends_same (ap (edges_below c.args.edges.now) (omega arith)) c.loop-edge.invariant
