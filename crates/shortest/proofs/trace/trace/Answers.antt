-- `trace` meets its contract: the first k edges are written. Assumes nothing.
use Prim.Native.Nat.{ℕ, ◌<◌, ◌*◌}
use lib.ListN.{length}
use Rattle.reach.specs.Marks.{paired}
use Rattle.graph.specs.Graph.{Graph}
use Rattle.graph.specs.Configurations.{graph_of}
use Rattle.graph.specs.declared.moves.Configuration.{Configuration}
use Rattle.graph.proofs.Steps.{config_inside}
use Rattle.shortest.specs.Descent.{Inside, number_of}
use Rattle.shortest.proofs.Traced.{traced_more}
use native.Mathlib.Omega.{arith}
use Rattle.shortest.proofs.trace.trace.Goals as goal
use Rattle.shortest.proofs.trace.trace.Goals.{Start}

abbrev graph : Start → Graph
graph S = graph_of S.args.arcs.now S.args.q (paired S.args.words.now)

abbrev begin : Start → ℕ
begin S = number_of S.args.q.states S.args.start.from

number_in : (S : Start) (c : Configuration) → Inside S.args.q.states (length (paired S.args.words.now)) c → number_of S.args.q.states c < length (paired S.args.words.now) * S.args.q.states
number_in S c i = config_inside c.entry.0 S.args.q.states c.state.0 (length (paired S.args.words.now)) i.entry_fits i.state_fits

pub loop-k-preserved : goal.loop-k-preserved
loop-k-preserved c =
    let S = (goal.at.loop-k-preserved c).Start in
    let l = c.loop-k in
    let t = l.invariant.1 in
    let d = c.requires.distance_value in
    let lt = c.loop-k-test.true in (
      c.lowest_edge-m.ensures.inside,
      traced_more (graph S) c.args.dist.now c.args.out.now (begin S) l.out (number_of c.args.q.states l.here) l.k _ _ _ t c.lowest_edge-m.ensures.lowest (omega (arith, d.0)) (omega (arith, d.2)),
    )
