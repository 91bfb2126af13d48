-- `nearer` meets its contract, test by test. Assumes nothing.
use mathlib.Core.Path.{refl}
use Rattle.graph.specs.Graph.{far}
use Rattle.reach.specs.Marks.{paired}
use Rattle.shortest.proofs.Arrivals.{off_log, elsewhere, arrived}
use native.Mathlib.Omega.{arith}
use Rattle.shortest.proofs.trace.nearer.Goals as goal
use Rattle.shortest.proofs.trace.nearer.Goals.{Start}

pub returns-in_err-j : goal.returns-in_err-j
returns-in_err-j c = rw c.from_residual.ensures (off_log (paired c.args.words.now) c.args.dist.now c.args.e c.args.states c.args.wanted.from.state.0 c.args.wanted.from.entry.0 c.args.wanted.distance c.requires.edge_fits c.requires.inside.1 c.requires.states_le_state_limit.1 far c.in_err-j.ensures.0 refl, tt)

pub returns-then-dist-c : goal.returns-then-dist-c
returns-then-dist-c c = (arrived (paired c.args.words.now) c.args.dist.now c.args.e c.args.states c.args.wanted.from.state.0 c.args.wanted.from.entry.0 c.args.wanted.distance c.requires.edge_fits c.requires.inside.1 c.requires.states_le_state_limit.1 _ c.in_ok-j.ensures.0 (λ f. omega (arith, c.in_ok-j.ensures.1, c.requires.states_le_state_limit.1)) c.in_ok-j.ensures.1 c.if-dist-c.true, c.in_ok-j.ensures.1)

pub returns-else-dist-c : goal.returns-else-dist-c
returns-else-dist-c c = (elsewhere (paired c.args.words.now) c.args.dist.now c.args.e c.args.states c.args.wanted.from.state.0 c.args.wanted.from.entry.0 c.args.wanted.distance c.requires.edge_fits c.requires.inside.1 c.requires.states_le_state_limit.1 _ c.in_ok-j.ensures.0 c.if-dist-c.false, tt)
