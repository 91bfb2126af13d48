-- `distances` meets its contract: the search starts from the goals. Assumes nothing.
use Prim.Native.Nat.{ℕ, ◌≤◌, ◌<◌, ◌*◌}
use mathlib.Core.Path.{◌≡◌, subst, ◌∙◌}
use mathlib.Core.Bool.{Bool}
use lib.ListN.{length}
use Rattle.reach.specs.Marks.{paired}
use Rattle.graph.specs.Graph.{Graph}
use Rattle.graph.specs.Configurations.{graph_of, start_of}
use Rattle.graph.proofs.Steps.{size_small, start_in}
use Rattle.shortest.specs.Descent.{Distances}
use Rattle.shortest.specs.Progress.{Seeded, zero_in}
use Rattle.shortest.specs.Goals.{goal_at, GoalAt}
use Rattle.shortest.proofs.Goals.{begun, goal_zero, zero_goal, distances_to}
use native.Mathlib.Omega.{arith}
use Rattle.shortest.proofs.distances.distances.Goals as goal
use Rattle.shortest.proofs.distances.distances.Goals.{After-seed-tail, Start}

abbrev graph : Start → Graph
graph S = graph_of S.args.arcs.now S.args.query.automaton (paired S.args.words.now)

abbrev goals : Start → ℕ → Bool
goals S = goal_at (paired S.args.words.now) S.args.query.automaton S.args.query.goal

small : (S : Start) → length (paired S.args.words.now) * S.args.query.automaton.states ≤ 8192
small S = size_small S.args.arcs.now S.args.query.automaton (paired S.args.words.now) S.requires.ready

start_below : (S : Start) → start_of S.args.query.automaton S.args.query.entry.0 < length (paired S.args.words.now) * S.args.query.automaton.states
start_below S =
    start_in S.args.arcs.now S.args.query.automaton (paired S.args.words.now) S.requires.ready S.args.query.entry.0 S.requires.asked.entry_fits S.requires.asked.start_fits

-- how many configurations there are
abbrev size : After-seed-tail → ℕ
size c = length (paired c.args.words.now) * c.args.query.automaton.states

whole : (c : After-seed-tail) → length c.seed-tail.new.dist ≡ size c
whole c = c.seed-tail.auto.dist ∙ c.requires.dist_len.0

room : (c : After-seed-tail) → size c ≤ length c.seed-tail.new.queue
room c = let k = c.seed-tail.auto.queue in omega (arith, c.requires.dist_len)

seeded : (c : After-seed-tail) → Seeded (goal_at (paired c.args.words.now) c.args.query.automaton c.args.query.goal) c.seed-tail.new.dist c.seed-tail.new.queue (size c) c.seed-tail.result
seeded c =
    subst (λ (k : ℕ). Seeded (goal_at (paired c.args.words.now) c.args.query.automaton c.args.query.goal) c.seed-tail.new.dist c.seed-tail.new.queue k c.seed-tail.result)
    c.requires.dist_len.0 c.seed-tail.ensures

pub seed-tail-requires : goal.seed-tail-requires
seed-tail-requires c =
    let q = c.requires.ready in
    record { states_nonzero = (q.some_state, q.few_states, c.requires.asked.node_fits); dist_len = (c.requires.dist_len.0, (let m = small (goal.at.seed-tail-requires c).Start in omega (arith, c.requires.dist_len.0)), c.requires.dist_len.1); by_index = c.requires.by_index }

pub spread-requires : goal.spread-requires
spread-requires c =
    let r = (goal.at.spread-requires c).After-seed-tail in
    let S = (goal.at.spread-requires c).Start in
    record { ready = c.requires.ready; start_in_bounds = omega (arith, c.start_of-start.ensures.0, start_below S, whole r); progress = begun (graph S) (goals S) _ _ _ (whole r) (room r) (small S) (seeded r) }

pub returns : goal.returns
returns c =
    let r = (goal.at.returns c).After-seed-tail in
    let S = (goal.at.returns c).Start in
    let D = c.seed-tail.new.dist in
    let Q = c.seed-tail.new.queue in
    distances_to (graph S) (zero_in D) (GoalAt (paired S.args.words.now) S.args.query.automaton S.args.query.goal)
    (goal_zero (graph S) (goals S) D Q c.seed-tail.result (whole r) (room r) (small S) (seeded r))
    (zero_goal (graph S) (goals S) D Q c.seed-tail.result (whole r) (room r) (small S) (seeded r))
    _ (start_of S.args.query.automaton S.args.query.entry.0) (start_below S)
    (subst (Distances (graph S) (zero_in D) _) c.start_of-start.ensures.0 c.spread.ensures)
