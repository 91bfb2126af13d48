-- `spread` meets its contract: the queue's places below head are closed. Assumes nothing.
use Prim.Native.Nat.{ℕ, ◌<◌}
use mathlib.Core.Path.{◌≡◌, refl, subst, ◌∙◌}
use Rattle.reach.specs.Marks.{paired}
use Rattle.graph.specs.Graph.{Graph}
use Rattle.graph.specs.Configurations.{graph_of}
use Rattle.shortest.specs.Progress.{Progress, zero_in}
use Rattle.shortest.proofs.Progress.{tail_le, next, done, stopped}
use native.Mathlib.Omega.{arith}
use Rattle.shortest.proofs.distances.spread.Goals as goal
use Rattle.shortest.proofs.distances.spread.Goals.{In-loop-head, Start}

abbrev graph : Start → Graph
graph S = graph_of S.args.arcs.now S.args.q (paired S.args.words.now)

start_inside : (S : Start) → S.args.begun.start < (graph S).size
start_inside S = omega (arith, S.requires.start_in_bounds, S.requires.progress.whole)

-- the place of the queue that is taken is below the bound of the configurations
head_small : (c : In-loop-head) → c.loop-head.head < 8192
head_small c =
    let s = c.loop-head.invariant.0 in
    let l = tail_le _ _ _ _ _ _ _ s in
    omega (arith, s.fits, c.loop-head-test.true)

pub reciprocal-by-requires : goal.reciprocal-by-requires
reciprocal-by-requires c = (c.requires.ready.some_state, c.requires.ready.few_states)

pub loop-head-init : goal.loop-head-init
loop-head-init c = (c.requires.progress, refl, refl)

pub bounds-dist-start : goal.bounds-dist-start
bounds-dist-start c = omega (arith, c.requires.start_in_bounds, c.loop-head.invariant.1)

pub shape_of-dist-then-dist-start : goal.shape_of-dist-then-dist-start
shape_of-dist-then-dist-start c = c.loop-head.invariant.1

pub shape_of-queue-then-dist-start : goal.shape_of-queue-then-dist-start
shape_of-queue-then-dist-start c = c.loop-head.invariant.2

pub returns-then-dist-start : goal.returns-then-dist-start
returns-then-dist-start c =
    let S = (goal.at.returns-then-dist-start c).Start in
    let l = c.loop-head in
    stopped (graph S) (zero_in c.args.dist.now) l.dist l.queue l.head c.args.q.first l.tail c.args.begun.start l.invariant.0 c.loop-head-test.true (start_inside S) c.if-dist-start.true

pub relax_edges-tail-requires : goal.relax_edges-tail-requires
relax_edges-tail-requires c =
    record { ready = c.requires.ready; head_lt_tail = (c.loop-head-test.true, c.reciprocal-by.ensures); by_index = (c.args.dist.now, c.loop-head.invariant.0) }

pub overflow_add-head : goal.overflow_add-head
overflow_add-head c = omega (arith, head_small (goal.at.overflow_add-head c).In-loop-head)

pub loop-head-smaller : goal.loop-head-smaller
loop-head-smaller c = omega (arith, head_small (goal.at.loop-head-smaller c).In-loop-head)

pub loop-head-preserved : goal.loop-head-preserved
loop-head-preserved c =
    let l = c.loop-head in
    let r = c.relax_edges-tail in (
      next (graph (goal.at.loop-head-preserved c).Start) _ _ _ _ _ (r.ensures.by_index_2 c.args.dist.now l.invariant.0) r.ensures.lower_bound,
      r.auto.dist ∙ l.invariant.1,
      r.auto.queue ∙ l.invariant.2,
    )

pub shape_of-dist : goal.shape_of-dist
shape_of-dist c = c.loop-head.invariant.1

pub shape_of-queue : goal.shape_of-queue
shape_of-queue c = c.loop-head.invariant.2

pub returns : goal.returns
returns c =
    let S = (goal.at.returns c).Start in
    let l = c.loop-head in
    let s = l.invariant.0 in
    let e : l.head ≡ l.tail = omega (arith, s.head, c.loop-head-test.false) in
    done (graph S) _ _ _ l.tail c.args.q.first c.args.begun.start (start_inside S)
    (subst (λ (k : ℕ). Progress (graph S) (zero_in c.args.dist.now) l.dist l.queue k c.args.q.first l.tail) e s)
