-- `relax_edges` meets its contract: the edges below k are closed at the queue's head, for the edges that a chain passes over do not lead there. Assumes nothing.
use Prim.Native.Nat.{ℕ, ◌≤◌, ◌<◌, ◌+◌, ◌%◌, ◌/◌}
use Rattle.std.proofs.Common.{unwrap_or}
use mathlib.Core.Path.{◌≡◌, refl, sym, ap, ap₂, subst, ◌∙◌}
use mathlib.Core.List.{List}
use native.Mathlib.Nat.{mod-lt, div-lt_iff_lt-mul}
use lib.ListN.{length}
use Rattle.aldlf.specs.declared.Edge.{Edge}
use Rattle.reach.specs.Marks.{paired}
use Rattle.graph.specs.Graph.{Graph, far, at}
use Rattle.graph.specs.Arcs.{unpacked_of, into_of, Least}
use Rattle.graph.specs.Configurations.{graph_of, prior_of, EdgeFits}
use Rattle.graph.proofs.Steps.{step_moves}
use Rattle.shortest.specs.Progress.{Progress, zero_in}
use Rattle.shortest.proofs.Progress.{tail_le, skip_to}
use Rattle.shortest.proofs.Turns.{Turn, stay, fresh_out, turn_none, turn_skip, turn_room, turn_more}
use native.Mathlib.Omega.{arith}
use Rattle.shortest.proofs.distances.relax_edges.Goals as goal
use Rattle.shortest.proofs.distances.relax_edges.Goals.{Start, in-Some, in_default}

abbrev graph : Start → Graph
graph S = graph_of S.args.arcs.now S.args.q (paired S.args.words.now)

abbrev last : Start → ℕ
last S = S.args.q.first + S.args.q.count

-- the state that an edge enters
abbrev target : Start → ℕ → ℕ
target S e = (unpacked_of (at S.args.arcs.now e)).to.0

searched : (S : Start) → Progress (graph S) (zero_in S.requires.by_index.0) S.args.dist.now S.args.queue.now S.args.turn.head S.args.q.first S.args.turn.tail
searched S = S.requires.by_index.1

-- the configuration that is taken from the queue
abbrev here : Start → ℕ
here S = at S.args.queue.now S.args.turn.head

here_in : (S : Start) → here S < length S.args.dist.now
here_in S = let p = (searched S).placed S.args.turn.head S.requires.head_lt_tail.0 in omega (arith, (searched S).whole)

here_small : (S : Start) → here S < 8192
here_small S = let p = (searched S).placed S.args.turn.head S.requires.head_lt_tail.0 in omega (arith, (searched S).fits)

few : (S : Start) → (S.args.turn.tail ≤ length S.args.queue.now) × (S.args.turn.tail ≤ 8192)
few S =
    let l = tail_le (graph S) _ _ _ _ _ _ (searched S) in
    (omega (arith, (searched S).room), omega (arith, (searched S).fits))

near : (S : Start) → at S.args.dist.now (here S) < 8192
near S = let a = (searched S).short S.args.turn.head S.requires.head_lt_tail.0 in let f = few S in omega (arith, S.requires.head_lt_tail.0)

state_fits : (S : Start) → here S % S.args.q.states < 16
state_fits S = let m = mod-lt (here S) S.requires.ready.some_state in omega (arith, S.requires.ready.few_states)

entry_in : (S : Start) → here S / S.args.q.states < length (paired S.args.words.now)
entry_in S = (div-lt_iff_lt-mul S.requires.ready.some_state).1 ((searched S).placed S.args.turn.head S.requires.head_lt_tail.0)

-- what `prior` says of the unpacked edge, of the edge at its number
told : (S : Start) (k r j : ℕ) (x : Edge) → r ≡ prior_of (paired S.args.words.now) x S.args.q.states x.to.0 j → x ≡ unpacked_of (at S.args.arcs.now k)
    → target S k ≡ here S % S.args.q.states → j ≡ here S / S.args.q.states → r ≡ (graph S).pre k (here S)
told S k r j x p e t i =
    p
    ∙ (ap (λ (y : Edge). prior_of (paired S.args.words.now) y S.args.q.states y.to.0 j) e
    ∙ ap₂ (λ (u v : ℕ). prior_of (paired S.args.words.now) (unpacked_of (at S.args.arcs.now k)) S.args.q.states u v) t i)

-- from one edge into the state to the next
passed : (S : Start) (D Q : List ℕ) (k x t : ℕ) → Least (target S) (here S % S.args.q.states) k (last S) x
    → Turn (graph S) S.args.dist.now S.args.queue.now S.args.turn.head S.args.turn.tail D Q k t
    → Turn (graph S) S.args.dist.now S.args.queue.now S.args.turn.head S.args.turn.tail D Q x t
passed S D Q k x t L u =
    turn_skip (graph S) S.args.dist.now S.args.queue.now S.args.turn.head S.args.turn.tail D Q k x t u
    (λ e p le lt st. L.none e le lt st.below_last (step_moves S.args.arcs.now S.args.q (paired S.args.words.now) S.requires.ready p e (here S) st).to_state)

pub bounds-queue-head : goal.bounds-queue-head
bounds-queue-head c = let f = few (goal.at.bounds-queue-head c).Start in omega (arith, c.requires.head_lt_tail.0)

pub loop-k-init : goal.loop-k-init
loop-k-init c =
    let S = (goal.at.loop-k-init c).Start in
    let k : c.first_into-k.result ≡ at c.args.arcs.now (256 + here S % c.args.q.states) % 65536 =
    c.first_into-k.ensures ∙ ap (λ (x : ℕ). at c.args.arcs.now (256 + x) % 65536) c.numbered-here.ensures.0
    in
    let L = subst (Least (target S) (here S % c.args.q.states) c.args.q.first (last S)) (sym k) (c.requires.ready.into.heads (here S % c.args.q.states) (state_fits S)) in
    (L.above, L.hit, passed S _ _ _ _ _ L (turn_none (graph S) c.args.dist.now c.args.queue.now c.args.turn.head c.args.turn.tail c.requires.head_lt_tail.0))

pub prior-requires-clause-edge_fits : goal.prior-requires-clause-edge_fits
prior-requires-clause-edge_fits c = subst (EdgeFits c.args.q.states) (sym c.unpacked.ensures) (c.requires.ready.each c.loop-k.k c.loop-k.invariant.0 c.loop-k-test.true)

pub relax-tail-requires : goal.relax-tail-requires
relax-tail-requires c =
    let S = (goal.at.relax-tail-requires c).Start in
    let l = c.loop-k in
    let there : c.in-Some.p < length l.dist = omega (arith, c.in-Some.ensures.1, l.invariant.2.long, (searched S).whole) in (
      there,
      turn_room (graph S) c.args.dist.now c.args.queue.now c.args.turn.head c.args.turn.tail l.dist l.queue l.k l.tail
          c.requires.by_index.0 (searched S) l.invariant.2 l.invariant.0 c.loop-k-test.true c.in-Some.p there,
    )

pub loop-k-preserved : goal.loop-k-preserved
loop-k-preserved c =
    let S = (goal.at.loop-k-preserved c).Start in
    let l = c.loop-k in
    let lt = c.loop-k-test.true in
    let m = c.match-prior in
    let e = l.invariant.1 lt in
    let a = c.args in
    let L = subst (Least (target S) (here S % a.q.states) (l.k + 1) (last S)) (sym c.into-k.ensures) (subst (λ (x : ℕ). Least (target S) x (l.k + 1) (last S) (into_of (at a.arcs.now l.k))) e (c.requires.ready.into.links l.k l.invariant.0 lt)) in (
      omega (arith, L.above, l.invariant.0),
      L.hit,
      passed S _ _ _ _ _ L
          (turn_more (graph S) a.dist.now a.queue.now a.turn.head a.turn.tail l.dist l.queue l.k l.tail
          c.requires.by_index.0 (searched S) l.invariant.2 l.invariant.0 lt (unwrap_or c.prior.result far)
          (at a.dist.now (here S) + 1) m.dist m.queue m.tail
          (told S l.k _ _ _ c.prior.ensures.0 c.unpacked.ensures e c.numbered-here.ensures.1)
          refl
          (elim m.branch [
            | in-Some w ↦ rw (w.in-Some.is, w.dist-is, w.queue-is, w.tail-is) w.relax-tail.ensures
            | in_default w ↦ rw (w.in_default.is, w.dist-is, w.queue-is, w.tail-is)
                (stay l.dist l.queue far (at a.dist.now (here S) + 1) l.tail (fresh_out l.dist far (omega (arith, l.invariant.2.long, (searched S).whole, (searched S).fits))))
          ])),
    )

pub returns-clause-by_index_2 : goal.returns-clause-by_index_2
returns-clause-by_index_2 c =
    let S = (goal.at.returns-clause-by_index_2 c).Start in
    let l = c.loop-k in λ Z a. skip_to (graph S) (zero_in Z) l.dist l.queue c.args.turn.head l.tail l.k (last S) (l.invariant.2.search Z a) (λ e p le lt st. let x = c.loop-k-test.false in omega arith)
