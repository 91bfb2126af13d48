-- `lowest_edge` meets its contract: no edge below k leads to the wanted distance, for the edges that a chain passes over leave another state; as some edge does, a chain never ends before it. Assumes nothing.
use Prim.Native.Nat.{ℕ, ◌+◌, ◌*◌, ◌<◌}
use mathlib.Core.Path.{◌≡◌, refl, sym, subst, ◌∙◌}
use mathlib.Core.Logic.{⊎_elim}
use lib.Arith.{digits_mod}
use lib.ListN.{length}
use Rattle.aldlf.specs.declared.Edge.{Edge}
use Rattle.aldlf.proofs.Bools.{lt-or-le}
use Rattle.reach.specs.Marks.{paired}
use Rattle.graph.specs.Graph.{Graph, Step, far, at}
use Rattle.graph.specs.Arcs.{unpacked_of, out_of, Least}
use Rattle.graph.specs.Configurations.{graph_of, EdgeFits, Moves}
use Rattle.graph.proofs.Cases.{split}
use Rattle.graph.proofs.Steps.{step_moves, moves_step, config_inside}
use Rattle.shortest.specs.Descent.{Nearer, number_of}
use native.Mathlib.Omega.{arith}
use Rattle.shortest.proofs.trace.lowest_edge.Goals as goal
use Rattle.shortest.proofs.trace.lowest_edge.Goals.{Start}

abbrev graph : Start → Graph
graph S = graph_of S.args.arcs.now S.args.q (paired S.args.words.now)

abbrev start : Start → ℕ
start S = number_of S.args.q.states S.args.wanted.from

abbrev last : Start → ℕ
last S = S.args.q.first + S.args.q.count

-- the state that an edge leaves
abbrev source : Start → ℕ → ℕ
source S e = (unpacked_of (at S.args.arcs.now e)).from.0

state_fits : (S : Start) → S.args.wanted.from.state.0 < 16
state_fits S = omega (arith, S.requires.dist_len.1.state_fits, S.requires.ready.few_states)

-- an edge from the configuration leaves its state
leaves : (S : Start) (a r : ℕ) → Step (graph S) (start S) a r → source S a ≡ S.args.wanted.from.state.0
leaves S a r st =
    (step_moves S.args.arcs.now S.args.q (paired S.args.words.now) S.requires.ready (start S) a r st).from_state
    ∙ digits_mod S.args.wanted.from.entry.0 S.requires.dist_len.1.state_fits

-- what `nearer` says of the unpacked edge, of the edge at its number
told : (S : Start) (k r : ℕ) (x : Edge) → x ≡ unpacked_of (at S.args.arcs.now k)
    → Nearer (paired S.args.words.now) S.args.dist.now x S.args.q.states (start S) S.args.wanted.distance r
    → Nearer (paired S.args.words.now) S.args.dist.now (unpacked_of (at S.args.arcs.now k)) S.args.q.states (start S) S.args.wanted.distance r
told S k r x e n = subst (λ (y : Edge). Nearer (paired S.args.words.now) S.args.dist.now y S.args.q.states (start S) S.args.wanted.distance r) e n

-- an edge that is asked for is left as long as none is found
left : (S : Start) (k : ℕ) → ((a r : ℕ) → a < k → Step (graph S) (start S) a r → at S.args.dist.now r ≡ S.args.wanted.distance → ⊥) → k < last S
left S k none =
    let x = S.requires.by_index in
    ⊎_elim (λ l. l) (λ l. absurd (none x.0 x.1 (let b = x.2.below_last in omega arith) x.2 x.3)) (lt-or-le k (last S))

pub loop-entry-init : goal.loop-entry-init
loop-entry-init c =
    let S = (goal.at.loop-entry-init c).Start in
    let L = subst (Least (source S) c.args.wanted.from.state.0 c.args.q.first (last S)) (sym c.first_out-k.ensures) (c.requires.ready.out.heads c.args.wanted.from.state.0 (state_fits S)) in
    let none : (a r : ℕ) → a < c.first_out-k.result → Step (graph S) (start S) a r → at c.args.dist.now r ≡ c.args.wanted.distance → ⊥ =
    λ a r l st e. L.none a st.from_first l st.below_last (leaves S a r st) in
    let l = left S _ none in
    (L.above, l, L.hit l, none)

pub returns-in-Some-clause-lowest : goal.returns-in-Some-clause-lowest
returns-in-Some-clause-lowest c =
    let S = (goal.at.returns-in-Some-clause-lowest c).Start in
    let a = c.args in
    let l = c.loop-entry in
    let j = c.in-Some.entry.0 in
    let x = c.unpacked-e.result in
    let e = c.unpacked-e.ensures in
    let n = c.in-Some.ensures in
    let t = n.0.there (λ f. omega (arith, n.1, c.requires.ready.few_words)) in
    let f = subst (EdgeFits a.q.states) (sym e) (c.requires.ready.each l.k l.invariant.0 l.invariant.1) in record {
      step =
          moves_step a.arcs.now a.q (paired a.words.now) c.requires.ready (start S) l.k (j * a.q.states + x.to.0) l.invariant.0 l.invariant.1
          (config_inside a.wanted.from.entry.0 a.q.states a.wanted.from.state.0 (length (paired a.words.now)) c.requires.dist_len.1.entry_fits c.requires.dist_len.1.state_fits)
          (config_inside j a.q.states x.to.0 (length (paired a.words.now)) t.0 f.to_fits)
          (subst (λ (y : Edge). Moves (paired a.words.now) y a.q.states (start S) (j * a.q.states + x.to.0)) e t.1);
      near = t.2;
      low = l.invariant.3;
    }

pub returns-in-Some-clause-inside : goal.returns-in-Some-clause-inside
returns-in-Some-clause-inside c =
    let l = c.loop-entry in
    let f = subst (EdgeFits c.args.q.states) (sym c.unpacked-e.ensures) (c.requires.ready.each l.k l.invariant.0 l.invariant.1) in
    record { state_fits = f.to_fits; entry_fits = c.in-Some.ensures.1 }

pub loop-entry-preserved : goal.loop-entry-preserved
loop-entry-preserved c =
    let S = (goal.at.loop-entry-preserved c).Start in
    let l = c.loop-entry in
    let lt = l.invariant.1 in
    let n = told S l.k far c.unpacked-e.result c.unpacked-e.ensures c.in_default.ensures.0 in
    let L = subst (Least (source S) c.args.wanted.from.state.0 (l.k + 1) (last S)) (sym c.out-k.ensures) (subst (λ (x : ℕ). Least (source S) x (l.k + 1) (last S) (out_of (at c.args.arcs.now l.k))) l.invariant.2 (c.requires.ready.out.links l.k l.invariant.0 lt)) in
    let none : (a r : ℕ) → a < c.out-k.result → Step (graph S) (start S) a r → at c.args.dist.now r ≡ c.args.wanted.distance → ⊥ =
    λ a r al st q.
    ⊎_elim
    (λ x.
    ⊎_elim
    (λ same. n.none refl r st.target_in (step_moves c.args.arcs.now c.args.q (paired c.args.words.now) c.requires.ready (start S) l.k r (subst (λ (y : ℕ). Step (graph S) (start S) y r) same st)) q)
    (λ below. l.invariant.3 a r below st q)
    (split a l.k x))
    (λ above. L.none a above al st.below_last (leaves S a r st))
    (lt-or-le a (l.k + 1)) in
    let b = left S _ none in
    (omega (arith, L.above, l.invariant.0), b, L.hit b, none)
