-- What a formula makes is its table where the sheet made of it is within the limits, and else a limit is passed. By induction over the formula: each question of room that gets a no is a limit that the sheet would pass.
use Prim.Native.Nat.{ℕ, suc, ◌+◌, ◌≤◌, ◌<◌, max}
use mathlib.Core.Path.{◌≡◌}
use mathlib.Core.List.{List, ◌++◌}
use mathlib.Core.Logic.{◌⊎◌, inl, inr, ⊎_elim}
use native.Mathlib.Omega.{arith}
use native.Mathlib.Nat.{max-le}
use lib.ListN.{length}
use Rattle.aldlf.specs.Constants.{node_limit, automaton_limit, state_limit, edge_limit, letter_t, letter_p, letter_n, letter_a, letter_o, letter_d, letter_b}
use Rattle.aldlf.specs.declared.Edge.{Edge}
use Rattle.aldlf.specs.declared.Table.{Table}
use Rattle.formula.specs.Formula.{Formula, always, fact, neg, both, either, some, every, Path, step, seq, alt, many}
use Rattle.formula.specs.Numbering as num
use Rattle.formula.specs.Numbering.{within, states, own, entry, exit, dir_number, edges, with_path, made, made_in}
use Rattle.formula.specs.Outcome.{widest_in}
use Rattle.formula.specs.Counts.{automaton_count, automaton_count_in, edge_count, edge_count_in}
use Rattle.formula.proofs.Counts.{Adds, made_adds, in_adds}
use Rattle.making.specs.Work.{Outline, Made, over, live, newest_of, automaton_of, under, part_of, frame_of, begun, emitted}
use Rattle.making.specs.Build.{build, build_in}
use Rattle.making.proofs.Passed.{less_or, over-grown, over-under, over-emitted, over_step, over_seq, over_alt, over_star, over-build, over_in, grown_full, last_node, pair_node, begun_full, step_wide, alt_wide, star_wide, emit_full, step_full, seq_full, alt_full, star_full}
use Rattle.making.proofs.Live.{sketch, Fits, FitsF, FitsP, FitsM, frame_is, begun-live, emit_live, chain_length, yes, yes_in}

-- THE ROOMS OF THE WHOLE
pub record Small (t : Table) (k : ℕ) : Type 0 where
  pub automata : t.used.automata ≤ automaton_limit
  pub edges : t.used.edges + k ≤ edge_limit

small_after : {n m e w : ℕ} {t u : Table} {k : ℕ} → Fits n m e w t k → Adds n m e t u → Small u k
small_after f c = record { automata = omega (arith, f.automata, c.automata); edges = omega (arith, f.edges, c.edges) }

one_fits : {t : Table} {k : ℕ} → Small t k → t.used.nodes < node_limit → Fits 1 0 0 0 t k
one_fits s h = record { nodes = omega arith; automata = omega (arith, s.automata); edges = omega (arith, s.edges); wide = omega arith }

neg_fits : (a : Formula) {t u : Table} {k : ℕ} → FitsF a t k → Adds (suc (num.under a)) (automaton_count a) (edge_count a) t u → u.used.nodes < node_limit → FitsF (neg a) t k
neg_fits a f c h = record { nodes = omega (arith, c.nodes); automata = f.automata; edges = f.edges; wide = f.wide }

both_fits : (a b : Formula) {t u v : Table} {k : ℕ} → FitsF a t k → FitsF b u k → Adds (suc (num.under a)) (automaton_count a) (edge_count a) t u → Adds (suc (num.under b)) (automaton_count b) (edge_count b) u v
    → v.used.nodes < node_limit → FitsF (both a b) t k
both_fits a b f g c d h =
    record { nodes = omega (arith, c.nodes, d.nodes); automata = omega (arith, g.automata, c.automata); edges = omega (arith, g.edges, c.edges); wide = max-le f.wide g.wide }

-- the two sides of `;` and `+`, which add j links
pair_fits : (p q : Path) (j : ℕ) {t u v : Table} {k l : ℕ} → FitsP p t k → FitsP q u l → Adds (within p) (automaton_count_in p) (edge_count_in p) t u → Adds (within q) (automaton_count_in q) (edge_count_in q) u v → l ≡ k + own p
    → v.used.edges + (l + own q) + j ≤ edge_limit → Fits (within p + within q) (automaton_count_in p + automaton_count_in q) (edge_count_in p + edge_count_in q + (own p + (own q + j))) (max (widest_in p) (widest_in q)) t k
pair_fits p q j f g c d z h =
    record {
      nodes = omega (arith, g.nodes, c.nodes);
      automata = omega (arith, g.automata, c.automata);
      edges = omega (arith, c.edges, d.edges);
      wide = max-le f.wide g.wide;
    }

mode_fits : (p : Path) (a : Formula) {t v : Table} {k : ℕ} → FitsP p t k → states p ≤ state_limit → FitsF a (with_path (made_in p t) t.used.nodes p) k
    → Adds (suc (num.under a)) (automaton_count a) (edge_count a) (with_path (made_in p t) t.used.nodes p) v → v.used.nodes < node_limit → FitsM p a t k
mode_fits p a {t} f h g d l =
    let c = in_adds p t in
    record {
      nodes = omega (arith, c.nodes, d.nodes);
      automata = omega (arith, g.automata, c.automata);
      edges = omega (arith, g.edges, c.edges);
      wide = max-le (max-le h f.wide) g.wide;
    }

-- it holds, or a limit is passed
abbrev Decided : Type 0 → Made → Type 0
Decided P w = P ⊎ (w ≡ over)

record InFits (p : Path) (t : Table) (b k : ℕ) : Type 0 where
  pub fits : FitsP p t k
  pub wide : b + states p ≤ state_limit

-- what a path mark comes to, by what its path and its formula come to
module _ (l : ℕ) (p : Path) (a : Formula) (w : Made) (t : Table) (o : Outline) (e : w ≡ live t o) where
  abbrev v : Made
  v = build_in p (begun w)

  abbrev k : ℕ
  k = length o.links

  abbrev U : Table
  U = with_path (made_in p t) t.used.nodes p

  abbrev Node : Type 0
  Node = Decided (FitsM p a t k) (under l (automaton_of (emitted (frame_of w) v)) (build a (emitted (frame_of w) v)))

  gone : emitted (frame_of w) v ≡ over → Node
  gone h = inr (over-under l (automaton_of (emitted (frame_of w) v)) (build a (emitted (frame_of w) v)) (over-build a (emitted (frame_of w) v) h))

  mode_in : begun w ≡ live t (sketch k 0 o.links 0 0) → (emitted (frame_of w) v ≡ live U o → Small U k → Decided (FitsF a U k) (build a (emitted (frame_of w) v))) → InFits p t 0 k → Node
  mode_in g rec f =
      let h : states p ≤ state_limit = (let i = f.wide in omega arith) in
      let ev = yes_in p (begun w) t k 0 o.links 0 0 g f.fits f.wide in
      let c = in_adds p t in
      let q = f.fits in
      ⊎_elim
      (λ (i : (made_in p t).used.automata < automaton_limit).
      let u = emit_live (made_in p t) o p t.used.nodes i h (frame_of w) v (frame_is w t o e) ev in
      ⊎_elim
      (λ (j : FitsF a U k). last_node (build a (emitted (frame_of w) v)) (made a U) o (yes a (emitted (frame_of w) v) U o u j) l (automaton_of (emitted (frame_of w) v)) (λ z. mode_fits p a f.fits h j (made_adds a U) z))
      (λ (j : build a (emitted (frame_of w) v) ≡ over). inr (over-under l (automaton_of (emitted (frame_of w) v)) (build a (emitted (frame_of w) v)) j))
      (rec u (record { automata = omega arith; edges = omega (arith, q.edges, c.edges) })))
      (λ (i : automaton_limit ≤ (made_in p t).used.automata).
      gone (emit_full v (made_in p t) (sketch k (0 + states p) (o.links ++ edges t.used.nodes 0 p) (entry 0 p) (exit 0 p)) ev (frame_of w) i))
      (less_or (made_in p t).used.automata automaton_limit)

  mode_decide : (begun w ≡ live t (sketch k 0 o.links 0 0) → Decided (InFits p t 0 k) v)
      → (emitted (frame_of w) v ≡ live U o → Small U k → Decided (FitsF a U k) (build a (emitted (frame_of w) v))) → Node
  mode_decide path rec =
      ⊎_elim
      (λ (h : t.used.edges + k < edge_limit).
      let g = begun-live w t o e h in
      ⊎_elim (mode_in g rec) (λ (i : v ≡ over). gone (over-emitted (frame_of w) v i)) (path g))
      (λ (h : edge_limit ≤ t.used.edges + k). gone (over-emitted (frame_of w) v (over_in p (begun w) (begun_full w t o e h))))
      (less_or (t.used.edges + k) edge_limit)

mutual
  unfolding build made

  -- A FORMULA FITS, OR A LIMIT IS PASSED
  pub decide : (a : Formula) (w : Made) (t : Table) (o : Outline) → w ≡ live t o → Small t (length o.links) → Decided (FitsF a t (length o.links)) (build a w)
  decide always w t o e m = ⊎_elim (λ h. inl (one_fits m h)) (λ h. inr (grown_full w t o e letter_t 0 0 h)) (less_or t.used.nodes node_limit)
  decide (fact x) w t o e m = ⊎_elim (λ h. inl (one_fits m h)) (λ h. inr (grown_full w t o e letter_p x 0 h)) (less_or t.used.nodes node_limit)
  decide (neg a) w t o e m =
      ⊎_elim (λ f. last_node (build a w) (made a t) o (yes a w t o e f) letter_n 0 (λ h. neg_fits a f (made_adds a t) h)) (λ h. inr (over-under letter_n 0 (build a w) h)) (decide a w t o e m)
  decide (both a b) w t o e m =
      let u = build a w in
      let v = build b u in
      ⊎_elim
      (λ f. let eu = yes a w t o e f in
      ⊎_elim
      (λ g. pair_node v (made b (made a t)) o (yes b u (made a t) o eu g) letter_a (newest_of u) (newest_of v) (λ h. both_fits a b f g (made_adds a t) (made_adds b (made a t)) h))
      (λ h. inr (over-grown letter_a (newest_of u) (newest_of v) v h))
      (decide b u (made a t) o eu (small_after f (made_adds a t))))
      (λ h. inr (over-grown letter_a (newest_of u) (newest_of v) v (over-build b u h)))
      (decide a w t o e m)
  decide (either a b) w t o e m =
      let u = build a w in
      let v = build b u in
      ⊎_elim
      (λ f. let eu = yes a w t o e f in
      ⊎_elim
      (λ g. pair_node v (made b (made a t)) o (yes b u (made a t) o eu g) letter_o (newest_of u) (newest_of v) (λ h. both_fits a b f g (made_adds a t) (made_adds b (made a t)) h))
      (λ h. inr (over-grown letter_o (newest_of u) (newest_of v) v h))
      (decide b u (made a t) o eu (small_after f (made_adds a t))))
      (λ h. inr (over-grown letter_o (newest_of u) (newest_of v) v (over-build b u h)))
      (decide a w t o e m)
  decide (some p a) w t o e m =
      mode_decide letter_d p a w t o e (λ g. decide_in p (begun w) t (length o.links) 0 o.links 0 0 g m (omega arith))
      (λ u n. decide a (emitted (frame_of w) (build_in p (begun w))) (with_path (made_in p t) t.used.nodes p) o u n)
  decide (every p a) w t o e m =
      mode_decide letter_b p a w t o e (λ g. decide_in p (begun w) t (length o.links) 0 o.links 0 0 g m (omega arith))
      (λ u n. decide a (emitted (frame_of w) (build_in p (begun w))) (with_path (made_in p t) t.used.nodes p) o u n)

  -- A PATH FITS, OR A LIMIT IS PASSED
  decide_in : (p : Path) (w : Made) (t : Table) (base b : ℕ) (es : List Edge) (x y : ℕ) → w ≡ live t (sketch base b es x y) → Small t (length es) → b ≤ state_limit → Decided (InFits p t b (length es)) (build_in p w)
  decide_in (step d a) w t base b es x y e m r =
      let u = build a w in
      let c = made_adds a t in
      ⊎_elim
      (λ (f : FitsF a t (length es)). let eu = yes a w t (sketch base b es x y) e f in
      ⊎_elim
      (λ (h : b < 15). ⊎_elim
      (λ (i : (made a t).used.edges + length es < edge_limit). inl (record { fits = record { nodes = f.nodes; automata = f.automata; edges = omega (arith, c.edges); wide = f.wide }; wide = omega arith }))
      (λ (i : edge_limit ≤ (made a t).used.edges + length es). inr (step_full u (made a t) base b es x y eu (dir_number d) h i))
      (less_or ((made a t).used.edges + length es) edge_limit))
      (λ (h : 15 ≤ b). inr (step_wide u (made a t) (sketch base b es x y) eu (dir_number d) h))
      (less_or b 15))
      (λ (h : u ≡ over). inr (over_step (dir_number d) u h))
      (decide a w t (sketch base b es x y) e m)
  decide_in (seq p q) w t base b es x y e m r =
      let u = build_in p w in
      let v = build_in q u in
      let T₁ = made_in p t in
      let T₂ = made_in q T₁ in
      let es₁ = es ++ edges t.used.nodes b p in
      let es₂ = es₁ ++ edges T₁.used.nodes (b + states p) q in
      let n₁ = chain_length es t.used.nodes b p in
      let n₂ = chain_length es₁ T₁.used.nodes (b + states p) q in
      let c = in_adds p t in
      let c₂ = in_adds q T₁ in
      ⊎_elim
      (λ (f : InFits p t b (length es)). let eu = yes_in p w t base b es x y e f.fits f.wide in
      let ff = f.fits in
      ⊎_elim
      (λ (g : InFits q T₁ (b + states p) (length es₁)). let ev = yes_in q u T₁ base (b + states p) es₁ (entry b p) (exit b p) eu g.fits g.wide in
      ⊎_elim
      (λ (i : T₂.used.edges + length es₂ < edge_limit). inl (record { fits = pair_fits p q 1 f.fits g.fits c c₂ n₁ (omega (arith, n₁, n₂)); wide = (let h = g.wide in omega arith) }))
      (λ (i : edge_limit ≤ T₂.used.edges + length es₂). inr (seq_full v T₂ base (b + states p + states q) es₂ (entry (b + states p) q) (exit (b + states p) q) ev (part_of u) i))
      (less_or (T₂.used.edges + length es₂) edge_limit))
      (λ (h : v ≡ over). inr (over_seq (part_of u) v h))
      (decide_in q u T₁ base (b + states p) es₁ (entry b p) (exit b p) eu (record { automata = omega (arith, ff.automata, c.automata); edges = omega (arith, ff.edges, c.edges, n₁) }) f.wide))
      (λ (h : u ≡ over). inr (over_seq (part_of u) v (over_in q u h)))
      (decide_in p w t base b es x y e m r)
  decide_in (alt p q) w t base b es x y e m r =
      let u = build_in p w in
      let v = build_in q u in
      let T₁ = made_in p t in
      let T₂ = made_in q T₁ in
      let es₁ = es ++ edges t.used.nodes b p in
      let es₂ = es₁ ++ edges T₁.used.nodes (b + states p) q in
      let n₁ = chain_length es t.used.nodes b p in
      let n₂ = chain_length es₁ T₁.used.nodes (b + states p) q in
      let c = in_adds p t in
      let c₂ = in_adds q T₁ in
      ⊎_elim
      (λ (f : InFits p t b (length es)). let eu = yes_in p w t base b es x y e f.fits f.wide in
      let ff = f.fits in
      ⊎_elim
      (λ (g : InFits q T₁ (b + states p) (length es₁)). let ev = yes_in q u T₁ base (b + states p) es₁ (entry b p) (exit b p) eu g.fits g.wide in
      ⊎_elim
      (λ (j : b + states p + states q < 15). ⊎_elim
      (λ (i : T₂.used.edges + length es₂ + 3 < edge_limit). inl (record { fits = pair_fits p q 4 f.fits g.fits c c₂ n₁ (omega (arith, n₁, n₂)); wide = omega arith }))
      (λ (i : edge_limit ≤ T₂.used.edges + length es₂ + 3). inr (alt_full v T₂ base (b + states p + states q) es₂ (entry (b + states p) q) (exit (b + states p) q) ev (part_of u) j (omega arith)))
      (less_or (T₂.used.edges + length es₂ + 3) edge_limit))
      (λ (j : 15 ≤ b + states p + states q). inr (alt_wide v T₂ (sketch base (b + states p + states q) es₂ (entry (b + states p) q) (exit (b + states p) q)) ev (part_of u) j))
      (less_or (b + states p + states q) 15))
      (λ (h : v ≡ over). inr (over_alt (part_of u) v h))
      (decide_in q u T₁ base (b + states p) es₁ (entry b p) (exit b p) eu (record { automata = omega (arith, ff.automata, c.automata); edges = omega (arith, ff.edges, c.edges, n₁) }) f.wide))
      (λ (h : u ≡ over). inr (over_alt (part_of u) v (over_in q u h)))
      (decide_in p w t base b es x y e m r)
  decide_in (many p) w t base b es x y e m r =
      let u = build_in p w in
      let T₁ = made_in p t in
      let es₁ = es ++ edges t.used.nodes b p in
      let n₁ = chain_length es t.used.nodes b p in
      let c = in_adds p t in
      ⊎_elim
      (λ (f : InFits p t b (length es)). let eu = yes_in p w t base b es x y e f.fits f.wide in
      let ff = f.fits in
      ⊎_elim
      (λ (j : b + states p < 15). ⊎_elim
      (λ (i : T₁.used.edges + length es₁ + 3 < edge_limit). inl (record { fits = record { nodes = ff.nodes; automata = ff.automata; edges = omega (arith, c.edges, n₁); wide = ff.wide }; wide = omega arith }))
      (λ (i : edge_limit ≤ T₁.used.edges + length es₁ + 3). inr (star_full u T₁ base (b + states p) es₁ (entry b p) (exit b p) eu j (omega arith)))
      (less_or (T₁.used.edges + length es₁ + 3) edge_limit))
      (λ (j : 15 ≤ b + states p). inr (star_wide u T₁ (sketch base (b + states p) es₁ (entry b p) (exit b p)) eu j))
      (less_or (b + states p) 15))
      (λ (h : u ≡ over). inr (over_star u h))
      (decide_in p w t base b es x y e m r)
