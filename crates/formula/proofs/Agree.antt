-- A sheet on which a formula stands agrees with it: its node holds at exactly the entries where the formula does. By induction over the formula: a node is what its line says (Definition 4), and the walks of a path's automaton are the path's runs.
use Prim.Native.Nat.{ℕ, zero, suc, ◌+◌, ◌-◌, ◌≤◌, ◌<◌}
use native.Mathlib.Omega.{arith}
use mathlib.Core.Path.{◌≡◌, refl, sym, subst, ap, ◌∙◌}
use mathlib.Core.Logic.Iff
use mathlib.Core.Logic.{◌⊎◌, ◌↔◌, ⊎_map}
use mathlib.Core.Bool.{Bool, true, false}
use mathlib.Core.List.{List, [], ◌∷◌}
use lib.Dec.{eqb}
use lib.ListN.{get_or, length}
use borrow.Author.Tests.{eq-eqb, ne_eqb, eqb-true, eqb-false}
use Rattle.aldlf.specs.Sheet.{Sheet, Line, T, P, N, A, O, D, B, no_edge}
use Rattle.aldlf.specs.Sheet as sheet
use Rattle.aldlf.specs.Meaning.{Values, Moves, Taken, Walk, Accepted, SomeWalk, EveryWalk, Says, Nodes, Below, Holds}
use Rattle.formula.specs.Formula.{Formula, always, fact, neg, both, either, some, every, Path, step, seq, alt, many, Sat, Runs}
use Rattle.formula.specs.Numbering.{under, within, own, entry, exit, edges}
use Rattle.formula.proofs.Laws.{some_at, at_some}
use Rattle.formula.specs.Counts.{automaton_count, automaton_count_in, edge_count, edge_count_in}
use Rattle.formula.proofs.Graph.{own_length, edge_from, Passes, Trip, stop, go, Goes, NodesRight, Go, runs_iff}

-- automaton m of the sheet, whose first edge is e, is the path's: its formulas' first node is k
pub record IsPath (S : Sheet) (k m e : ℕ) (p : Path) : Type 0 where
  pub start : (S.automaton m).start ≡ entry 0 p
  pub accepts : (s : ℕ) → (S.automaton m).accepts s ≡ eqb s (exit 0 p)
  pub first : (S.automaton m).first ≡ e
  pub count : (S.automaton m).count ≡ own p
  pub edges_are : (x : ℕ) → x < own p → S.edge (e + x) ≡ edge_from (get_or (edges k 0 p) x no_edge)

-- the formula stands on the sheet from node k, automaton m and edge e on; so do the formulas of a path
abbrev mutual
  pub Placed : Formula → Sheet → (k m e : ℕ) → Type 0
  Placed always S k m e = S.line k ≡ T
  Placed (fact f) S k m e = S.line k ≡ P f
  Placed (neg a) S k m e = Placed a S k m e × (S.line (k + suc (under a)) ≡ N (k + under a))
  Placed (both a b) S k m e = Placed a S k m e × Placed b S (k + suc (under a)) (m + automaton_count a) (e + edge_count a)
      × (S.line (k + (suc (under a) + suc (under b))) ≡ A (k + under a) (k + suc (under a) + under b))
  Placed (either a b) S k m e = Placed a S k m e × Placed b S (k + suc (under a)) (m + automaton_count a) (e + edge_count a)
      × (S.line (k + (suc (under a) + suc (under b))) ≡ O (k + under a) (k + suc (under a) + under b))
  Placed (some p a) S k m e = PlacedIn p S k m e × IsPath S k (m + automaton_count_in p) (e + edge_count_in p) p
      × Placed a S (k + within p) (m + suc (automaton_count_in p)) (e + (edge_count_in p + own p))
      × (S.line (k + (within p + suc (under a))) ≡ D (m + automaton_count_in p) (k + within p + under a))
  Placed (every p a) S k m e = PlacedIn p S k m e × IsPath S k (m + automaton_count_in p) (e + edge_count_in p) p
      × Placed a S (k + within p) (m + suc (automaton_count_in p)) (e + (edge_count_in p + own p))
      × (S.line (k + (within p + suc (under a))) ≡ B (m + automaton_count_in p) (k + within p + under a))

  pub PlacedIn : Path → Sheet → (k m e : ℕ) → Type 0
  PlacedIn (step d a) S k m e = Placed a S k m e
  PlacedIn (seq p q) S k m e = PlacedIn p S k m e × PlacedIn q S (k + within p) (m + automaton_count_in p) (e + edge_count_in p)
  PlacedIn (alt p q) S k m e = PlacedIn p S k m e × PlacedIn q S (k + within p) (m + automaton_count_in p) (e + edge_count_in p)
  PlacedIn (many p) S k m e = PlacedIn p S k m e

-- The walks of an automaton that is a path's
module _ (S : Sheet) (log : List ℕ) (H : Values) (zeroth : (i : ℕ) → H 0 i) (k m e : ℕ) (p : Path) (is : IsPath S k m e p) where
  edge_of : (x s i h : ℕ) → Taken S H m x s i → Moves (length log) (S.edge x).dir i h → Go log H zeroth k 0 p s i (S.edge x).to h
  edge_of x s i h t mv =
      some_at (Goes (length log) H s i (S.edge x).to h) no_edge (edges k 0 p) (x - e) (rw (own_length p k 0) inside)
      (subst (λ (z : sheet.Edge). Passes (length log) H s i (S.edge x).to h z) same (record { leaves = t.leaves; holds = t.holds; moves = mv; comes = refl }))
    where
      inside : x - e < own p
      inside = let a = t.above in let b = t.below in let f = is.first in let c = is.count in omega arith

      same : S.edge x ≡ edge_from (get_or (edges k 0 p) (x - e) no_edge)
      same = ap (λ (z : ℕ). S.edge z) (let a = t.above in let f = is.first in omega arith) ∙ is.edges_are (x - e) inside

  trip_of : (es : List ℕ) (s i t h : ℕ) → Walk S H (length log) m es s i t h → Trip (Go log H zeroth k 0 p) s i t h
  trip_of [] s i t h (a, b) = subst (λ (z : ℕ). Trip (Go log H zeroth k 0 p) s i t z) b (subst (λ (z : ℕ). Trip (Go log H zeroth k 0 p) s i z i) a stop)
  trip_of (x ∷ es) s i t h (tk, (g, mv, w)) = go (edge_of x s i g tk mv) (trip_of es (S.edge x).to g t h w)

  step_of : (s i t h u j : ℕ) → Go log H zeroth k 0 p s i t h → (es : List ℕ) → Walk S H (length log) m es t h u j
      → (x : ℕ) × Walk S H (length log) m (x ∷ es) s i u j
  step_of s i t h u j g es w =
      let r = at_some (Goes (length log) H s i t h) no_edge (edges k 0 p) g in
      let l : r.0 < own p = subst (λ (z : ℕ). r.0 < z) (own_length p k 0) r.1 in
      let y = subst (λ (z : sheet.Edge). Passes (length log) H s i t h z) (sym (is.edges_are r.0 l)) r.2 in
      let f = is.first in
      let c = is.count in (
        e + r.0,
        (
          record { above = omega arith; below = omega arith; leaves = y.leaves; holds = y.holds },
          (h, y.moves, subst (λ (z : ℕ). Walk S H (length log) m es z h u j) (sym y.comes) w),
        ),
      )

  walk_from : {s i u j : ℕ} → Trip (Go log H zeroth k 0 p) s i u j → (es : List ℕ) × Walk S H (length log) m es s i u j
  walk_from stop = ([], (refl, refl))
  walk_from (go {s} {i} {t} {h} {u} {j} g w) =
      let r = walk_from w in
      let y = step_of s i t h u j g r.0 r.1 in
      (y.0 ∷ r.0, y.1)

  module _ (r : NodesRight p log H k) where
    run_of : (es : List ℕ) (i s j : ℕ) → Walk S H (length log) m es (S.automaton m).start i s j → (S.automaton m).accepts s ≡ true → Runs p log i j
    run_of es i s j w acc =
        let at : s ≡ exit 0 p = eqb-true s (exit 0 p) (sym (is.accepts s) ∙ acc) in
        (runs_iff log H zeroth p k 0 r i j).0
        (trip_of es (entry 0 p) i (exit 0 p) j
        (subst (λ (z : ℕ). Walk S H (length log) m es (entry 0 p) i z j) at (subst (λ (z : ℕ). Walk S H (length log) m es z i s j) is.start w)))

    walk_of_run : (i j : ℕ) → Runs p log i j → (es : List ℕ) × Walk S H (length log) m es (S.automaton m).start i (exit 0 p) j
    walk_of_run i j x =
        let y = walk_from ((runs_iff log H zeroth p k 0 r i j).1 x) in
        (y.0, subst (λ (z : ℕ). Walk S H (length log) m y.0 z i (exit 0 p) j) (sym is.start) y.1)

    ends : (S.automaton m).accepts (exit 0 p) ≡ true
    ends = is.accepts (exit 0 p) ∙ eq-eqb (exit 0 p) (exit 0 p) refl

    accepted_run : (i j : ℕ) → Accepted S H (length log) m (S.automaton m).start i j → Runs p log i j
    accepted_run i j x = run_of x.0 i x.1 j x.2 x.3

    run_accepted : (i j : ℕ) → Runs p log i j → Accepted S H (length log) m (S.automaton m).start i j
    run_accepted i j x = let w = walk_of_run i j x in (w.0, exit 0 p, w.1, ends)

    some_agrees : (a : ℕ) (X : ℕ → Type 0) → ((j : ℕ) → H a j ↔ X j) → (i : ℕ)
        → SomeWalk S H (length log) m a (S.automaton m).start i ↔ ((j : ℕ) × Runs p log i j × X j)
    some_agrees a X f i = (
      λ y. (y.0, accepted_run i y.0 y.1, (f y.0).0 y.2),
      λ y. (y.0, run_accepted i y.0 y.1, (f y.0).1 y.2),
    )

    every_agrees : (a : ℕ) (X : ℕ → Type 0) → ((j : ℕ) → H a j ↔ X j) → (i : ℕ)
        → EveryWalk S H (length log) m a (S.automaton m).start i ↔ ((j : ℕ) → Runs p log i j → X j)
    every_agrees a X f i = (
      λ y j x. (f j).0 (y j (run_accepted i j x)),
      λ y j x. (f j).1 (y j (accepted_run i j x)),
    )

or_iff : {X Y X' Y' : Type 0} → X ↔ Y → X' ↔ Y' → (X ⊎ X') ↔ (Y ⊎ Y')
or_iff f g = (⊎_map f.0 g.0, ⊎_map f.1 g.1)

-- Definition 4, node by node
module _ (S : Sheet) (log : List ℕ) where
  below_skip : (n k i : ℕ) → ¬ (k ≡ n) → Below S log (suc n) k i ↔ Below S log n k i
  unfolding Nodes
  below_skip n k i ne = rw (ne_eqb k n ne) Iff.rfl

  below_iff : (n k i : ℕ) → k < n → Below S log n k i ↔ Holds S log k i
  below_iff zero k i l = absurd (omega arith)
  below_iff (suc n) k i l = cases (eqb k n) refl (below_iff n k i)
    where
      cases : (b : Bool) → eqb k n ≡ b → (k < n → Below S log n k i ↔ Holds S log k i) → Below S log (suc n) k i ↔ Holds S log k i
      cases true e rec = subst (λ (z : ℕ). Below S log (suc z) k i ↔ Holds S log k i) (eqb-true k n e) Iff.rfl
      cases false e rec = let ne : ¬ (k ≡ n) = eqb-false k n e in Iff.trans (below_skip n k i ne) (rec (omega arith))

  holds_says : (k i : ℕ) → Holds S log k i ↔ Says S log (Below S log k) (S.line k) i
  unfolding Nodes
  holds_says k i = rw (eq-eqb k k refl) Iff.rfl

  holds_as : (k i : ℕ) (l : Line) → S.line k ≡ l → Holds S log k i ↔ Says S log (Below S log k) l i
  holds_as k i l e = subst (λ (z : Line). Holds S log k i ↔ Says S log (Below S log k) z i) e (holds_says k i)

  module _ (first : S.line 0 ≡ T) where
    zero_holds : (n i : ℕ) → 0 < n → Below S log n 0 i
    zero_holds n i l = (below_iff n 0 i l).1 ((holds_as 0 i T first).1 tt)

    leaf : (k i : ℕ) (l : Line) (X : Type 0) → S.line k ≡ l → (Says S log (Below S log k) l i ↔ X) → Holds S log (k + 0) i ↔ X
    leaf k i l X e f = let z : k ≡ k + 0 = omega arith in subst (λ (y : ℕ). Holds S log y i ↔ X) z (Iff.trans (holds_as k i l e) f)

    -- an earlier node seen from node n
    seen : (n k i : ℕ) (X : Type 0) → k < n → Holds S log k i ↔ X → Below S log n k i ↔ X
    seen n k i X l f = Iff.trans (below_iff n k i l) f

    mutual
      -- THE SHEET AGREES: the node of the formula holds where the formula does
      pub agree : (a : Formula) (k m e : ℕ) → 0 < k → Placed a S k m e → (i : ℕ) → Holds S log (k + under a) i ↔ Sat a log i
      agree always k m e pos pl i = leaf k i T _ pl Iff.rfl
      agree (fact f) k m e pos pl i = leaf k i (P f) _ pl Iff.rfl
      agree (neg a) k m e pos pl i =
          Iff.trans (holds_as _ i _ pl.1) (Iff.not (seen _ _ i _ (omega arith) (agree a k m e pos pl.0 i)))
      agree (both a b) k m e pos pl i =
          Iff.trans (holds_as _ i _ pl.2)
          (Iff.and (seen _ _ i _ (omega arith) (agree a k m e pos pl.0 i))
          (seen _ _ i _ (omega arith) (agree b (k + suc (under a)) (m + automaton_count a) (e + edge_count a) (omega arith) pl.1 i)))
      agree (either a b) k m e pos pl i =
          Iff.trans (holds_as _ i _ pl.2)
          (or_iff (seen _ _ i _ (omega arith) (agree a k m e pos pl.0 i))
          (seen _ _ i _ (omega arith) (agree b (k + suc (under a)) (m + automaton_count a) (e + edge_count a) (omega arith) pl.1 i)))
      agree (some p a) k m e pos pl i =
          let n = k + (within p + suc (under a)) in
          Iff.trans (holds_as n i _ pl.3)
          (some_agrees S log (Below S log n) (λ j. zero_holds n j (omega arith)) k (m + automaton_count_in p) (e + edge_count_in p) p pl.1
          (nodes_right p k m e n pos pl.0 (omega arith)) (k + within p + under a) (Sat a log)
          (λ j. seen n _ j _ (omega arith) (agree a (k + within p) (m + suc (automaton_count_in p)) (e + (edge_count_in p + own p)) (omega arith) pl.2 j)) i)
      agree (every p a) k m e pos pl i =
          let n = k + (within p + suc (under a)) in
          Iff.trans (holds_as n i _ pl.3)
          (every_agrees S log (Below S log n) (λ j. zero_holds n j (omega arith)) k (m + automaton_count_in p) (e + edge_count_in p) p pl.1
          (nodes_right p k m e n pos pl.0 (omega arith)) (k + within p + under a) (Sat a log)
          (λ j. seen n _ j _ (omega arith) (agree a (k + within p) (m + suc (automaton_count_in p)) (e + (edge_count_in p + own p)) (omega arith) pl.2 j)) i)

      nodes_right : (p : Path) (k m e n : ℕ) → 0 < k → PlacedIn p S k m e → k + within p ≤ n → NodesRight p log (Below S log n) k
      nodes_right (step d a) k m e n pos pl l = λ i. seen n _ i _ (omega arith) (agree a k m e pos pl i)
      nodes_right (seq p q) k m e n pos pl l = (nodes_right p k m e n pos pl.0 (omega arith), nodes_right q (k + within p) (m + automaton_count_in p) (e + edge_count_in p) n (omega arith) pl.1 (omega arith))
      nodes_right (alt p q) k m e n pos pl l = (nodes_right p k m e n pos pl.0 (omega arith), nodes_right q (k + within p) (m + automaton_count_in p) (e + edge_count_in p) n (omega arith) pl.1 (omega arith))
      nodes_right (many p) k m e n pos pl l = nodes_right p k m e n pos pl l
