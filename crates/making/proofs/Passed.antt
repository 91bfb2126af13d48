-- Once a limit is passed, it stays so; and where there is no room, a step passes a limit.
use Prim.Native.Nat.{ℕ, ◌+◌, ◌≤◌, ◌<◌}
use mathlib.Core.Path.{◌≡◌, refl, ap, ◌∙◌}
use mathlib.Core.List.{List, [], ◌∷◌, ◌++◌}
use mathlib.Core.Bool.{Bool, true, false, cond}
use mathlib.Core.Logic.{◌⊎◌, inl, inr, ⊎_elim}
use native.Mathlib.Omega.{arith}
use lib.Dec.{eqb, ltb}
use lib.ListN.{length, length-append}
use borrow.Author.Tests.{lt-ltb, le-ltb, ltb-true, ltb-false}
use Rattle.aldlf.specs.Constants.{node_limit, automaton_limit, edge_limit, letter_t, letter_p, letter_n, letter_a, letter_o, letter_d, letter_b}
use Rattle.aldlf.specs.declared.Edge.{Edge}
use Rattle.aldlf.specs.declared.Table.{Table}
use Rattle.formula.specs.Formula.{Formula, always, fact, neg, both, either, some, every, Path, step, seq, alt, many}
use Rattle.formula.specs.Numbering as num
use Rattle.formula.specs.Numbering.{states, dir_number, edges, newest}
use Rattle.making.specs.declared.stack.Kept.{Kept}
use Rattle.making.specs.Work.{Outline, Made, over, live, grown, newest_of, automaton_of, under, part_of, frame_of, begun, linked, ended, four_linked, step_drawn, seq_drawn, alt_drawn, star_drawn, room_for, emitted}
use Rattle.making.specs.Build.{build, build_in}
use Rattle.making.proofs.Runs.{grown-over, under-over}
use Rattle.making.proofs.Live.{sketch, link_one}

pub less_or : (n m : ℕ) → (n < m) ⊎ (m ≤ n)
less_or n m = go (ltb n m) refl
  where
    go : (y : Bool) → ltb n m ≡ y → (n < m) ⊎ (m ≤ n)
    go true e = inl (ltb-true n m e)
    go false e = inr (ltb-false n m e)

-- ONCE A LIMIT IS PASSED
pub over-grown : (l x y : ℕ) (w : Made) → w ≡ over → grown l x y w ≡ over
over-grown l x y w e = ap (grown l x y) e ∙ grown-over l x y

pub over-under : (l k : ℕ) (w : Made) → w ≡ over → under l k w ≡ over
over-under l k w e = ap (under l k) e ∙ under-over l k

pub over-emitted : (f : Kept) (w : Made) → w ≡ over → emitted f w ≡ over
unfolding emitted
over-emitted f w e = rw e

pub over-begun : (w : Made) → w ≡ over → begun w ≡ over
unfolding begun
over-begun w e = rw e

pub over_step : (d : ℕ) (w : Made) → w ≡ over → step_drawn d w ≡ over
unfolding step_drawn
over_step d w e = rw e

pub over_seq : (k : Kept) (w : Made) → w ≡ over → seq_drawn k w ≡ over
unfolding seq_drawn
over_seq k w e = rw e

pub over_alt : (k : Kept) (w : Made) → w ≡ over → alt_drawn k w ≡ over
unfolding alt_drawn
over_alt k w e = rw e

pub over_star : (w : Made) → w ≡ over → star_drawn w ≡ over
unfolding star_drawn
over_star w e = rw e

pub over-linked : (e : Edge) → linked e over ≡ over
unfolding linked
over-linked e = refl

pub over-ended : (s a b : ℕ) (w : Made) → w ≡ over → ended s a b w ≡ over
unfolding ended
over-ended s a b w e = rw e

mutual
  unfolding build

  pub over-build : (a : Formula) (w : Made) → w ≡ over → build a w ≡ over
  over-build always w e = over-grown letter_t 0 0 w e
  over-build (fact f) w e = over-grown letter_p f 0 w e
  over-build (neg a) w e = over-under letter_n 0 (build a w) (over-build a w e)
  over-build (both a b) w e = over-grown letter_a (newest_of (build a w)) (newest_of (build b (build a w))) (build b (build a w)) (over-build b (build a w) (over-build a w e))
  over-build (either a b) w e = over-grown letter_o (newest_of (build a w)) (newest_of (build b (build a w))) (build b (build a w)) (over-build b (build a w) (over-build a w e))
  over-build (some p a) w e =
      let u = emitted (frame_of w) (build_in p (begun w)) in
      over-under letter_d (automaton_of u) (build a u) (over-build a u (over-emitted (frame_of w) (build_in p (begun w)) (over_in p (begun w) (over-begun w e))))
  over-build (every p a) w e =
      let u = emitted (frame_of w) (build_in p (begun w)) in
      over-under letter_b (automaton_of u) (build a u) (over-build a u (over-emitted (frame_of w) (build_in p (begun w)) (over_in p (begun w) (over-begun w e))))

  pub over_in : (p : Path) (w : Made) → w ≡ over → build_in p w ≡ over
  over_in (step d a) w e = over_step (dir_number d) (build a w) (over-build a w e)
  over_in (seq p q) w e = over_seq (part_of (build_in p w)) (build_in q (build_in p w)) (over_in q (build_in p w) (over_in p w e))
  over_in (alt p q) w e = over_alt (part_of (build_in p w)) (build_in q (build_in p w)) (over_in q (build_in p w) (over_in p w e))
  over_in (many p) w e = over_star (build_in p w) (over_in p w e)

-- THE STEPS AT A LIMIT
module _ (w : Made) (t : Table) (o : Outline) (e : w ≡ live t o) where
  pub grown_full : (l x y : ℕ) → node_limit ≤ t.used.nodes → grown l x y w ≡ over
  unfolding grown
  grown_full l x y h = rw (e, le-ltb t.used.nodes node_limit h)

  pub under_full : (l k : ℕ) → node_limit ≤ t.used.nodes → under l k w ≡ over
  unfolding under
  under_full l k h = go (eqb l letter_n)
    where
      go : (y : Bool) → cond y (grown l (newest_of w) 0 w) (grown l k (newest_of w) w) ≡ over
      go true = grown_full l (newest_of w) 0 h
      go false = grown_full l k (newest_of w) h

  -- a node, or none
  pub last_node : {P : Type 0} (l k : ℕ) → (t.used.nodes < node_limit → P) → P ⊎ (under l k w ≡ over)
  last_node l k f = ⊎_elim (λ h. inl (f h)) (λ h. inr (under_full l k h)) (less_or t.used.nodes node_limit)

  pub pair_node : {P : Type 0} (l x y : ℕ) → (t.used.nodes < node_limit → P) → P ⊎ (grown l x y w ≡ over)
  pair_node l x y f = ⊎_elim (λ h. inl (f h)) (λ h. inr (grown_full l x y h)) (less_or t.used.nodes node_limit)

  pub begun_full : edge_limit ≤ t.used.edges + length o.links → begun w ≡ over
  unfolding begun
  begun_full h = rw (e, le-ltb (t.used.edges + length o.links) edge_limit h)

  pub step_wide : (d : ℕ) → 15 ≤ o.states → step_drawn d w ≡ over
  unfolding step_drawn
  step_wide d h = rw (e, le-ltb o.states 15 h)

  pub alt_wide : (k : Kept) → 15 ≤ o.states → alt_drawn k w ≡ over
  unfolding alt_drawn
  alt_wide k h = rw (e, le-ltb o.states 15 h)

  pub star_wide : 15 ≤ o.states → star_drawn w ≡ over
  unfolding star_drawn
  star_wide h = rw (e, le-ltb o.states 15 h)

  pub emit_full : (f : Kept) → automaton_limit ≤ t.used.automata → emitted f w ≡ over
  unfolding emitted room_for
  emit_full f h = rw (e, le-ltb t.used.automata automaton_limit h)

link_full : (e : Edge) (t : Table) (o : Outline) → edge_limit ≤ t.used.edges + length o.links → linked e (live t o) ≡ over
unfolding linked
link_full e t o h = rw (le-ltb (t.used.edges + length o.links) edge_limit h)

-- no room for four links, whichever of them is the first without
module _ (t : Table) (base b x y : ℕ) where
  three_full : (f g h : Edge) (es : List Edge) → edge_limit < t.used.edges + length es + 3 → linked h (linked g (linked f (live t (sketch base b es x y)))) ≡ over
  three_full f g h es l =
      ⊎_elim
      (λ (i : t.used.edges + length es < edge_limit).
      let es₁ = es ++ (f ∷ []) in
      let n₁ : length es₁ ≡ length es + 1 = length-append es (f ∷ []) in
      ap (λ (w : Made). linked h (linked g w)) (link_one t base b x y f es i)
      ∙ ⊎_elim
      (λ (j : t.used.edges + length es₁ < edge_limit).
      let es₂ = es₁ ++ (g ∷ []) in
      let n₂ : length es₂ ≡ length es₁ + 1 = length-append es₁ (g ∷ []) in
      ap (λ (w : Made). linked h w) (link_one t base b x y g es₁ j) ∙ link_full h t (sketch base b es₂ x y) (omega arith))
      (λ (j : edge_limit ≤ t.used.edges + length es₁). ap (λ (w : Made). linked h w) (link_full g t (sketch base b es₁ x y) j) ∙ over-linked h)
      (less_or (t.used.edges + length es₁) edge_limit))
      (λ (i : edge_limit ≤ t.used.edges + length es).
      ap (λ (w : Made). linked h (linked g w)) (link_full f t (sketch base b es x y) i) ∙ ap (λ (w : Made). linked h w) (over-linked g) ∙ over-linked h)
      (less_or (t.used.edges + length es) edge_limit)

  four_full : (e f g h : Edge) (es : List Edge) → edge_limit < t.used.edges + length es + 4 → four_linked e f g h (live t (sketch base b es x y)) ≡ over
  four_full e f g h es l =
      ⊎_elim
      (λ (i : t.used.edges + length es < edge_limit).
      let es₁ = es ++ (e ∷ []) in
      let n₁ : length es₁ ≡ length es + 1 = length-append es (e ∷ []) in
      ap (λ (w : Made). linked h (linked g (linked f w))) (link_one t base b x y e es i) ∙ three_full f g h es₁ (omega arith))
      (λ (i : edge_limit ≤ t.used.edges + length es).
      ap (λ (w : Made). linked h (linked g (linked f w))) (link_full e t (sketch base b es x y) i)
      ∙ ap (λ (w : Made). linked h (linked g w)) (over-linked f) ∙ ap (λ (w : Made). linked h w) (over-linked g) ∙ over-linked h)
      (less_or (t.used.edges + length es) edge_limit)

module _ (w : Made) (t : Table) (base b : ℕ) (es : List Edge) (x y : ℕ) (e : w ≡ live t (sketch base b es x y)) where
  pub step_full : (d : ℕ) → b < 15 → edge_limit ≤ t.used.edges + length es → step_drawn d w ≡ over
  unfolding step_drawn
  step_full d n h = rw (e, lt-ltb b 15 n) (over-ended (b + 2) b (b + 1) _ (link_full (num.edge_of b d (newest t) (b + 1)) t (sketch base b es x y) h))

  pub seq_full : (k : Kept) → edge_limit ≤ t.used.edges + length es → seq_drawn k w ≡ over
  unfolding seq_drawn
  seq_full k h = rw e (over-ended b k.a y _ (link_full (num.link k.b x) t (sketch base b es x y) h))

  pub alt_full : (k : Kept) → b < 15 → edge_limit < t.used.edges + length es + 4 → alt_drawn k w ≡ over
  unfolding alt_drawn
  alt_full k n h = rw (e, lt-ltb b 15 n) (over-ended (b + 2) b (b + 1) _ (four_full t base b x y (num.link b k.a) (num.link b x) (num.link k.b (b + 1)) (num.link y (b + 1)) es h))

  pub star_full : b < 15 → edge_limit < t.used.edges + length es + 4 → star_drawn w ≡ over
  unfolding star_drawn
  star_full n h = rw (e, lt-ltb b 15 n) (over-ended (b + 2) b (b + 1) _ (four_full t base b x y (num.link b x) (num.link y x) (num.link y (b + 1)) (num.link b (b + 1)) es h))
