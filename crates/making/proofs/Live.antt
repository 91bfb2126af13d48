-- Where the sheet made of a formula is within the limits, what is made is live, and its table is the one that the formula makes. By induction over the formula.
use Prim.Native.Nat.{ℕ, suc, ◌+◌, ◌-◌, ◌≤◌, ◌<◌, max}
use mathlib.Core.Path.{◌≡◌, refl, ap, ◌∙◌}
use mathlib.Core.List.{List, [], ◌∷◌, ◌++◌, append_assoc}
use mathlib.Core.Bool.{Bool, true, false, cond}
use native.Mathlib.Omega.{arith}
use native.Mathlib.Numerals.{add-one}
use native.Mathlib.Nat.{le_trans, le-max_left, le-max_right}
use lib.Dec.{eqb}
use lib.ListN.{length, length-append}
use lib.Seq.{take-append_seam, drop-append_seam}
use borrow.Author.Tests.{lt-ltb, le-leb}
use Rattle.aldlf.specs.Constants.{node_limit, automaton_limit, state_limit, edge_limit, letter_t, letter_p, letter_n, letter_a, letter_o, letter_d, letter_b}
use Rattle.aldlf.specs.declared.Edge.{Edge}
use Rattle.aldlf.specs.declared.Table.{Table}
use Rattle.formula.specs.Formula.{Formula, always, fact, neg, both, either, some, every, Path, step, seq, alt, many}
use Rattle.formula.specs.Numbering as num
use Rattle.formula.specs.Numbering.{within, states, own, entry, exit, dir_number, edge_of, link, edges, with_letter, newest, with_path, made, made_in}
use Rattle.formula.specs.Outcome.{widest, widest_in}
use Rattle.formula.specs.Counts.{automaton_count, automaton_count_in, edge_count, edge_count_in}
use Rattle.formula.proofs.Counts.{Adds, made_adds, in_adds}
use Rattle.formula.proofs.Graph.{exit_in, own_length}
use Rattle.making.specs.declared.stack.Kept.{Kept}
use Rattle.making.specs.Work.{Outline, Made, live, grown, newest_of, automaton_of, under, part_of, frame_of, begun, linked, ended, between, four_linked, step_drawn, seq_drawn, alt_drawn, star_drawn, room_for, with_outline, emitted}
use Rattle.making.specs.Build.{build, build_in}

-- a path in hand by its parts, and the ends of a path
abbrev pub sketch : (base b : ℕ) → List Edge → (x y : ℕ) → Outline
sketch base b es x y = record { states = b; base = base; links = es; entry = x; exit = y }

abbrev pub ends : ℕ → Path → Kept
ends b p = record { a = entry b p; b = exit b p; c = 0; d = 0 }

pub own_some : (p : Path) → 1 ≤ own p
own_some (step d a) = omega arith
own_some (seq p q) = omega arith
own_some (alt p q) = omega arith
own_some (many p) = omega arith

-- room for so many nodes, automata and edges more beside k open links, and no automaton too wide
pub record Fits (n m e w : ℕ) (t : Table) (k : ℕ) : Type 0 where
  pub nodes : t.used.nodes + n ≤ node_limit
  pub automata : t.used.automata + m ≤ automaton_limit
  pub edges : t.used.edges + k + e ≤ edge_limit
  pub wide : w ≤ state_limit

abbrev pub FitsF : Formula → Table → ℕ → Type 0
FitsF a t k = Fits (suc (num.under a)) (automaton_count a) (edge_count a) (widest a) t k

abbrev pub FitsP : Path → Table → ℕ → Type 0
FitsP p t k = Fits (within p) (automaton_count_in p) (edge_count_in p + own p) (widest_in p) t k

abbrev pub FitsM : Path → Formula → Table → ℕ → Type 0
FitsM p a t k = Fits (suc (within p + suc (num.under a))) (suc (automaton_count_in p) + automaton_count a) (edge_count_in p + own p + edge_count a) (max (max (states p) (widest_in p)) (widest a)) t k

-- ONE STEP WHERE IT IS LIVE
module _ (w : Made) (t : Table) (o : Outline) (e : w ≡ live t o) where
  pub grown-live : (l x y : ℕ) → t.used.nodes < node_limit → grown l x y w ≡ live (with_letter t l x y) o
  unfolding grown
  grown-live l x y h = rw (e, lt-ltb t.used.nodes node_limit h)

  pub newest_is : newest_of w ≡ newest t
  unfolding newest_of
  newest_is = ap newest_of e

  pub automaton_is : automaton_of w ≡ t.used.automata - 1
  unfolding automaton_of
  automaton_is = ap automaton_of e

  pub part_is : part_of w ≡ record { a = o.entry; b = o.exit; c = 0; d = 0 }
  unfolding part_of
  part_is = ap part_of e

  pub frame_is : frame_of w ≡ record { a = o.entry; b = o.exit; c = o.states; d = o.base }
  unfolding frame_of
  frame_is = ap frame_of e

  pub under_live : (l k : ℕ) → eqb l letter_n ≡ false → t.used.nodes < node_limit → under l k w ≡ live (with_letter t l k (newest t)) o
  unfolding under
  under_live l k n h = ap (λ (y : Bool). cond y (grown l (newest_of w) 0 w) (grown l k (newest_of w) w)) n ∙ ap (λ (z : ℕ). grown l k z w) newest_is ∙ grown-live l k (newest t) h

  pub under_n_live : (k : ℕ) → t.used.nodes < node_limit → under letter_n k w ≡ live (with_letter t letter_n (newest t) 0) o
  unfolding under
  under_n_live k h = ap (λ (z : ℕ). grown letter_n z 0 w) newest_is ∙ grown-live letter_n (newest t) 0 h

  pub begun-live : t.used.edges + length o.links < edge_limit → begun w ≡ live t (sketch (length o.links) 0 o.links 0 0)
  unfolding begun
  begun-live h = rw (e, lt-ltb (t.used.edges + length o.links) edge_limit h)

two_live : (l : ℕ) (u v : Made) (t₁ t₂ : Table) (o₁ o₂ : Outline) → u ≡ live t₁ o₁ → v ≡ live t₂ o₂ → t₂.used.nodes < node_limit → grown l (newest_of u) (newest_of v) v ≡ live (with_letter t₂ l (newest t₁) (newest t₂)) o₂
two_live l u v t₁ t₂ o₁ o₂ e f h =
    ap (λ (z : ℕ). grown l z (newest_of v) v) (newest_is u t₁ o₁ e) ∙ ap (λ (z : ℕ). grown l (newest t₁) z v) (newest_is v t₂ o₂ f) ∙ grown-live v t₂ o₂ f l (newest t₁) (newest t₂) h

-- links
module _ (t : Table) (base b x y : ℕ) where
  pub link_one : (e : Edge) (es : List Edge) → t.used.edges + length es < edge_limit → linked e (live t (sketch base b es x y)) ≡ live t (sketch base b (es ++ (e ∷ [])) x y)
  unfolding linked
  link_one e es h = rw (lt-ltb (t.used.edges + length es) edge_limit h)

  snoc_length : (es : List Edge) (e : Edge) → length (es ++ (e ∷ [])) ≡ length es + 1
  snoc_length es e = length-append es (e ∷ [])

  pub link_four : (e f g h : Edge) (es : List Edge) → t.used.edges + length es + 4 ≤ edge_limit → four_linked e f g h (live t (sketch base b es x y)) ≡ live t (sketch base b (es ++ (e ∷ f ∷ g ∷ h ∷ [])) x y)
  link_four e f g h es l =
      let es₁ = es ++ (e ∷ []) in
      let es₂ = es₁ ++ (f ∷ []) in
      let es₃ = es₂ ++ (g ∷ []) in
      let n₁ : length es₁ ≡ length es + 1 = snoc_length es e in
      let n₂ : length es₂ ≡ length es₁ + 1 = snoc_length es₁ f in
      let n₃ : length es₃ ≡ length es₂ + 1 = snoc_length es₂ g in
      ap (λ (w : Made). linked h (linked g (linked f w))) (link_one e es (omega arith))
      ∙ ap (λ (w : Made). linked h (linked g w)) (link_one f es₁ (omega arith))
      ∙ ap (λ (w : Made). linked h w) (link_one g es₂ (omega arith))
      ∙ link_one h es₃ (omega arith)
      ∙ ap (λ (l : List Edge). live t (sketch base b l x y))
      (append_assoc es₂ (g ∷ []) (h ∷ []) ∙ append_assoc es₁ (f ∷ []) (g ∷ h ∷ []) ∙ append_assoc es (e ∷ []) (f ∷ g ∷ h ∷ []))

  pub ended-live : (s a z : ℕ) (es : List Edge) → ended s a z (live t (sketch base b es x y)) ≡ live t (sketch base s es a z)
  unfolding ended
  ended-live s a z es = refl

module _ (w : Made) (t : Table) (base b : ℕ) (es : List Edge) (x y : ℕ) (e : w ≡ live t (sketch base b es x y)) where
  pub step_live : (d : ℕ) → b < 15 → t.used.edges + length es < edge_limit → step_drawn d w ≡ live t (sketch base (b + 2) (es ++ (edge_of b d (newest t) (b + 1) ∷ [])) b (b + 1))
  unfolding step_drawn
  step_live d h l =
      let g = edge_of b d (newest t) (b + 1) in
      rw (e, lt-ltb b 15 h) (ap (between b) (link_one t base b x y g es l) ∙ ended-live t base b x y (b + 2) b (b + 1) (es ++ (g ∷ [])))

  pub seq_live : (k : Kept) → t.used.edges + length es < edge_limit → seq_drawn k w ≡ live t (sketch base b (es ++ (link k.b x ∷ [])) k.a y)
  unfolding seq_drawn
  seq_live k l =
      let g = link k.b x in
      rw e (ap (ended b k.a y) (link_one t base b x y g es l) ∙ ended-live t base b x y b k.a y (es ++ (g ∷ [])))

  pub alt_live : (k : Kept) → b < 15 → t.used.edges + length es + 4 ≤ edge_limit
      → alt_drawn k w ≡ live t (sketch base (b + 2) (es ++ (link b k.a ∷ link b x ∷ link k.b (b + 1) ∷ link y (b + 1) ∷ [])) b (b + 1))
  unfolding alt_drawn
  alt_live k h l =
      let es' = es ++ (link b k.a ∷ link b x ∷ link k.b (b + 1) ∷ link y (b + 1) ∷ []) in
      rw (e, lt-ltb b 15 h)
      (ap (between b) (link_four t base b x y (link b k.a) (link b x) (link k.b (b + 1)) (link y (b + 1)) es l) ∙ ended-live t base b x y (b + 2) b (b + 1) es')

  pub star_live : b < 15 → t.used.edges + length es + 4 ≤ edge_limit → star_drawn w ≡ live t (sketch base (b + 2) (es ++ (link b x ∷ link y x ∷ link y (b + 1) ∷ link b (b + 1) ∷ [])) b (b + 1))
  unfolding star_drawn
  star_live h l =
      let es' = es ++ (link b x ∷ link y x ∷ link y (b + 1) ∷ link b (b + 1) ∷ []) in
      rw (e, lt-ltb b 15 h)
      (ap (between b) (link_four t base b x y (link b x) (link y x) (link y (b + 1)) (link b (b + 1)) es l) ∙ ended-live t base b x y (b + 2) b (b + 1) es')

-- THE END OF A PATH
pub outline_path : (t : Table) (k : ℕ) (p : Path) (es : List Edge) → with_outline (sketch (length es) (0 + states p) (es ++ edges k 0 p) (entry 0 p) (exit 0 p)) t ≡ with_path t k p
unfolding with_outline
outline_path t k p es = let z : 0 + states p ≡ states p = omega arith in rw (drop-append_seam es (edges k 0 p), own_length p k 0, z)

module _ (t : Table) (o : Outline) (p : Path) (k : ℕ) (room : t.used.automata < automaton_limit) (few : states p ≤ state_limit) where
  room_yes : room_for (sketch (length o.links) (0 + states p) (o.links ++ edges k 0 p) (entry 0 p) (exit 0 p)) t ≡ true
  unfolding room_for
  room_yes =
      let x = exit_in p 0 in
      let n = length-append o.links (edges k 0 p) in
      rw (lt-ltb t.used.automata automaton_limit room, lt-ltb (exit 0 p) state_limit (omega arith), le-leb (length o.links) (length (o.links ++ edges k 0 p)) (omega arith))

  pub emit_live : (f : Kept) (v : Made) → f ≡ record { a = o.entry; b = o.exit; c = o.states; d = o.base }
      → v ≡ live t (sketch (length o.links) (0 + states p) (o.links ++ edges k 0 p) (entry 0 p) (exit 0 p)) → emitted f v ≡ live (with_path t k p) o
  unfolding emitted
  emit_live f v g e = rw (e, room_yes, g, take-append_seam o.links (edges k 0 p), outline_path t k p o.links)

-- THE ROOMS OF THE PARTS
left_fits : (a b : Formula) {t : Table} {k : ℕ} → FitsF (both a b) t k → FitsF a t k
left_fits a b f =
    record { nodes = omega (arith, f.nodes); automata = omega (arith, f.automata); edges = omega (arith, f.edges); wide = le_trans (le-max_left (widest a) (widest b)) f.wide }

right_fits : (a b : Formula) {t u : Table} {k : ℕ} → FitsF (both a b) t k → Adds (suc (num.under a)) (automaton_count a) (edge_count a) t u → FitsF b u k
right_fits a b f c =
    record { nodes = omega (arith, f.nodes, c.nodes); automata = omega (arith, f.automata, c.automata); edges = omega (arith, f.edges, c.edges); wide = le_trans (le-max_right (widest a) (widest b)) f.wide }

-- the two sides of `;` and `+`, which add j links
first_fits : (p q : Path) (j : ℕ) {t : Table} {k : ℕ} → Fits (within p + within q) (automaton_count_in p + automaton_count_in q) (edge_count_in p + edge_count_in q + (own p + (own q + j))) (max (widest_in p) (widest_in q)) t k → FitsP p t k
first_fits p q j f =
    record { nodes = omega (arith, f.nodes); automata = omega (arith, f.automata); edges = omega (arith, f.edges); wide = le_trans (le-max_left (widest_in p) (widest_in q)) f.wide }

second_fits : (p q : Path) (j : ℕ) {t u : Table} {k : ℕ} (l : ℕ) → Fits (within p + within q) (automaton_count_in p + automaton_count_in q) (edge_count_in p + edge_count_in q + (own p + (own q + j))) (max (widest_in p) (widest_in q)) t k
    → Adds (within p) (automaton_count_in p) (edge_count_in p) t u → l ≡ k + own p → FitsP q u l
second_fits p q j l f c z =
    record { nodes = omega (arith, f.nodes, c.nodes); automata = omega (arith, f.automata, c.automata); edges = omega (arith, f.edges, c.edges); wide = le_trans (le-max_right (widest_in p) (widest_in q)) f.wide }

path_fits : (p : Path) (a : Formula) (t : Table) (k : ℕ) → FitsM p a t k → FitsP p t k
path_fits p a t k f =
    record {
      nodes = omega (arith, f.nodes);
      automata = omega (arith, f.automata);
      edges = omega (arith, f.edges);
      wide = le_trans (le-max_right (states p) (widest_in p)) (le_trans (le-max_left (max (states p) (widest_in p)) (widest a)) f.wide);
    }

path_wide : (p : Path) (a : Formula) (t : Table) (k : ℕ) → FitsM p a t k → states p ≤ state_limit
path_wide p a t k f = le_trans (le-max_left (states p) (widest_in p)) (le_trans (le-max_left (max (states p) (widest_in p)) (widest a)) f.wide)

behind_fits : (p : Path) (a : Formula) (t : Table) (k : ℕ) → FitsM p a t k → FitsF a (with_path (made_in p t) t.used.nodes p) k
behind_fits p a t k f =
    let c = in_adds p t in
    record {
      nodes = omega (arith, f.nodes, c.nodes);
      automata = omega (arith, f.automata, c.automata);
      edges = omega (arith, f.edges, c.edges);
      wide = le_trans (le-max_right (max (states p) (widest_in p)) (widest a)) f.wide;
    }

-- a path mark that is live: its path, its formula, its node
mode_live : (l : ℕ) → eqb l letter_n ≡ false → (p : Path) (a : Formula) (w v x : Made) (t : Table) (o : Outline) → w ≡ live t o → FitsM p a t (length o.links)
    → v ≡ live (made_in p t) (sketch (length o.links) (0 + states p) (o.links ++ edges t.used.nodes 0 p) (entry 0 p) (exit 0 p))
    → (emitted (frame_of w) v ≡ live (with_path (made_in p t) t.used.nodes p) o → FitsF a (with_path (made_in p t) t.used.nodes p) (length o.links) → x ≡ live (made a (with_path (made_in p t) t.used.nodes p)) o)
    → under l (automaton_of (emitted (frame_of w) v)) x
    ≡ live (with_letter (made a (with_path (made_in p t) t.used.nodes p)) l (made_in p t).used.automata (newest (made a (with_path (made_in p t) t.used.nodes p)))) o
mode_live l n p a w v x t o e f ev rec =
    let c = in_adds p t in
    let U = with_path (made_in p t) t.used.nodes p in
    let u : emitted (frame_of w) v ≡ live U o =
    emit_live (made_in p t) o p t.used.nodes (omega (arith, f.automata, c.automata)) (path_wide p a t (length o.links) f) (frame_of w) v (frame_is w t o e) ev in
    let y = rec u (behind_fits p a t (length o.links) f) in
    let d = made_adds a U in
    let m : automaton_of (emitted (frame_of w) v) ≡ (made_in p t).used.automata = automaton_is (emitted (frame_of w) v) U o u ∙ (let h : (made_in p t).used.automata + 1 - 1 ≡ (made_in p t).used.automata = omega arith in h) in
    ap (λ (z : ℕ). under l z x) m ∙ under_live x (made a U) o y l (made_in p t).used.automata n (omega (arith, d.nodes, c.nodes, f.nodes))

pub chain_length : (es : List Edge) (k b : ℕ) (p : Path) → length (es ++ edges k b p) ≡ length es + own p
chain_length es k b p = length-append es (edges k b p) ∙ ap (λ (z : ℕ). length es + z) (own_length p k b)

-- a step, `;`, `+` and `*` in the terms of the numbering
step_numbers : (t u : Table) (base b d n : ℕ) (es : List Edge) → u.used.nodes ≡ t.used.nodes + suc n
    → live u (sketch base (b + 2) (es ++ (edge_of b d (newest u) (b + 1) ∷ [])) b (b + 1)) ≡ live u (sketch base (b + 2) (es ++ (edge_of b d (t.used.nodes + n) (suc b) ∷ [])) b (suc b))
step_numbers t u base b d n es e =
    let k : newest u ≡ t.used.nodes + n = omega arith in
    ap (λ (z : ℕ). live u (sketch base (b + 2) (es ++ (edge_of b d z (b + 1) ∷ [])) b (b + 1))) k
    ∙ ap (λ (z : ℕ). live u (sketch base (b + 2) (es ++ (edge_of b d (t.used.nodes + n) z ∷ [])) b z)) (add-one b)

seq_numbers : (u : Table) (base k k' b : ℕ) (p q : Path) (es : List Edge) → k' ≡ k + within p
    → live u (sketch base (b + states p + states q) (((es ++ edges k b p) ++ edges k' (b + states p) q) ++ (link (exit b p) (entry (b + states p) q) ∷ [])) (entry b p) (exit (b + states p) q))
    ≡ live u (sketch base (b + (states p + states q)) (es ++ edges k b (seq p q)) (entry b (seq p q)) (exit b (seq p q)))
seq_numbers u base k k' b p q es e =
    let L = link (exit b p) (entry (b + states p) q) ∷ [] in
    let x = entry b p in
    let y = exit (b + states p) q in
    ap (λ (z : ℕ). live u (sketch base (b + states p + states q) (((es ++ edges k b p) ++ edges z (b + states p) q) ++ L) x y)) e
    ∙ ap (λ (z : ℕ). live u (sketch base z (((es ++ edges k b p) ++ edges (k + within p) (b + states p) q) ++ L) x y)) (let h : b + states p + states q ≡ b + (states p + states q) = omega arith in h)
    ∙ ap (λ (z : List Edge). live u (sketch base (b + (states p + states q)) z x y))
    (append_assoc (es ++ edges k b p) (edges (k + within p) (b + states p) q) L ∙ append_assoc es (edges k b p) (edges (k + within p) (b + states p) q ++ L))

alt_numbers : (u : Table) (base k k' b : ℕ) (p q : Path) (es : List Edge) → k' ≡ k + within p
    → live u (sketch base (b + states p + states q + 2)
    (((es ++ edges k b p) ++ edges k' (b + states p) q)
    ++ (link (b + states p + states q) (entry b p) ∷ link (b + states p + states q) (entry (b + states p) q) ∷ link (exit b p) (b + states p + states q + 1) ∷ link (exit (b + states p) q) (b + states p + states q + 1) ∷ []))
    (b + states p + states q) (b + states p + states q + 1))
    ≡ live u (sketch base (b + suc (suc (states p + states q))) (es ++ edges k b (alt p q)) (entry b (alt p q)) (exit b (alt p q)))
alt_numbers u base k k' b p q es e =
    let L : ℕ → ℕ → List Edge = λ s f. link s (entry b p) ∷ link s (entry (b + states p) q) ∷ link (exit b p) f ∷ link (exit (b + states p) q) f ∷ [] in
    let S = b + (states p + states q) in
    let R = b + states p + states q in
    let h : R ≡ S = omega arith in
    ap (λ (z : ℕ). live u (sketch base (R + 2) (((es ++ edges k b p) ++ edges z (b + states p) q) ++ L R (R + 1)) R (R + 1))) e
    ∙ ap (λ (z : ℕ). live u (sketch base (z + 2) (((es ++ edges k b p) ++ edges (k + within p) (b + states p) q) ++ L z (z + 1)) z (z + 1))) h
    ∙ ap (λ (z : ℕ). live u (sketch base (S + 2) (((es ++ edges k b p) ++ edges (k + within p) (b + states p) q) ++ L S z) S z)) (add-one S)
    ∙ ap (λ (z : ℕ). live u (sketch base z (((es ++ edges k b p) ++ edges (k + within p) (b + states p) q) ++ L S (suc S)) S (suc S))) (let g : S + 2 ≡ b + suc (suc (states p + states q)) = omega arith in g)
    ∙ ap (λ (z : List Edge). live u (sketch base (b + suc (suc (states p + states q))) z S (suc S)))
    (append_assoc (es ++ edges k b p) (edges (k + within p) (b + states p) q) (L S (suc S)) ∙ append_assoc es (edges k b p) (edges (k + within p) (b + states p) q ++ L S (suc S)))

star_numbers : (u : Table) (base k b : ℕ) (p : Path) (es : List Edge)
    → live u (sketch base (b + states p + 2)
    ((es ++ edges k b p) ++ (link (b + states p) (entry b p) ∷ link (exit b p) (entry b p) ∷ link (exit b p) (b + states p + 1) ∷ link (b + states p) (b + states p + 1) ∷ []))
    (b + states p) (b + states p + 1))
    ≡ live u (sketch base (b + suc (suc (states p))) (es ++ edges k b (many p)) (entry b (many p)) (exit b (many p)))
star_numbers u base k b p es =
    let S = b + states p in
    let L : ℕ → List Edge = λ f. link S (entry b p) ∷ link (exit b p) (entry b p) ∷ link (exit b p) f ∷ link S f ∷ [] in
    ap (λ (z : ℕ). live u (sketch base (S + 2) ((es ++ edges k b p) ++ L z) S z)) (add-one S)
    ∙ ap (λ (z : ℕ). live u (sketch base z ((es ++ edges k b p) ++ L (suc S)) S (suc S))) (let g : S + 2 ≡ b + suc (suc (states p)) = omega arith in g)
    ∙ ap (λ (z : List Edge). live u (sketch base (b + suc (suc (states p))) z S (suc S))) (append_assoc es (edges k b p) (L (suc S)))

mutual
  unfolding build made

  -- A FORMULA THAT FITS makes its table
  pub yes : (a : Formula) (w : Made) (t : Table) (o : Outline) → w ≡ live t o → FitsF a t (length o.links) → build a w ≡ live (made a t) o
  yes always w t o e f = grown-live w t o e letter_t 0 0 (omega (arith, f.nodes))
  yes (fact x) w t o e f = grown-live w t o e letter_p x 0 (omega (arith, f.nodes))
  yes (neg a) w t o e f =
      let c = made_adds a t in
      under_n_live (build a w) (made a t) o (yes a w t o e (record { nodes = omega (arith, f.nodes); automata = f.automata; edges = f.edges; wide = f.wide })) 0 (omega (arith, f.nodes, c.nodes))
  yes (both a b) w t o e f =
      let c = made_adds a t in
      let d = made_adds b (made a t) in
      let u = yes a w t o e (left_fits a b f) in
      let v = yes b (build a w) (made a t) o u (right_fits a b f c) in
      two_live letter_a (build a w) (build b (build a w)) (made a t) (made b (made a t)) o o u v (omega (arith, f.nodes, c.nodes, d.nodes))
  yes (either a b) w t o e f =
      let c = made_adds a t in
      let d = made_adds b (made a t) in
      let u = yes a w t o e (left_fits a b f) in
      let v = yes b (build a w) (made a t) o u (right_fits a b f c) in
      two_live letter_o (build a w) (build b (build a w)) (made a t) (made b (made a t)) o o u v (omega (arith, f.nodes, c.nodes, d.nodes))
  yes (some p a) w t o e f =
      let i = own_some p in
      let g = emitted (frame_of w) (build_in p (begun w)) in
      mode_live letter_d refl p a w (build_in p (begun w)) (build a g) t o e f
      (yes_in p (begun w) t (length o.links) 0 o.links 0 0 (begun-live w t o e (omega (arith, f.edges))) (path_fits p a t (length o.links) f) (let h = path_wide p a t (length o.links) f in omega arith))
      (λ u h. yes a g (with_path (made_in p t) t.used.nodes p) o u h)
  yes (every p a) w t o e f =
      let i = own_some p in
      let g = emitted (frame_of w) (build_in p (begun w)) in
      mode_live letter_b refl p a w (build_in p (begun w)) (build a g) t o e f
      (yes_in p (begun w) t (length o.links) 0 o.links 0 0 (begun-live w t o e (omega (arith, f.edges))) (path_fits p a t (length o.links) f) (let h = path_wide p a t (length o.links) f in omega arith))
      (λ u h. yes a g (with_path (made_in p t) t.used.nodes p) o u h)

  -- A PATH THAT FITS draws its edges behind the open links
  pub yes_in : (p : Path) (w : Made) (t : Table) (base b : ℕ) (es : List Edge) (x y : ℕ) → w ≡ live t (sketch base b es x y) → FitsP p t (length es) → b + states p ≤ state_limit
      → build_in p w ≡ live (made_in p t) (sketch base (b + states p) (es ++ edges t.used.nodes b p) (entry b p) (exit b p))
  yes_in (step d a) w t base b es x y e f h =
      let c = made_adds a t in
      let g : FitsF a t (length es) = record { nodes = f.nodes; automata = f.automata; edges = omega (arith, f.edges); wide = f.wide } in
      step_live (build a w) (made a t) base b es x y (yes a w t (sketch base b es x y) e g) (dir_number d) (omega arith) (omega (arith, f.edges, c.edges))
      ∙ step_numbers t (made a t) base b (dir_number d) (num.under a) es c.nodes
  yes_in (seq p q) w t base b es x y e f h =
      let c = in_adds p t in
      let c₂ = in_adds q (made_in p t) in
      let E₁ = edges t.used.nodes b p in
      let es₁ = es ++ E₁ in
      let n₁ = chain_length es t.used.nodes b p in
      let E₂ = edges (made_in p t).used.nodes (b + states p) q in
      let n₂ = chain_length es₁ (made_in p t).used.nodes (b + states p) q in
      let u = yes_in p w t base b es x y e (first_fits p q 1 f) (omega arith) in
      let v = yes_in q (build_in p w) (made_in p t) base (b + states p) es₁ (entry b p) (exit b p) u (second_fits p q 1 (length es₁) f c n₁) (omega arith) in
      ap (λ (k : Kept). seq_drawn k (build_in q (build_in p w))) (part_is (build_in p w) (made_in p t) (sketch base (b + states p) es₁ (entry b p) (exit b p)) u)
      ∙ seq_live (build_in q (build_in p w)) (made_in q (made_in p t)) base (b + states p + states q) (es₁ ++ E₂) (entry (b + states p) q) (exit (b + states p) q) v (ends b p) (omega (arith, f.edges, c.edges, c₂.edges))
      ∙ seq_numbers (made_in q (made_in p t)) base t.used.nodes (made_in p t).used.nodes b p q es c.nodes
  yes_in (alt p q) w t base b es x y e f h =
      let c = in_adds p t in
      let c₂ = in_adds q (made_in p t) in
      let E₁ = edges t.used.nodes b p in
      let es₁ = es ++ E₁ in
      let n₁ = chain_length es t.used.nodes b p in
      let E₂ = edges (made_in p t).used.nodes (b + states p) q in
      let n₂ = chain_length es₁ (made_in p t).used.nodes (b + states p) q in
      let u = yes_in p w t base b es x y e (first_fits p q 4 f) (omega arith) in
      let v = yes_in q (build_in p w) (made_in p t) base (b + states p) es₁ (entry b p) (exit b p) u (second_fits p q 4 (length es₁) f c n₁) (omega arith) in
      ap (λ (k : Kept). alt_drawn k (build_in q (build_in p w))) (part_is (build_in p w) (made_in p t) (sketch base (b + states p) es₁ (entry b p) (exit b p)) u)
      ∙ alt_live (build_in q (build_in p w)) (made_in q (made_in p t)) base (b + states p + states q) (es₁ ++ E₂) (entry (b + states p) q) (exit (b + states p) q) v (ends b p) (omega arith) (omega (arith, f.edges, c.edges, c₂.edges))
      ∙ alt_numbers (made_in q (made_in p t)) base t.used.nodes (made_in p t).used.nodes b p q es c.nodes
  yes_in (many p) w t base b es x y e f h =
      let c = in_adds p t in
      let n₁ = chain_length es t.used.nodes b p in
      let g : FitsP p t (length es) = record { nodes = f.nodes; automata = f.automata; edges = omega (arith, f.edges); wide = f.wide } in
      let u = yes_in p w t base b es x y e g (omega arith) in
      star_live (build_in p w) (made_in p t) base (b + states p) (es ++ edges t.used.nodes b p) (entry b p) (exit b p) u (omega arith) (omega (arith, f.edges, c.edges))
      ∙ star_numbers (made_in p t) base t.used.nodes b p es
