-- Breadth first search over a graph: what holds of the distances and the queue on the way, and that a turn keeps it.
use mathlib.Core.Path.{◌≡◌, ap, sym, ◌∙◌, subst}
use mathlib.Core.List.{List, [], ◌∷◌}
use mathlib.Core.Logic.{⊎_elim}
use Prim.Native.Nat.{ℕ, suc, ◌+◌, ◌≤◌, ◌<◌}
use native.Mathlib.Numerals.{add-one}
use native.Mathlib.Omega.{arith}
use lib.ListN.{length, set, length-set}
use lib.Seq.{get_or-set_same, get_or-set_other}
use Rattle.aldlf.proofs.Bools.{lt-or-le}
use Rattle.graph.specs.Graph.{Graph, Step, Walk, far, at}
use Rattle.graph.proofs.Cases.{split, same?}
use Rattle.shortest.specs.Progress.{Progress}
use Rattle.shortest.specs.Descent.{Distances}
use Rattle.shortest.proofs.Marked.{marked-le, marked-lt, marked_set}

module _ (G : Graph) (goal : ℕ → Type 0) (D Q : List ℕ) (h t : ℕ) where
  pub tail_le : (k : ℕ) → Progress G goal D Q h k t → t ≤ G.size
  tail_le k s = let m = marked-le D in omega (arith, s.counted, s.whole)

  -- the queue's next place is begun
  pub next : Progress G goal D Q h G.last t → h < t → Progress G goal D Q (h + 1) G.first t
  next s l =
      record {
        whole = s.whole;
        room = s.room;
        fits = s.fits;
        head = omega arith;
        counted = s.counted;
        placed = s.placed;
        short = s.short;
        queued = s.queued;
        rising = s.rising;
        near = λ l2 i li. let a = s.near l i li in let b = s.rising h (h + 1) (omega arith) l2 in omega arith;
        walked = s.walked;
        goals = s.goals;
        closed =
            λ i e p li st.
            ⊎_elim (λ q. rw q (s.partly l e p st.below_last (rw q at st))) (λ lt. s.closed i e p lt st) (split i h li);
        partly = λ l2 e p el st. absurd (let f = st.from_first in omega arith);
        ranged = s.ranged;
      }

  -- the edges below k2 are closed
  closed_to :
      (k k2 : ℕ) → Progress G goal D Q h k t → (h < t → (e p : ℕ) → e < k2 → Step G p e (at Q h) → at D p ≤ at D (at Q h) + 1) → Progress G goal D Q h k2 t
  closed_to k k2 s here =
      record {
        whole = s.whole;
        room = s.room;
        fits = s.fits;
        head = s.head;
        counted = s.counted;
        placed = s.placed;
        short = s.short;
        queued = s.queued;
        rising = s.rising;
        near = s.near;
        walked = s.walked;
        goals = s.goals;
        closed = s.closed;
        partly = here;
        ranged = s.ranged;
      }

  -- the edges below k + 1 are closed where those below k are and k is
  again :
      (k : ℕ) → Progress G goal D Q h k t → ((p : ℕ) → h < t → Step G p k (at Q h) → at D p ≤ at D (at Q h) + 1) → Progress G goal D Q h (k + 1) t
  again k s here = closed_to k (k + 1) s (λ l e p el st. ⊎_elim (λ q. here p l (rw q at st)) (λ lt. s.partly l e p lt st) (split e k el))

  -- an edge that leads nowhere
  pub skip : (k : ℕ) → Progress G goal D Q h k t → G.size ≤ G.pre k (at Q h) → Progress G goal D Q h (k + 1) t
  skip k s out = again k s (λ p l st. absurd (let a = st.source in let b = st.source_in in omega arith))

  -- edges that do not lead to the queue's place
  pub skip_to : (k k2 : ℕ) → Progress G goal D Q h k t → ((e p : ℕ) → k ≤ e → e < k2 → Step G p e (at Q h) → ⊥) → Progress G goal D Q h k2 t
  skip_to k k2 s none = closed_to k k2 s (λ l e p el st. ⊎_elim (λ lt. s.partly l e p lt st) (λ le. absurd (none e p le el st)) (lt-or-le e k))

  -- a configuration that is marked is at most one further than the queue's head
  pub near_all : (k c : ℕ) → Progress G goal D Q h k t → h < t → c < G.size → (at D c ≡ far → ⊥) → at D c ≤ at D (at Q h) + 1
  near_all k c s l cin ne =
      let r = s.ranged c cin in
      let q = s.queued c cin (omega arith) in
      rw q.2 at (s.near l q.0 q.1)

  -- an edge from a configuration that is marked
  pub seen : (k : ℕ) → Progress G goal D Q h k t → (at D (G.pre k (at Q h)) ≡ far → ⊥) → Progress G goal D Q h (k + 1) t
  seen k s ne = again k s (λ p l st. near_all k p s l st.source_in (rw st.source at ne))

-- what stands one further than the queue's place h
abbrev beyond : List ℕ → List ℕ → ℕ → ℕ
beyond D Q h = at D (at Q h) + 1

module _
    (G : Graph)
    (goal : ℕ → Type 0)
    (D Q : List ℕ)
    (h t k p : ℕ)
    (s : Progress G goal D Q h k t)
    (l : h < t)
    (st : Step G p k (at Q h))
    (un : at D p ≡ far) where
  pub room_left : t < G.size
  room_left = let m = marked-lt D p (omega (arith, s.whole, st.source_in)) un in omega (arith, s.counted, s.whole)

  near_head : beyond D Q h ≤ h + 1
  near_head = let a = s.short h l in omega arith

  not-far : beyond D Q h ≡ far → ⊥
  not-far e = let a = near_head in let b = room_left in let c = s.fits in omega arith

  pub q_old : (i : ℕ) → i < t → at (set Q t p) i ≡ at Q i
  q_old i li = get_or-set_other Q t i p 0 (omega arith)

  q_new : at (set Q t p) t ≡ p
  q_new = get_or-set_same Q t p 0 (let a = room_left in let b = s.room in omega arith)

  d_old : (c : ℕ) → (c ≡ p → ⊥) → at (set D p (beyond D Q h)) c ≡ at D c
  d_old c ne = get_or-set_other D p c (beyond D Q h) 0 ne

  d_new : at (set D p (beyond D Q h)) p ≡ beyond D Q h
  d_new = get_or-set_same D p (beyond D Q h) 0 (let a = s.whole in let b = st.source_in in omega arith)

  apart : (i : ℕ) → i < t → at Q i ≡ p → ⊥
  apart i li e = let a : at D p ≤ i = rw e at (s.short i li) in let b = room_left in let c = s.fits in omega arith

  pub old : (i : ℕ) → i < t → at (set D p (beyond D Q h)) (at (set Q t p) i) ≡ at D (at Q i)
  old i li = rw (q_old i li) (d_old (at Q i) (apart i li))

  new : at (set D p (beyond D Q h)) (at (set Q t p) t) ≡ beyond D Q h
  new = rw q_new d_new

  q_at : (i : ℕ) → i ≡ t → at (set Q t p) i ≡ p
  q_at i e = ap (at (set Q t p)) e ∙ q_new

  d_at : (c : ℕ) → c ≡ p → at (set D p (beyond D Q h)) c ≡ beyond D Q h
  d_at c e = ap (at (set D p (beyond D Q h))) e ∙ d_new

  new_at : (i : ℕ) → i ≡ t → at (set D p (beyond D Q h)) (at (set Q t p) i) ≡ beyond D Q h
  new_at i e = d_at (at (set Q t p) i) (q_at i e)

  -- a closed edge stays closed: what it leads from is marked, so it is not p
  still : (x i : ℕ) → i < t → at D x ≤ at D (at Q i) + 1 → at (set D p (beyond D Q h)) x ≤ at (set D p (beyond D Q h)) (at (set Q t p) i) + 1
  still x i li c =
      let a = old i li in
      let b = s.short i li in
      let f = s.fits in
      let r = room_left in
      let o = d_old x (λ e. let z : at D x ≡ far = ap (at D) e ∙ un in omega arith) in
      omega arith

  pub push : Progress G goal (set D p (beyond D Q h)) (set Q t p) h (k + 1) (t + 1)
  push =
      record {
        whole = length-set D p (beyond D Q h) ∙ s.whole;
        room = rw length-set s.room;
        fits = s.fits;
        head = let a = s.head in omega arith;
        counted =
            marked_set D p (beyond D Q h) (let a = s.whole in let b = st.source_in in omega arith) un not-far ∙ (ap suc s.counted ∙ sym (add-one t));
        placed =
            λ i li.
            ⊎_elim (λ e. omega (arith, q_at i e, st.source_in)) (λ lt. omega (arith, q_old i lt, s.placed i lt)) (split i t li);
        short =
            λ i li.
            ⊎_elim (λ e. omega (arith, new_at i e, near_head)) (λ lt. omega (arith, old i lt, s.short i lt)) (split i t li);
        queued =
            λ c cin m.
            ⊎_elim (λ e. (t, omega arith, q_new ∙ sym e))
            (λ ne.
            let q = s.queued c cin (omega (arith, d_old c ne)) in
            (q.0, let a = q.1 in omega arith, q_old q.0 q.1 ∙ q.2))
            (same? c p);
        rising =
            λ i j ij lj.
            ⊎_elim
            (λ e.
            ⊎_elim (λ e2. omega (arith, new_at j e, new_at i e2)) (λ lt. omega (arith, new_at j e, old i lt, s.near l i lt)) (split i t (omega arith)))
            (λ lt. omega (arith, old j lt, old i (omega arith), s.rising i j ij lt))
            (split j t lj);
        near =
            λ l2 i li.
            ⊎_elim (λ e. omega (arith, old h l, new_at i e)) (λ lt. omega (arith, old h l, old i lt, s.near l i lt)) (split i t li);
        walked =
            λ c cin m.
            ⊎_elim
            (λ e.
            let v = s.walked (at Q h) st.target_in (let a = s.short h l in let b = room_left in let f = s.fits in omega arith) in
            (k ∷ v.0, (at Q h, subst (λ (x : ℕ). Step G x k (at Q h)) (sym e) st, v.1), (ap suc v.2 ∙ sym (add-one (at D (at Q h)))) ∙ sym (d_at c e)))
            (λ ne. let v = s.walked c cin (omega (arith, d_old c ne)) in (v.0, v.1, v.2 ∙ sym (d_old c ne)))
            (same? c p);
        goals =
            λ c cin g.
            ⊎_elim (λ e. absurd (let a : at D c ≡ far = ap (at D) e ∙ un in omega (arith, s.goals c cin g)))
            (λ ne. d_old c ne ∙ s.goals c cin g)
            (same? c p);
        closed =
            λ i e x li y.
            let it : i < t = omega arith in
            still x i it (s.closed i e x li (subst (Step G x e) (q_old i it) y));
        partly =
            λ l2 e x el y0.
            let y : Step G x e (at Q h) = subst (Step G x e) (q_old h l) y0 in
            ⊎_elim
            (λ q.
            let xp : x ≡ p = sym y.source ∙ (ap (λ (j : ℕ). G.pre j (at Q h)) q ∙ st.source) in
            omega (arith, d_at x xp, old h l))
            (λ lt. still x h l (s.partly l e x lt y))
            (split e k el);
        ranged =
            λ c cin.
            ⊎_elim
            (λ e. let a = d_at c e in let b = near_head in let r = room_left in let f = s.fits in omega arith)
            (λ ne. omega (arith, d_old c ne, s.ranged c cin))
            (same? c p);
      }

module _ (G : Graph) (goal : ℕ → Type 0) (D Q : List ℕ) (t : ℕ) where
  -- once every place is closed, an edge brings at most one more
  along : (k c e x : ℕ) → Progress G goal D Q t k t → Step G c e x → at D c ≤ at D x + 1
  along k c e x s y =
      ⊎_elim
      (λ f. let r = s.ranged c y.source_in in omega arith)
      (λ ne.
      let r = s.ranged x y.target_in in
      let q = s.queued x y.target_in (omega arith) in
      let z = s.closed q.0 e c q.1 (subst (Step G c e) (sym q.2) y) in
      rw q.2 at z)
      (same? (at D x) far)

  least : (k : ℕ) → Progress G goal D Q t k t → (w : List ℕ) (c : ℕ) → c < G.size → Walk G goal w c → at D c ≤ length w
  least k s [] c cin g = rw (s.goals c cin g) (omega arith)
  least k s (e ∷ w) c cin v =
      let a : at D v.0 ≤ length w = least k s w v.0 v.1.target_in v.2 in
      omega (arith, along k c e v.0 s v.1)

  near_size : (k c : ℕ) → Progress G goal D Q t k t → c < G.size → at D c < far → at D c < G.size
  near_size k c s cin m =
      let q = s.queued c cin m in
      let a : at D c ≤ q.0 = subst (λ (x : ℕ). at D x ≤ q.0) q.2 (s.short q.0 q.1) in
      let b = tail_le G goal D Q t t k s in
      omega (arith, q.1)

  reached : (k : ℕ) → Progress G goal D Q t k t → (w : List ℕ) (c : ℕ) → c < G.size → Walk G goal w c → at D c < far
  reached k s [] c cin g = rw (s.goals c cin g) (omega arith)
  reached k s (e ∷ w) c cin v =
      let a : at D v.0 < far = reached k s w v.0 v.1.target_in v.2 in
      let b = near_size k v.0 s v.1.target_in a in
      omega (arith, along k c e v.0 s v.1, s.fits)

  -- every place is closed: D has every distance
  pub done : (k c : ℕ) → c < G.size → Progress G goal D Q t k t → Distances G goal D c
  done k c cin s =
      record { whole = s.whole; walked = s.walked; least = λ w p pin v l. least k s w p pin v; reached = λ w v. reached k s w c cin v }

-- c is reached: whatever is nearer has its distance, for its place in the queue is closed
module _ (G : Graph) (goal : ℕ → Type 0) (D Q : List ℕ) (h k t c : ℕ) (s : Progress G goal D Q h k t) (l : h < t) (cin : c < G.size) (m : at D c ≡ far → ⊥) where
  before_head : (x : ℕ) → x < G.size → at D x + 1 < at D c → (i : ℕ) × (i < h) × (at Q i ≡ x)
  before_head x xin near =
      let a = near_all G goal D Q h t k c s l cin m in
      let r = s.ranged c cin in
      let q = s.queued x xin (omega arith) in
      let b : at D (at Q q.0) ≡ at D x = ap (at D) q.2 in
      (q.0, ⊎_elim (λ lt. lt) (λ le. absurd (let z = s.rising h q.0 le q.1 in omega arith)) (lt-or-le q.0 h), q.2)

  nearer_least : (w : List ℕ) (p : ℕ) → p < G.size → Walk G goal w p → length w < at D c → at D p ≤ length w
  nearer_least [] p pin g n = rw (s.goals p pin g) (omega arith)
  nearer_least (e ∷ w) p pin v n =
      let a : at D v.0 ≤ length w = nearer_least w v.0 v.1.target_in v.2 (omega arith) in
      let i = before_head v.0 v.1.target_in (omega arith) in
      let z = s.closed i.0 e p i.1 (subst (Step G p e) (sym i.2) v.1) in
      let y : at D (at Q i.0) ≡ at D v.0 = ap (at D) i.2 in
      omega arith

  pub stopped : Distances G goal D c
  stopped = record { whole = s.whole; walked = s.walked; least = nearer_least; reached = λ w v. let r = s.ranged c cin in omega arith }
