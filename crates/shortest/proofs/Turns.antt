-- One edge of the search: what `relax` writes keeps the search.
use mathlib.Core.Path.{◌≡◌, refl, ap, sym, ◌∙◌, subst, subst₃}
use mathlib.Core.List.{List}
use mathlib.Core.Bool.{Bool, true, false, ◌&&◌, false≢true}
use mathlib.Core.Logic.{◌⊎◌, inl, inr, ⊎_elim}
use Prim.Native.Nat.{ℕ, ◌+◌, ◌≤◌, ◌<◌}
use native.Mathlib.Omega.{arith}
use borrow.Author.Tests.{le-ltb, lt-ltb, eq-eqb, ne_eqb, ltb-true, ltb-false, eqb-true, eqb-false}
use lib.Dec.{eqb, ltb}
use lib.ListN.{length, set, length-set}
use Rattle.graph.specs.Graph.{Graph, Step, far, at}
use Rattle.graph.specs.Configurations.{pick_nat}
use Rattle.shortest.specs.Progress.{Progress, Relaxed, fresh, zero_in, pick_list}
use Rattle.shortest.proofs.Marked.{marked-lt}
use Rattle.shortest.proofs.Progress.{skip, skip_to, seen, push, old, q_old}

pub fresh_out : (D : List ℕ) (p : ℕ) → length D ≤ p → fresh D p ≡ false
fresh_out D p l = rw (le-ltb p (length D) l)

pub fresh_in : (D : List ℕ) (p : ℕ) → p < length D → at D p ≡ far → fresh D p ≡ true
fresh_in D p l e = rw (lt-ltb p (length D) l) (eq-eqb (at D p) far e)

pub fresh_seen : (D : List ℕ) (p : ℕ) → p < length D → (at D p ≡ far → ⊥) → fresh D p ≡ false
fresh_seen D p l ne = rw (lt-ltb p (length D) l) (ne_eqb (at D p) far ne)

-- what the test says
fresh-true : (D : List ℕ) (p : ℕ) → fresh D p ≡ true → (p < length D) × (at D p ≡ far)
fresh-true D p f = go (ltb p (length D)) refl f
  where
    go : (b : Bool) → ltb p (length D) ≡ b → b && eqb (at D p) far ≡ true → (p < length D) × (at D p ≡ far)
    go true e g = (ltb-true p (length D) e, eqb-true (at D p) far g)
    go false e g = absurd (false≢true g)

fresh-false : (D : List ℕ) (p : ℕ) → fresh D p ≡ false → (length D ≤ p) ⊎ (at D p ≡ far → ⊥)
fresh-false D p f = go (ltb p (length D)) refl f
  where
    go : (b : Bool) → ltb p (length D) ≡ b → b && eqb (at D p) far ≡ false → (length D ≤ p) ⊎ (at D p ≡ far → ⊥)
    go true e g = inr (eqb-false (at D p) far g)
    go false e g = inl (ltb-false p (length D) e)

pub stay : (D Q : List ℕ) (p d t : ℕ) → fresh D p ≡ false → Relaxed D Q p d t D Q t
stay D Q p d t f = record { dist = rw f; queue = rw f; tail = rw f }

pub mark : (D Q : List ℕ) (p d t : ℕ) → fresh D p ≡ true → Relaxed D Q p d t (set D p d) (set Q t p) (t + 1)
mark D Q p d t f = record { dist = rw f; queue = rw f; tail = rw f }

-- from the search's state as it began the place h, to its state now
pub record Turn (G : Graph) (D₁ Q₁ : List ℕ) (h t₁ : ℕ) (D Q : List ℕ) (k t : ℕ) : Type 0 where
  pub long : length D ≡ length D₁
  pub wide : length Q ≡ length Q₁
  pub top : at Q h ≡ at Q₁ h
  pub deep : at D (at Q h) ≡ at D₁ (at Q₁ h)
  pub after : h < t
  pub search : (Z : List ℕ) → Progress G (zero_in Z) D₁ Q₁ h G.first t₁ → Progress G (zero_in Z) D Q h k t

pub turn_none : (G : Graph) (D Q : List ℕ) (h t : ℕ) → h < t → Turn G D Q h t D Q G.first t
turn_none G D Q h t l = record { long = refl; wide = refl; top = refl; deep = refl; after = l; search = λ Z s. s }

-- nothing is marked, and the search comes further
turn_by : (G : Graph) (D₁ Q₁ : List ℕ) (h t₁ : ℕ) (D Q : List ℕ) (k k2 t : ℕ) → Turn G D₁ Q₁ h t₁ D Q k t
    → ((Z : List ℕ) → Progress G (zero_in Z) D Q h k t → Progress G (zero_in Z) D Q h k2 t) → Turn G D₁ Q₁ h t₁ D Q k2 t
turn_by G D₁ Q₁ h t₁ D Q k k2 t u further =
    record { long = u.long; wide = u.wide; top = u.top; deep = u.deep; after = u.after; search = λ Z a. further Z (u.search Z a) }

-- edges that do not lead to the queue's place are passed over
pub turn_skip : (G : Graph) (D₁ Q₁ : List ℕ) (h t₁ : ℕ) (D Q : List ℕ) (k k2 t : ℕ) → Turn G D₁ Q₁ h t₁ D Q k t → ((e p : ℕ) → k ≤ e → e < k2 → Step G p e (at Q₁ h) → ⊥)
    → Turn G D₁ Q₁ h t₁ D Q k2 t
turn_skip G D₁ Q₁ h t₁ D Q k k2 t u none =
    turn_by G D₁ Q₁ h t₁ D Q k k2 t u (λ Z s. skip_to G (zero_in Z) D Q h t k k2 s (λ e p le lt st. none e p le lt (subst (Step G p e) u.top st)))

module _
    (G : Graph)
    (D₁ Q₁ : List ℕ)
    (h t₁ : ℕ)
    (D Q : List ℕ)
    (k t : ℕ)
    (Z : List ℕ)
    (s₁ : Progress G (zero_in Z) D₁ Q₁ h G.first t₁)
    (u : Turn G D₁ Q₁ h t₁ D Q k t)
    (k1 : G.first ≤ k)
    (k2 : k < G.last) where
  -- what `relax` asks
  pub turn_room : (p : ℕ) → p < length D → at D p ≡ far → (t < length Q) × (t < 8192)
  turn_room p l e =
      let s = u.search Z s₁ in
      let m = marked-lt D p l e in
      (omega (arith, s.counted, s.whole, s.room), omega (arith, s.counted, s.whole, s.fits))

  turn_stay : G.size ≤ G.pre k (at Q h) ⊎ (at D (G.pre k (at Q h)) ≡ far → ⊥) → Turn G D₁ Q₁ h t₁ D Q (k + 1) t
  turn_stay w =
      turn_by G D₁ Q₁ h t₁ D Q k (k + 1) t u
      (λ Z2 s. ⊎_elim (λ o. skip G (zero_in Z2) D Q h t k s o) (λ ne. seen G (zero_in Z2) D Q h t k s ne) w)

  turn_push :
      (p : ℕ) → G.pre k (at Q h) ≡ p → p < G.size → at D p ≡ far → Turn G D₁ Q₁ h t₁ (set D p (at D (at Q h) + 1)) (set Q t p) (k + 1) (t + 1)
  turn_push p src pin un =
      let s = u.search Z s₁ in
      let st : Step G p k (at Q h) =
      record { from_first = k1; below_last = k2; source = src; source_in = pin; target_in = s.placed h u.after }
      in
      record {
        long = length-set D p (at D (at Q h) + 1) ∙ u.long;
        wide = length-set Q t p ∙ u.wide;
        top = q_old G (zero_in Z) D Q h t k p s u.after st un h u.after ∙ u.top;
        deep = old G (zero_in Z) D Q h t k p s u.after st un h u.after ∙ u.deep;
        after = let a = u.after in omega arith;
        search = λ Z2 a. push G (zero_in Z2) D Q h t k p (u.search Z2 a) u.after st un;
      }

  pub turn_more :
      (p d : ℕ) (D2 Q2 : List ℕ) (t2 : ℕ) → p ≡ G.pre k (at Q₁ h) → d ≡ at D₁ (at Q₁ h) + 1 → Relaxed D Q p d t D2 Q2 t2 →
      Turn G D₁ Q₁ h t₁ D2 Q2 (k + 1) t2
  turn_more p d D2 Q2 t2 ep ed r = go (fresh D p) refl
    where
      src : G.pre k (at Q h) ≡ p
      src = ap (G.pre k) u.top ∙ sym ep

      whole : length D ≡ G.size
      whole = (u.search Z s₁).whole

      go : (b : Bool) → fresh D p ≡ b → Turn G D₁ Q₁ h t₁ D2 Q2 (k + 1) t2
      go true f =
          let i = fresh-true D p f in
          let de : d ≡ at D (at Q h) + 1 = ed ∙ ap (λ (x : ℕ). x + 1) (sym u.deep) in
          let e1 : set D p (at D (at Q h) + 1) ≡ D2 = sym (r.dist ∙ (ap (λ (b : Bool). pick_list b (set D p d) D) f ∙ ap (set D p) de)) in
          let e2 : set Q t p ≡ Q2 = sym (r.queue ∙ ap (λ (b : Bool). pick_list b (set Q t p) Q) f) in
          let e3 : t + 1 ≡ t2 = sym (r.tail ∙ ap (λ (b : Bool). pick_nat b (t + 1) t) f) in
          subst₃ (λ (x y : List ℕ) (z : ℕ). Turn G D₁ Q₁ h t₁ x y (k + 1) z) e1 e2 e3 (turn_push p src (omega (arith, i.0)) i.1)
      go false f =
          let e1 : D ≡ D2 = sym (r.dist ∙ ap (λ (b : Bool). pick_list b (set D p d) D) f) in
          let e2 : Q ≡ Q2 = sym (r.queue ∙ ap (λ (b : Bool). pick_list b (set Q t p) Q) f) in
          let e3 : t ≡ t2 = sym (r.tail ∙ ap (λ (b : Bool). pick_nat b (t + 1) t) f) in
          subst₃ (λ (x y : List ℕ) (z : ℕ). Turn G D₁ Q₁ h t₁ x y (k + 1) z) e1 e2 e3
          (turn_stay
          (⊎_elim (λ o. inl (omega (arith, src)))
          (λ ne. inr (subst (λ (x : ℕ). at D x ≡ far → ⊥) (sym src) ne))
          (fresh-false D p f)))
