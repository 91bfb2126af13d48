-- The columns of one entry: one edge more, several steps that stay joined to one, and what the whole of it is.
use Prim.Native.Nat.{ℕ, ◌+◌, ◌*◌, ◌^◌, ◌≤◌, ◌<◌}
use native.Mathlib.Omega.{arith}
use mathlib.Core.Path.{◌≡◌, refl, sym, subst, ap, ◌∙◌}
use mathlib.Core.Logic.{◌⊎◌, inl, inr}
use mathlib.Core.Bool.{Bool, true, false, true≢false}
use mathlib.Core.List.{List}
use lib.Bits.{bit_or, or_zero_r}
use lib.Dec.{eqb}
use lib.ListN.{length, set, length-set}
use lib.Seq.{get_or-set_same, get_or-set_other}
use borrow.Author.Tests.{eqb-true, eqb-false}
use Rattle.aldlf.specs.Constants.{state_limit}
use Rattle.aldlf.specs.Sheet.{bit}
use Rattle.aldlf.proofs.Bools.{bool_cases}
use Rattle.reach.specs.Marks.{at, pick, from_of, to_of, dir_in, test_of, EdgesFit}
use Rattle.reach.specs.Columns.{group_of, column_of, Step, Held, Apart, Back, Pivoted, Joined, Columns}
use Rattle.reach.proofs.Bits.{bit-zero, bit_one, one_self, in_left, in_right, in_either}

-- Places that keep their content ----------------------------------------------------------------------------------------------------

pub apart_none : (p q : ℕ) (C : List ℕ) → Apart p q C C
apart_none p q C = record { same = refl; left = λ x o. refl }

pub apart_set : (p q : ℕ) (C C2 : List ℕ) (x v : ℕ) → Apart p q C C2 → p ≤ x → x < q → Apart p q C (set C2 x v)
apart_set p q C C2 x v A l h = record { same = length-set C2 x v ∙ A.same; left = λ y o. get_or-set_other C2 x y v 0 (ne y o) ∙ A.left y o }
  where
    ne : (y : ℕ) → (y < p) ⊎ (q ≤ y) → ¬ (y ≡ x)
    ne y (inl o) e = omega arith
    ne y (inr o) e = omega arith

pub apart_then : (p q : ℕ) (C C2 C3 : List ℕ) → Apart p q C C2 → Apart p q C2 C3 → Apart p q C C3
apart_then p q C C2 C3 A B = record { same = B.same ∙ A.same; left = λ x o. B.left x o ∙ A.left x o }

pub apart_wide : (p q r : ℕ) (C C2 : List ℕ) → q ≤ r → Apart p q C C2 → Apart p r C C2
apart_wide p q r C C2 l A = record { same = A.same; left = λ x o. A.left x (wide x o) }
  where
    wide : (x : ℕ) → (x < p) ⊎ (r ≤ x) → (x < p) ⊎ (q ≤ x)
    wide x (inl o) = inl o
    wide x (inr o) = inr (omega arith)

-- One edge more -------------------------------------------------------------------------------------------------------------------

pub held_none : (E : List ℕ) (word : ℕ) (C : List ℕ) (p : ℕ) → ((c : ℕ) → c < 48 → at C (p + c) ≡ 0) → Held E word 0 C p
held_none E word C p z = record {
  have = λ e l. absurd (omega arith);
  only = λ g t s lg lt ls b. absurd (true≢false (sym b ∙ ap (λ (w : ℕ). bit w s) (z (16 * g + t) (omega arith)) ∙ bit-zero s));
}

pub group_lt : (d : ℕ) → group_of d < 3
group_lt d = go (eqb d 0) (eqb d 1)
  where
    go : (a b : Bool) → pick a 0 (pick b 1 2) < 3
    go true b = omega arith
    go false true = omega arith
    go false false = omega arith

module _ (E : List ℕ) (f : EdgesFit E) (word k : ℕ) (lk : k < length E) (C : List ℕ) (p : ℕ) (room : p + 48 ≤ length C) (H : Held E word k C p) (C2 : List ℕ)
    (is : C2 ≡ set C (p + column_of (at E k)) (pick (bit word (test_of (at E k))) (bit_or (at C (p + column_of (at E k))) (2 ^ from_of (at E k))) (at C (p + column_of (at E k))))) where
  abbrev q : ℕ
  q = at E k

  abbrev x : ℕ
  x = at C (p + column_of q)

  abbrev v : ℕ
  v = pick (bit word (test_of q)) (bit_or x (2 ^ from_of q)) x

  column_in : p + column_of (at E k) < length C
  column_in = omega (arith, group_lt (dir_in q), (f.each k lk).to_fits)

  here : at C2 (p + column_of (at E k)) ≡ v
  here = ap (λ (l : List ℕ). at l (p + column_of q)) is ∙ get_or-set_same C (p + column_of q) v 0 column_in

  other : (y : ℕ) → ¬ (y ≡ p + column_of (at E k)) → at C2 y ≡ at C y
  other y ne = ap (λ (l : List ℕ). at l y) is ∙ get_or-set_other C (p + column_of q) y v 0 ne

  keeps : (y s : ℕ) → bit (at C y) s ≡ true → bit (at C2 y) s ≡ true
  keeps y s b = go (bool_cases (eqb y (p + column_of q)))
    where
      kept : (on : Bool) → bit (at C (p + column_of (at E k))) s ≡ true → bit (pick on (bit_or (at C (p + column_of (at E k))) (2 ^ from_of (at E k))) (at C (p + column_of (at E k)))) s ≡ true
      kept true b = in_left x (2 ^ from_of q) s b
      kept false b = b

      go : (eqb y (p + column_of (at E k)) ≡ true) ⊎ (eqb y (p + column_of (at E k)) ≡ false) → bit (at C2 y) s ≡ true
      go (inl e) = let z = eqb-true y (p + column_of q) e in
          ap (λ (y : ℕ). bit (at C2 y) s) z ∙ ap (λ (w : ℕ). bit w s) here ∙ kept (bit word (test_of q)) (ap (λ (y : ℕ). bit (at C y) s) (sym z) ∙ b)
      go (inr e) = ap (λ (w : ℕ). bit w s) (other y (eqb-false y (p + column_of q) e)) ∙ b

  new : bit word (test_of (at E k)) ≡ true → bit (at C2 (p + column_of (at E k))) (from_of (at E k)) ≡ true
  new h = ap (λ (w : ℕ). bit w (from_of q)) here ∙ rw (h, pick) (in_right x (2 ^ from_of q) (from_of q) (one_self state_limit (from_of q) (f.each k lk).from_fits))

  grew : (s : ℕ) → s < state_limit → (on : Bool) → bit word (test_of (at E k)) ≡ on → bit (pick on (bit_or (at C (p + column_of (at E k))) (2 ^ from_of (at E k))) (at C (p + column_of (at E k)))) s ≡ true
      → (bit (at C (p + column_of (at E k))) s ≡ true) ⊎ ((from_of (at E k) ≡ s) × (bit word (test_of (at E k)) ≡ true))
  grew s ls false h b = inl b
  grew s ls true h b = go (in_either x (2 ^ from_of q) s b)
    where
      go : (bit (at C (p + column_of (at E k))) s ≡ true) ⊎ (bit (2 ^ from_of (at E k)) s ≡ true) → (bit (at C (p + column_of (at E k))) s ≡ true) ⊎ ((from_of (at E k) ≡ s) × (bit word (test_of (at E k)) ≡ true))
      go (inl b) = inl b
      go (inr b) = inr (sym (eqb-true s (from_of q) (sym (bit_one state_limit (from_of q) s (f.each k lk).from_fits ls) ∙ b)), h)

  older : (g s t : ℕ) → Step E word k g s t → Step E word (k + 1) g s t
  older g s t S = record { edge = S.edge; early = omega (arith, S.early); group = S.group; from = S.from; lands = S.lands; holds = S.holds }

  pub held_next : Held E word (k + 1) C2 p
  held_next = record { have = λ e l h. have' e l h (bool_cases (eqb e k)); only = λ g t s lg lt ls b. only' g t s lg lt ls b (bool_cases (eqb (p + (16 * g + t)) (p + column_of q))) }
    where
      have' : (e : ℕ) → e < k + 1 → bit word (test_of (at E e)) ≡ true → (eqb e k ≡ true) ⊎ (eqb e k ≡ false) → bit (at C2 (p + column_of (at E e))) (from_of (at E e)) ≡ true
      have' e l h (inl z) = let same = eqb-true e k z in
          subst (λ (e : ℕ). bit (at C2 (p + column_of (at E e))) (from_of (at E e)) ≡ true) (sym same) (new (subst (λ (e : ℕ). bit word (test_of (at E e)) ≡ true) same h))
      have' e l h (inr z) = let ne = eqb-false e k z in keeps (p + column_of (at E e)) (from_of (at E e)) (H.have e (omega arith) h)

      only' : (g t s : ℕ) → g < 3 → t < state_limit → s < state_limit → bit (at C2 (p + (16 * g + t))) s ≡ true
          → (eqb (p + (16 * g + t)) (p + column_of (at E k)) ≡ true) ⊎ (eqb (p + (16 * g + t)) (p + column_of (at E k)) ≡ false) → Step E word (k + 1) g s t
      only' g t s lg lt ls b (inl z) = go (grew s ls (bit word (test_of q)) refl (ap (λ (w : ℕ). bit w s) (sym here) ∙ ap (λ (y : ℕ). bit (at C2 y) s) (sym place) ∙ b))
        where
          place : p + (16 * g + t) ≡ p + column_of (at E k)
          place = eqb-true (p + (16 * g + t)) (p + column_of q) z

          to_in : to_of (at E k) < state_limit
          to_in = (f.each k lk).to_fits

          go : (bit (at C (p + column_of (at E k))) s ≡ true) ⊎ ((from_of (at E k) ≡ s) × (bit word (test_of (at E k)) ≡ true)) → Step E word (k + 1) g s t
          go (inl b) = older g s t (H.only g t s lg lt ls (ap (λ (y : ℕ). bit (at C y) s) place ∙ b))
          go (inr w) = record { edge = k; early = omega arith; group = omega (arith, place, to_in); from = w.0; lands = omega (arith, place, to_in); holds = w.1 }
      only' g t s lg lt ls b (inr z) = older g s t (H.only g t s lg lt ls (ap (λ (w : ℕ). bit w s) (sym (other (p + (16 * g + t)) (eqb-false (p + (16 * g + t)) (p + column_of q) z))) ∙ b))

-- Steps by way of one state -------------------------------------------------------------------------------------------------------

pub pivoted_none : (C : List ℕ) (p k : ℕ) → Pivoted C p k 0 C
pivoted_none C p k = record { apart = apart_none p (p + state_limit) C; done = λ u l. absurd (omega arith); rest = λ u l. refl }

-- where no step leads to state k, no column changes
pub pivoted_empty : (C : List ℕ) (p k n : ℕ) → at C (p + k) ≡ 0 → Pivoted C p k n C
pivoted_empty C p k n z = record { apart = apart_none p (p + state_limit) C; done = λ u l. go u (bit (at C (p + u)) k); rest = λ u l. refl }
  where
    go : (u : ℕ) (on : Bool) → at C (p + u) ≡ pick on (bit_or (at C (p + u)) (at C (p + k))) (at C (p + u))
    go u true = sym (or_zero_r (at C (p + u))) ∙ ap (bit_or (at C (p + u))) (sym z)
    go u false = refl

pub pivoted_next : (C : List ℕ) (p k n : ℕ) (C2 : List ℕ) (v : ℕ) → n < state_limit → p + state_limit ≤ length C → Pivoted C p k n C2
    → v ≡ pick (bit (at C (p + n)) k) (bit_or (at C (p + n)) (at C (p + k))) (at C (p + n)) → Pivoted C p k (n + 1) (set C2 (p + n) v)
pivoted_next C p k n C2 v ln room W e = record {
  apart = apart_set p (p + state_limit) C C2 (p + n) v W.apart (omega arith) (omega arith);
  done = λ u l. go u l (bool_cases (eqb u n));
  rest = λ u l. get_or-set_other C2 (p + n) (p + u) v 0 (λ z. omega arith) ∙ W.rest u (omega arith);
}
  where
    go : (u : ℕ) → u < n + 1 → (eqb u n ≡ true) ⊎ (eqb u n ≡ false) → at (set C2 (p + n) v) (p + u) ≡ pick (bit (at C (p + u)) k) (bit_or (at C (p + u)) (at C (p + k))) (at C (p + u))
    go u l (inl z) = subst (λ (u : ℕ). at (set C2 (p + n) v) (p + u) ≡ pick (bit (at C (p + u)) k) (bit_or (at C (p + u)) (at C (p + k))) (at C (p + u))) (sym (eqb-true u n z))
        (get_or-set_same C2 (p + n) v 0 (omega (arith, W.apart.same)) ∙ e)
    go u l (inr z) = let ne = eqb-false u n z in get_or-set_other C2 (p + n) (p + u) v 0 (λ w. ne (omega arith)) ∙ W.done u (omega arith)

pub joined_none : (C : List ℕ) (p : ℕ) → Joined C p 0 C
joined_none C p = record { apart = apart_none p (p + state_limit) C; keeps = λ s t l b. b; sound = λ P u. u; through = λ s m u ls lm. absurd (omega arith) }

module _ (C : List ℕ) (p k : ℕ) (lk : k < state_limit) (C1 C2 : List ℕ) (J : Joined C p k C1) (W : Pivoted C1 p k state_limit C2) where
  -- a step of the new columns is an old one, or by way of state k
  from_new : (s u : ℕ) → u < state_limit → bit (at C2 (p + u)) s ≡ true → (bit (at C1 (p + u)) s ≡ true) ⊎ ((bit (at C1 (p + u)) k ≡ true) × (bit (at C1 (p + k)) s ≡ true))
  from_new s u lu b = go (bit (at C1 (p + u)) k) refl (ap (λ (w : ℕ). bit w s) (sym (W.done u lu)) ∙ b)
    where
      go : (on : Bool) → bit (at C1 (p + u)) k ≡ on → bit (pick on (bit_or (at C1 (p + u)) (at C1 (p + k))) (at C1 (p + u))) s ≡ true
          → (bit (at C1 (p + u)) s ≡ true) ⊎ ((bit (at C1 (p + u)) k ≡ true) × (bit (at C1 (p + k)) s ≡ true))
      go false h b = inl b
      go true h b = or (in_either (at C1 (p + u)) (at C1 (p + k)) s b)
        where
          or : (bit (at C1 (p + u)) s ≡ true) ⊎ (bit (at C1 (p + k)) s ≡ true) → (bit (at C1 (p + u)) s ≡ true) ⊎ ((bit (at C1 (p + u)) k ≡ true) × (bit (at C1 (p + k)) s ≡ true))
          or (inl b) = inl b
          or (inr b) = inr (h, b)

  old : (s u : ℕ) → u < state_limit → bit (at C1 (p + u)) s ≡ true → bit (at C2 (p + u)) s ≡ true
  old s u lu b = ap (λ (w : ℕ). bit w s) (W.done u lu) ∙ go (bit (at C1 (p + u)) k)
    where
      go : (on : Bool) → bit (pick on (bit_or (at C1 (p + u)) (at C1 (p + k))) (at C1 (p + u))) s ≡ true
      go true = in_left (at C1 (p + u)) (at C1 (p + k)) s b
      go false = b

  by_way : (s u : ℕ) → u < state_limit → bit (at C1 (p + u)) k ≡ true → bit (at C1 (p + k)) s ≡ true → bit (at C2 (p + u)) s ≡ true
  by_way s u lu h b = ap (λ (w : ℕ). bit w s) (W.done u lu) ∙ rw (h, pick) (in_right (at C1 (p + u)) (at C1 (p + k)) s b)

  pub joined_next : Joined C p (k + 1) C2
  joined_next = record {
    apart = apart_then p (p + state_limit) C C1 C2 J.apart W.apart;
    keeps = λ s t l b. old s t l (J.keeps s t l b);
    sound = λ P u s t ls lt b h. sound' P (J.sound P u) s t ls lt h (from_new s t lt b);
    through = λ s m u ls lm lu a b. through' s m u ls lm lu (from_new s m (omega arith) a) (from_new m u lu b) (bool_cases (eqb m k));
  }
    where
      sound' : (P : ℕ → Bool) → Back C1 p P → (s t : ℕ) → s < state_limit → t < state_limit → P t ≡ true
          → (bit (at C1 (p + t)) s ≡ true) ⊎ ((bit (at C1 (p + t)) k ≡ true) × (bit (at C1 (p + k)) s ≡ true)) → P s ≡ true
      sound' P u s t ls lt h (inl b) = u s t ls lt b h
      sound' P u s t ls lt h (inr w) = u s k ls lk w.1 (u k t lk lt w.0 h)

      -- s to m, m to u: old steps, or by way of k
      through' : (s m u : ℕ) → s < state_limit → m < k + 1 → u < state_limit
          → (bit (at C1 (p + m)) s ≡ true) ⊎ ((bit (at C1 (p + m)) k ≡ true) × (bit (at C1 (p + k)) s ≡ true))
          → (bit (at C1 (p + u)) m ≡ true) ⊎ ((bit (at C1 (p + u)) k ≡ true) × (bit (at C1 (p + k)) m ≡ true))
          → (eqb m k ≡ true) ⊎ (eqb m k ≡ false) → bit (at C2 (p + u)) s ≡ true
      through' s m u ls lm lu (inr a) (inr b) z = by_way s u lu b.0 a.1
      through' s m u ls lm lu (inl a) (inl b) (inl z) = let e = eqb-true m k z in
          by_way s u lu (ap (bit (at C1 (p + u))) (sym e) ∙ b) (ap (λ (m : ℕ). bit (at C1 (p + m)) s) (sym e) ∙ a)
      through' s m u ls lm lu (inl a) (inr b) (inl z) = let e = eqb-true m k z in by_way s u lu b.0 (ap (λ (m : ℕ). bit (at C1 (p + m)) s) (sym e) ∙ a)
      through' s m u ls lm lu (inr a) (inl b) (inl z) = let e = eqb-true m k z in by_way s u lu (ap (bit (at C1 (p + u))) (sym e) ∙ b) a.1
      through' s m u ls lm lu (inl a) (inl b) (inr z) = let ne = eqb-false m k z in old s u lu (J.through s m u ls (omega arith) lu a b)
      through' s m u ls lm lu (inl a) (inr b) (inr z) = let ne = eqb-false m k z in by_way s u lu b.0 (J.through s m k ls (omega arith) lk a b.1)
      through' s m u ls lm lu (inr a) (inl b) (inr z) = let ne = eqb-false m k z in by_way s u lu (J.through k m u lk (omega arith) lu a.0 b) a.1

-- The whole -----------------------------------------------------------------------------------------------------------------------

pub columns_made : (E : List ℕ) → EdgesFit E → (word : ℕ) (C C2 : List ℕ) (p : ℕ) → Held E word (length E) C p → Joined C p state_limit C2 → Columns E word C2 p
columns_made E f word C C2 p H J = record {
  have = λ e l h. have' e l h (bool_cases (eqb (group_of (dir_in (at E e))) 0));
  only = λ g t s pos lg lt ls b. H.only g t s lg lt ls (ap (λ (w : ℕ). bit w s) (sym (J.apart.left (p + (16 * g + t)) (inr (omega arith)))) ∙ b);
  sound = λ P u. J.sound P (λ s t ls lt b h. u s t (H.only 0 t s (omega arith) lt ls (subst (λ (y : ℕ). bit (at C y) s ≡ true) (omega arith) b)) h);
  through = J.through;
}
  where
    have' : (e : ℕ) → e < length E → bit word (test_of (at E e)) ≡ true → (eqb (group_of (dir_in (at E e))) 0 ≡ true) ⊎ (eqb (group_of (dir_in (at E e))) 0 ≡ false)
        → bit (at C2 (p + column_of (at E e))) (from_of (at E e)) ≡ true
    have' e l h (inl z) =
        let g0 : group_of (dir_in (at E e)) ≡ 0 = eqb-true (group_of (dir_in (at E e))) 0 z in
        let place : p + column_of (at E e) ≡ p + to_of (at E e) = omega (arith, g0) in
        ap (λ (y : ℕ). bit (at C2 y) (from_of (at E e))) place ∙ J.keeps (from_of (at E e)) (to_of (at E e)) (f.each e l).to_fits (ap (λ (y : ℕ). bit (at C y) (from_of (at E e))) (sym place) ∙ H.have e l h)
    have' e l h (inr z) =
        let pos : ¬ (group_of (dir_in (at E e)) ≡ 0) = eqb-false (group_of (dir_in (at E e))) 0 z in
        ap (λ (w : ℕ). bit w (from_of (at E e))) (J.apart.left (p + column_of (at E e)) (inr (omega (arith, pos)))) ∙ H.have e l h
