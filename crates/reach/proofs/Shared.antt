-- The columns of a whole log: entries that agree on the tested nodes share them; one entry more; what edges look at, one edge more.
use Prim.Native.Nat.{ℕ, ◌+◌, ◌*◌, ◌^◌, ◌≤◌, ◌<◌}
use native.Mathlib.Omega.{arith}
use mathlib.Core.Path.{◌≡◌, sym, subst, ap, ◌∙◌}
use mathlib.Core.Logic.{◌⊎◌, inl, inr}
use mathlib.Core.Bool.{true, false}
use mathlib.Core.List.{List}
use lib.Bits.{bit_or}
use lib.Dec.{eqb}
use lib.ListN.{length, set, length-set}
use lib.Seq.{get_or-set_same, get_or-set_other}
use borrow.Author.Tests.{eqb-true, eqb-false}
use Rattle.aldlf.specs.Constants.{node_limit}
use Rattle.aldlf.specs.Sheet.{bit}
use Rattle.aldlf.proofs.Bools.{bool_cases}
use Rattle.reach.specs.Marks.{at, dir_in, test_of, EdgesFit}
use Rattle.reach.specs.Columns.{column_of, Step, Apart, Columns, Placed, Filled, Filling}
use Rattle.reach.specs.Tests.{in_set, Tested}
use Rattle.reach.specs.declared.filling.NodeSet.{NodeSet}
use Rattle.reach.proofs.Bits.{in_left, in_right, one_self}
use Rattle.reach.proofs.Made.{group_lt}

-- a bit for each of the edges passed, in what was gathered
pub gathered : (f : ℕ → ℕ) (q k x : ℕ) → f k < q → ((e : ℕ) → e < k → bit x (f e) ≡ true) → (e : ℕ) → e < k + 1 → bit (bit_or x (2 ^ f k)) (f e) ≡ true
gathered f q k x small old e l = go (bool_cases (eqb e k))
  where
    go : (eqb e k ≡ true) ⊎ (eqb e k ≡ false) → bit (bit_or x (2 ^ f k)) (f e) ≡ true
    go (inl z) = ap (λ (e : ℕ). bit (bit_or x (2 ^ f k)) (f e)) (eqb-true e k z) ∙ in_right x (2 ^ f k) (f k) (one_self q (f k) small)
    go (inr z) = let ne = eqb-false e k z in in_left x (2 ^ f k) (f e) (old e (omega arith))

-- columns serve every word that agrees on the nodes that edges test
columns_like : (E C : List ℕ) (p w w2 : ℕ) → ((e : ℕ) → e < length E → bit w2 (test_of (at E e)) ≡ bit w (test_of (at E e))) → Columns E w C p → Columns E w2 C p
columns_like E C p w w2 same K = record {
  have = λ e l h. K.have e l (sym (same e l) ∙ h);
  only = λ g t s pos lg lt ls b. let S = K.only g t s pos lg lt ls b in there g s t S;
  sound = λ P u. K.sound P (λ s t S h. u s t (there 0 s t S) h);
  through = K.through;
}
  where
    there : (g s t : ℕ) → Step E w (length E) g s t → Step E w2 (length E) g s t
    there g s t S = record { edge = S.edge; early = S.early; group = S.group; from = S.from; lands = S.lands; holds = same S.edge S.early ∙ S.holds }

-- columns are the same where their 48 places are
columns_moved : (E : List ℕ) → EdgesFit E → (w : ℕ) (C C2 : List ℕ) (p : ℕ) → ((x : ℕ) → p ≤ x → x < p + 48 → at C2 x ≡ at C x) → Columns E w C p → Columns E w C2 p
columns_moved E f w C C2 p same K = record {
  have = λ e l h. put (p + column_of (at E e)) _ (omega arith) (omega (arith, group_lt (dir_in (at E e)), (f.each e l).to_fits)) (K.have e l h);
  only = λ g t s pos lg lt ls b. K.only g t s pos lg lt ls (get (p + (16 * g + t)) s (omega arith) (omega arith) b);
  sound = λ P u s t ls lt b h. K.sound P u s t ls lt (get (p + t) s (omega arith) (omega arith) b) h;
  through = λ s m u ls lm lu a b. put (p + u) s (omega arith) (omega arith) (K.through s m u ls lm lu (get (p + m) s (omega arith) (omega arith) a) (get (p + u) m (omega arith) (omega arith) b));
}
  where
    get : (x s : ℕ) → p ≤ x → x < p + 48 → bit (at C2 x) s ≡ true → bit (at C x) s ≡ true
    get x s a b h = ap (λ (z : ℕ). bit z s) (sym (same x a b)) ∙ h

    put : (x s : ℕ) → p ≤ x → x < p + 48 → bit (at C x) s ≡ true → bit (at C2 x) s ≡ true
    put x s a b h = ap (λ (z : ℕ). bit z s) (same x a b) ∙ h

pub filling_none : (E words : List ℕ) (n : ℕ) (C : List ℕ) → length C ≡ 49 * n → Filling E words n 0 C
filling_none E words n C long = record { long = long; behind = λ i l. absurd (omega arith); before = λ i l. absurd (omega arith); filled = λ i l. absurd (omega arith) }

-- One entry more: its place is behind the places, and only what lies behind the columns made so far, and its place, has changed
module _ (E : List ℕ) (f : EdgesFit E) (words : List ℕ) (n i : ℕ) (l : i < n) (C : List ℕ) (F : Filling E words n i C) (C2 : List ℕ) (same : length C2 ≡ length C)
    (left : (x : ℕ) → x < n + 48 * i → ¬ (x ≡ i) → at C2 x ≡ at C x) (behind : n ≤ at C2 i) (before : at C2 i + 48 ≤ n + 48 * (i + 1)) (new : Columns E (at words i) C2 (at C2 i)) where
  place_kept : (k : ℕ) → k < i → at C2 k ≡ at C k
  place_kept k h = left k (omega arith) (λ z. omega arith)

  pub filling_next : Filling E words n (i + 1) C2
  filling_next = record {
    long = same ∙ F.long;
    behind = λ k h. each (λ k. n ≤ at C2 k) behind (λ k h. subst (λ (z : ℕ). n ≤ z) (sym (place_kept k h)) (F.behind k h)) k h;
    before = λ k h. each (λ k. at C2 k + 48 ≤ n + 48 * (i + 1)) before (λ k h. omega (arith, place_kept k h, F.before k h)) k h;
    filled = λ k h. each (λ k. Columns E (at words k) C2 (at C2 k)) new
        (λ k h. subst (Columns E (at words k) C2) (sym (place_kept k h))
        (columns_moved E f (at words k) C C2 (at C k) (λ x a b. left x (omega (arith, F.before k h)) (λ z. absurd (omega (arith, F.behind k h)))) (F.filled k h))) k h;
  }
    where
      each : (P : ℕ → Type 0) → P i → ((k : ℕ) → k < i → P k) → (k : ℕ) → k < i + 1 → P k
      each P here old k h = go (bool_cases (eqb k i))
        where
          go : (eqb k i ≡ true) ⊎ (eqb k i ≡ false) → P k
          go (inl z) = subst P (sym (eqb-true k i z)) here
          go (inr z) = let ne = eqb-false k i z in old k (omega arith)

-- the place of an entry before that agrees on the tested nodes
pub filling_like : (E : List ℕ) → EdgesFit E → (words : List ℕ) (tested : NodeSet) (n i j : ℕ) (C : List ℕ) → Tested E tested (length E) → i < n → j < i
    → ((k : ℕ) → k < node_limit → in_set tested k ≡ true → bit (at words i) k ≡ bit (at words j) k) → Filling E words n i C → Filling E words n (i + 1) (set C i (at C j))
filling_like E f words tested n i j C T l h same F =
    filling_next E f words n i l C F (set C i (at C j)) (length-set C i (at C j)) (λ x _ ne. get_or-set_other C i x (at C j) 0 ne)
    (subst (λ (z : ℕ). n ≤ z) (sym here) (F.behind j h)) (omega (arith, here, F.before j h))
    (subst (Columns E (at words i) (set C i (at C j))) (sym here)
    (columns_moved E f (at words i) C (set C i (at C j)) (at C j) (λ x a b. get_or-set_other C i x (at C j) 0 (λ z. absurd (omega (arith, F.behind j h))))
    (columns_like E C (at C j) (at words j) (at words i) (λ e le. same (test_of (at E e)) (f.each e le).test_fits (T e le)) (F.filled j h))))
  where
    here : at (set C i (at C j)) i ≡ at C j
    here = get_or-set_same C i (at C j) 0 (omega (arith, F.long))

-- columns of its own, behind those made so far
pub filling_own : (E : List ℕ) → EdgesFit E → (words : List ℕ) (n i p : ℕ) (C C2 : List ℕ) → i < n → p ≡ n + 48 * i → Filling E words n i C
    → Apart p (p + 48) (set C i p) C2 → Columns E (at words i) C2 p → Filling E words n (i + 1) C2
filling_own E f words n i p C C2 l is F A K =
    filling_next E f words n i l C F C2 (A.same ∙ length-set C i p) (λ x h ne. A.left x (inl (omega arith)) ∙ get_or-set_other C i x p 0 ne)
    (omega (arith, here)) (omega (arith, here)) (subst (Columns E (at words i) C2) (sym here) K)
  where
    here : at C2 i ≡ p
    here = A.left i (inl (omega arith)) ∙ get_or-set_same C i p 0 (omega (arith, F.long))

pub filling_placed : (E words : List ℕ) (n : ℕ) (C : List ℕ) → Filling E words n n C → Placed n C
filling_placed E words n C F = record { room = omega (arith, F.long); each = λ i l. omega (arith, F.before i l, F.long) }

-- columns serve other words that agree on the nodes that the edges test
pub filled_keep : (E W W2 : List ℕ) (k : ℕ) (C : List ℕ) → ((i e : ℕ) → i < k → e < length E → bit (at W2 i) (test_of (at E e)) ≡ bit (at W i) (test_of (at E e))) → Filled E W k C → Filled E W2 k C
filled_keep E W W2 k C same F i l = columns_like E C (at C i) (at W i) (at W2 i) (λ e le. same i e l le) (F i l)
