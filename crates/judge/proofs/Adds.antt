-- A verdict added to each entry's number, one entry after the other, and counted; arrays filled place by place.
use Rattle.std.specs.Prelude.{◌≡◌, ℕ, zero, suc, ◌+◌, ◌*◌, ◌^◌, ◌<◌, ◌≤◌, Bool, true, false, eqb, ltb, ◌⊎◌, List, ◌++◌, length, get_or, take, drop, set, replicate}
use native.Mathlib.Omega.{arith}
use mir.Val.{bool_byte}
use native.Mathlib.Numerals.{add-one}
use mathlib.Core.Path.{refl, sym, subst, ap, ap₂, ◌∙◌}
use mathlib.Core.Logic.{inl, inr}
use lib.ListN.{length-set, length-take, get_or-eq_default}
use lib.Seq.{ext_get_or, get_or-set_same, get_or-set_other, get_or-take, take_at}
use borrow.Author.Tests.{eqb-true, eqb-false, ltb-true, ltb-false}
use Rattle.aldlf.specs.Constants.{node_limit}
use Rattle.aldlf.specs.Sheet.{bit}
use Rattle.aldlf.specs.Outcomes.{one, pack_bits, tabulate}
use Rattle.aldlf.proofs.Bools.{bool_cases, lt-or-le, count_cong}
use Rattle.aldlf.proofs.Packing.{length-tabulate, get_d_tabulate, bit_top}
use Rattle.reach.specs.Marks.{at, verdict_added}
use Rattle.judge.specs.Nodes.{set_in, Added, Filled}

pub added_none : (k : ℕ) (f : ℕ → Bool) (l : List ℕ) → Added k f 0 l l 0
added_none k f l = record { counted = refl; same = refl; done = λ i h. absurd (omega arith); rest = λ i h. refl }

-- a word of the nodes below k and the verdict on k
added_is : (w k : ℕ) (on : Bool) → verdict_added w k on ≡ one on * 2 ^ k + w
added_is w k true = omega arith
added_is w k false = omega arith

-- a verdict as a number to add to the count
pub byte_is : (on : Bool) → bool_byte on ≡ one on
byte_is true = refl
byte_is false = refl

pub byte_few : (on : Bool) → bool_byte on ≤ 1
byte_few true = omega arith
byte_few false = omega arith

-- place n: F tells the verdict from the word before; the bit that it sets is counted
pub added_turn : (k : ℕ) (F : ℕ → ℕ → Bool) (n : ℕ) (before after : List ℕ) (on : Bool) (v held held2 : ℕ) → Added k (λ i. F i (at before i)) n before after held → n < length before
    → at after n < 2 ^ k → on ≡ F n (at after n) → v ≡ verdict_added (at after n) k on → held2 ≡ one on + held → Added k (λ i. F i (at before i)) (n + 1) before (set after n v) held2
added_turn k F n before after on v held held2 a l low o e c =
    record {
      counted = c ∙ ap₂ (λ (b : Bool) (x : ℕ). one b + x) (sym set_here) (a.counted ∙ count_cong n (λ i. bit (at after i) k) (λ i. bit (at (set after n v) i) k) set_there)
          ∙ ap (λ (m : ℕ). set_in m (set after n v) k) (sym (add-one n));
      same = length-set after n v ∙ a.same;
      done = λ i h. now-at i h (bool_cases (eqb i n));
      rest = λ i h. get_or-set_other after n i v 0 (omega arith) ∙ a.rest i (omega arith);
    }
  where
    was : at after n ≡ at before n
    was = a.rest n (omega arith)

    set_here : bit (at (set after n v) n) k ≡ on
    set_here = ap (λ (w : ℕ). bit w k) (get_or-set_same after n v 0 (omega (arith, a.same)) ∙ e ∙ added_is (at after n) k on) ∙ bit_top (at after n) k on low

    set_there : (i : ℕ) → i < n → bit (at after i) k ≡ bit (at (set after n v) i) k
    set_there i h = ap (λ (w : ℕ). bit w k) (sym (get_or-set_other after n i v 0 (omega arith)))

    now-is : v ≡ verdict_added (at before n) k (F n (at before n))
    now-is = e ∙ ap (verdict_added (at after n) k) o ∙ ap (λ (x : ℕ). verdict_added x k (F n x)) was

    now-at : (i : ℕ) → i < n + 1 → (eqb i n ≡ true) ⊎ (eqb i n ≡ false) → at (set after n v) i ≡ verdict_added (at before i) k (F i (at before i))
    now-at i h (inl p) = subst (λ (j : ℕ). at (set after n v) j ≡ verdict_added (at before j) k (F j (at before j))) (sym (eqb-true i n p)) (get_or-set_same after n v 0 (omega (arith, a.same)) ∙ now-is)
    now-at i h (inr p) = let ne = eqb-false i n p in get_or-set_other after n i v 0 ne ∙ a.done i (omega arith)

-- Scratch -----------------------------------------------------------------------------------------------------------------------

pub zeros_at : (n j : ℕ) → let z : ℕ = 0 in get_or (replicate n z) j z ≡ z
zeros_at zero j = refl
zeros_at (suc n) zero = refl
zeros_at (suc n) (suc j) = zeros_at n j

pub take_zeros : (n : ℕ) (l : List ℕ) → ((i : ℕ) → at l i ≡ 0) → (i : ℕ) → at (take n l) i ≡ 0
take_zeros n l z i = go (lt-or-le i n)
  where
    go : (i < n) ⊎ (n ≤ i) → at (take n l) i ≡ 0
    go (inl h) = get_or-take n l i 0 h ∙ z i
    go (inr h) = get_or-eq_default (take n l) 0 (omega (arith, length-take n l))

-- the first places of l after they were lent and came back as w
pub lent_back : (n : ℕ) (w l : List ℕ) → length w ≡ n → take n (w ++ drop n l) ≡ w
lent_back n w l e = take_at w (drop n l) n e

-- Rows ---------------------------------------------------------------------------------------------------------------------------

module _ (f : ℕ → ℕ) where
  pub filled_start : Filled f (replicate node_limit 0) 0
  filled_start = record { size = refl; done = λ j l. absurd (omega arith); left = λ j l. zeros_at node_limit j }

  pub filled_next : (out : List ℕ) (k v : ℕ) → k < node_limit → Filled f out k → v ≡ f k → Filled f (set out k v) (k + 1)
  filled_next out k v l F e =
      record {
        size = length-set out k v ∙ F.size;
        done = λ j h. go j h (bool_cases (eqb k j));
        left = λ j h. get_or-set_other out k j v 0 (λ z. omega arith) ∙ F.left j (omega arith);
      }
    where
      go : (j : ℕ) → j < k + 1 → (eqb k j ≡ true) ⊎ (eqb k j ≡ false) → get_or (set out k v) j 0 ≡ f j
      go j h (inl p) = let q : k ≡ j = eqb-true k j p in subst (λ (z : ℕ). get_or (set out k v) z 0 ≡ f z) q (get_or-set_same out k v 0 (omega (arith, F.size)) ∙ e)
      go j h (inr p) = let ne : ¬ (k ≡ j) = eqb-false k j p in get_or-set_other out k j v 0 (λ z. ne (sym z)) ∙ F.done j (omega arith)

  -- a number that is 0 stands there already
  pub filled_same : (out : List ℕ) (k : ℕ) → Filled f out k → 0 ≡ f k → Filled f out (k + 1)
  filled_same out k F e = record { size = F.size; done = λ j h. go j h (bool_cases (eqb k j)); left = λ j h. F.left j (omega arith) }
    where
      go : (j : ℕ) → j < k + 1 → (eqb k j ≡ true) ⊎ (eqb k j ≡ false) → get_or out j 0 ≡ f j
      go j h (inl p) = let q : k ≡ j = eqb-true k j p in F.left j (omega arith) ∙ e ∙ ap f q
      go j h (inr p) = let ne : ¬ (k ≡ j) = eqb-false k j p in F.done j (omega arith)

  pub filled_end : (out : List ℕ) (n : ℕ) → Filled f out n → ((j : ℕ) → n ≤ j → f j ≡ 0) → out ≡ tabulate node_limit f
  filled_end out n F rest = ext_get_or 0 out (tabulate node_limit f) (F.size ∙ sym (length-tabulate node_limit f))
      (λ j l. place j (bool_cases (ltb j n)) ∙ sym (get_d_tabulate node_limit f j 0 (omega (arith, F.size))))
    where
      place : (j : ℕ) → (ltb j n ≡ true) ⊎ (ltb j n ≡ false) → get_or out j 0 ≡ f j
      place j (inl e) = F.done j (ltb-true j n e)
      place j (inr e) = let h = ltb-false j n e in F.left j h ∙ sym (rest j h)

-- a word with one verdict more
pub word_next : (p : ℕ → Bool) (k w : ℕ) (on : Bool) (r : ℕ) → w ≡ pack_bits k p → on ≡ p k → r ≡ verdict_added w k on → r ≡ pack_bits (k + 1) p
word_next p k w on r e o z = z ∙ added_is w k on ∙ ap₂ (λ (b : Bool) (x : ℕ). one b * 2 ^ k + x) o e ∙ ap (λ (m : ℕ). pack_bits m p) (sym (add-one k))
