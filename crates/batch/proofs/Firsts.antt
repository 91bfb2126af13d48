-- The first log that does not pass: one log more, the end of the list, and what questions 32 and 33 of the list say where none is found.
use Prim.Native.Nat.{ℕ, zero, suc, ◌+◌, ◌*◌, ◌/◌, ◌-◌, ◌≤◌, ◌<◌}
use native.Mathlib.Omega.{arith}
use native.Mathlib.Numerals.{add-one}
use mathlib.Core.Path.{◌≡◌, refl, sym, subst, ap, ap₂, ◌∙◌}
use mathlib.Core.Logic.{◌⊎◌, inl, inr}
use mathlib.Core.Bool.{Bool, true, false, cond, ◌&&◌}
use mathlib.Core.List.{List, [], ◌∷◌}
use lib.Dec.{leb, ltb}
use lib.ListN.{length, take, drop, get_or, drop_of_length-le}
use lib.Seq.{drop-cons, take_all}
use borrow.Author.Tests.{leb-true, ltb-true, ltb-false, lt-ltb, le-ltb}
use Rattle.aldlf.specs.Constants.{entry_limit}
use Rattle.aldlf.proofs.Bools.{and_left, and_right, bool_cases}
use Rattle.batch.specs.Right.{AllPass, FirstNot}
use Rattle.batch.specs.Batch.{list_limit, total, first_log, fits, has_room, left_over, misfit}

-- A log that passes ---------------------------------------------------------------------------------------------------------

-- it is there: its entries and its number are within the limits, and its words are among the words
pub record Fits (words k at n : ℕ) : Type 0 where
  pub early : k < list_limit
  pub some : 1 ≤ n
  pub few : n ≤ entry_limit
  pub there : at + n ≤ words

pub fits_yes : (words k at n : ℕ) → fits words k at n ≡ true → Fits words k at n
fits_yes words k at n e =
    let a = ltb k list_limit in
    let b = leb 1 n in
    let c = leb n entry_limit in
    let d = leb n (words - at) in
    let abc : a && b && c ≡ true = and_left (a && b && c) d e in
    let ab : a && b ≡ true = and_left (a && b) c abc in
    let some = leb-true 1 n (and_right a b ab) in
    let there = leb-true n (words - at) (and_right (a && b && c) d e) in
    record {
      early = ltb-true k list_limit (and_left a b ab);
      some = some;
      few = leb-true n entry_limit (and_right (a && b) c abc);
      there = omega arith;
    }

pub room_yes : (verdicts held k at n : ℕ) → has_room verdicts held k at n ≡ true → 2 * at ≤ verdicts → (2 * (at + n) ≤ verdicts) × (k < held)
room_yes verdicts held k at n e l =
    let a = leb (2 * n) (verdicts - 2 * at) in
    let b = ltb k held in
    let h = leb-true (2 * n) (verdicts - 2 * at) (and_left a b e) in
    (omega arith, ltb-true k held (and_right a b e))

-- From log k on -------------------------------------------------------------------------------------------------------------

abbrev pub found : Bool → (k rest : ℕ) → ℕ
found b k rest = elim b [ true ↦ rest | false ↦ suc k ]

pub found_none : (b : Bool) (k rest : ℕ) → found b k rest ≡ 0 → (b ≡ true) × (rest ≡ 0)
found_none true k rest e = (refl, e)
found_none false k rest e = absurd (omega arith)

module _ (pass : ℕ → ℕ → ℕ → Bool) (ns : List ℕ) (k at : ℕ) where
  pub first_end : length ns ≤ k → first_log pass k at (drop k ns) ≡ 0
  first_end h = ap (first_log pass k at) (drop_of_length-le ns h)

  module _ (h : k < length ns) where
    first_at : first_log pass k at (drop k ns) ≡ found (pass k at (get_or ns k 0)) k (first_log pass (k + 1) (at + get_or ns k 0) (drop (k + 1) ns))
    first_at =
        ap (first_log pass k at) (drop-cons ns k 0 h)
        ∙ ap (λ (j : ℕ). found (pass k at (get_or ns k 0)) k (first_log pass j (at + get_or ns k 0) (drop j ns))) (sym (add-one k))

    pub first_more : pass k at (get_or ns k 0) ≡ true → first_log pass k at (drop k ns) ≡ first_log pass (k + 1) (at + get_or ns k 0) (drop (k + 1) ns)
    first_more p = first_at ∙ ap (λ (b : Bool). found b k (first_log pass (k + 1) (at + get_or ns k 0) (drop (k + 1) ns))) p

    pub first_stop : pass k at (get_or ns k 0) ≡ false → first_log pass k at (drop k ns) ≡ suc k
    first_stop p = first_at ∙ ap (λ (b : Bool). found b k (first_log pass (k + 1) (at + get_or ns k 0) (drop (k + 1) ns))) p

    -- none is found: log k passes, and none is found after it
    pub first_yes : first_log pass k at (drop k ns) ≡ 0 → (pass k at (get_or ns k 0) ≡ true) × (first_log pass (k + 1) (at + get_or ns k 0) (drop (k + 1) ns) ≡ 0)
    first_yes e = found_none (pass k at (get_or ns k 0)) k (first_log pass (k + 1) (at + get_or ns k 0) (drop (k + 1) ns)) (sym first_at ∙ e)

-- In the whole list --------------------------------------------------------------------------------------------------------

module _ (pass : ℕ → ℕ → ℕ → Bool) where
  -- what log j of these is answered, where k logs and `at` words stand before them
  abbrev At : (k at : ℕ) → List ℕ → ℕ → Bool → Type 0
  At k at ns j b = (x y : ℕ) → x ≡ k + j → y ≡ at + total (take j ns) → pass x y (get_or ns j 0) ≡ b

  at_first : (k at n : ℕ) (ns : List ℕ) (b : Bool) → pass k at n ≡ b → At k at (n ∷ ns) zero b
  at_first k at n ns b p x y e f =
      let e' : x ≡ k = omega arith in
      let f' : y ≡ at = omega arith in
      ap₂ (λ (x y : ℕ). pass x y n) e' f' ∙ p

  at_later : (k at n : ℕ) (ns : List ℕ) (j : ℕ) (b : Bool) → At (suc k) (at + n) ns j b → At k at (n ∷ ns) (suc j) b
  at_later k at n ns j b p x y e f = p x y (omega arith) (omega arith)

  passes : (k at : ℕ) (ns : List ℕ) → first_log pass k at ns ≡ 0 → (j : ℕ) → j < length ns → At k at ns j true
  passes k at [] e j h = absurd (omega arith)
  passes k at (n ∷ ns) e zero h = at_first k at n ns true (found_none (pass k at n) k (first_log pass (suc k) (at + n) ns) e).0
  passes k at (n ∷ ns) e (suc j) h = at_later k at n ns j true (passes (suc k) (at + n) ns (found_none (pass k at n) k (first_log pass (suc k) (at + n) ns) e).1 j (omega arith))

  -- none is found: every log passes
  pub all_pass : (ns : List ℕ) → first_log pass 0 0 ns ≡ 0 → AllPass pass ns
  all_pass ns e j h = passes 0 0 ns e j h j (total (take j ns)) (omega arith) (omega arith)

  -- every log passes: none is found
  found_yes : (k at : ℕ) (ns : List ℕ) → ((j : ℕ) → j < length ns → At k at ns j true) → first_log pass k at ns ≡ 0
  found_yes k at [] p = refl
  found_yes k at (n ∷ ns) p =
      ap (λ (b : Bool). found b k (first_log pass (suc k) (at + n) ns)) (p zero (omega arith) k at (omega arith) (omega arith))
      ∙ found_yes (suc k) (at + n) ns (λ j h x y e f. p (suc j) (omega arith) x y (omega arith) (omega arith))

  pub none_found : (ns : List ℕ) → AllPass pass ns → first_log pass 0 0 ns ≡ 0
  none_found ns p = found_yes 0 0 ns (λ j h x y e f.
      let e' : x ≡ j = omega arith in
      let f' : y ≡ total (take j ns) = omega arith in
      ap₂ (λ (x y : ℕ). pass x y (get_or ns j 0)) e' f' ∙ p j h)

  -- log i of these is the first that does not pass
  record Stops (k at : ℕ) (ns : List ℕ) (m i : ℕ) : Type 0 where
    number : m ≡ k + i
    in_list : i < length ns
    before : (j : ℕ) → j < i → At k at ns j true
    fails : At k at ns i false

  stops : (k at : ℕ) (ns : List ℕ) (m : ℕ) → first_log pass k at ns ≡ suc m → (i : ℕ) × Stops k at ns m i
  stops k at [] m e = absurd (omega arith)
  stops k at (n ∷ ns) m e = go (bool_cases (pass k at n)) (stops (suc k) (at + n) ns m)
    where
      go : (pass k at n ≡ true) ⊎ (pass k at n ≡ false) → (first_log pass (suc k) (at + n) ns ≡ suc m → (i : ℕ) × Stops (suc k) (at + n) ns m i) → (i : ℕ) × Stops k at (n ∷ ns) m i
      go (inl p) rec =
          let r : (i : ℕ) × Stops (suc k) (at + n) ns m i = rec (sym (ap (λ (b : Bool). found b k (first_log pass (suc k) (at + n) ns)) p) ∙ e) in (
            suc r.0,
            record {
              number = omega (arith, r.1.number);
              in_list = omega (arith, r.1.in_list);
              before = earlier p r.0 r.1.before;
              fails = at_later k at n ns r.0 false r.1.fails;
            },
          )
        where
          earlier : pass k at n ≡ true → (i : ℕ) → ((j : ℕ) → j < i → At (suc k) (at + n) ns j true) → (j : ℕ) → j < suc i → At k at (n ∷ ns) j true
          earlier p i q zero h = at_first k at n ns true p
          earlier p i q (suc j) h = at_later k at n ns j true (q j (omega arith))
      go (inr p) rec =
          let f : suc k ≡ suc m = sym (ap (λ (b : Bool). found b k (first_log pass (suc k) (at + n) ns)) p) ∙ e in
          (0, record { number = omega arith; in_list = omega arith; before = λ j h. absurd (omega arith); fails = at_first k at n ns false p })

  -- one is found: it is the first that does not pass
  pub first_not : (ns : List ℕ) (m : ℕ) → first_log pass 0 0 ns ≡ suc m → FirstNot pass ns m
  first_not ns m e =
      let s = stops 0 0 ns m e in
      let is : s.0 ≡ m = omega (arith, s.1.number) in
      subst (FirstNot pass ns) is (record {
        in_list = s.1.in_list;
        before = λ j h. s.1.before j h j (total (take j ns)) (omega arith) (omega arith);
        fails = s.1.fails s.0 (total (take s.0 ns)) (omega arith) (omega arith);
      })

-- Where a log starts --------------------------------------------------------------------------------------------------------

pub total_next : (ns : List ℕ) (k : ℕ) → k < length ns → total (take (k + 1) ns) ≡ total (take k ns) + get_or ns k 0
total_next ns k h = ap (λ (j : ℕ). total (take j ns)) (add-one k) ∙ go ns k h
  where
    go : (ns : List ℕ) (k : ℕ) → k < length ns → total (take (suc k) ns) ≡ total (take k ns) + get_or ns k 0
    go [] k h = absurd (omega arith)
    go (n ∷ ns) zero h = omega arith
    go (n ∷ ns) (suc k) h = omega (arith, go ns k (omega arith))

pub total_all : (ns : List ℕ) (k : ℕ) → length ns ≤ k → total (take k ns) ≡ total ns
total_all ns k h = ap total (take_all k ns h)

-- logs of which each ends within a limit end within it together
module _ (pass : ℕ → ℕ → ℕ → Bool) (limit : ℕ) (ends : (k at n : ℕ) → pass k at n ≡ true → at ≤ limit → at + n ≤ limit) where
  within : (k at : ℕ) (ns : List ℕ) → first_log pass k at ns ≡ 0 → at ≤ limit → at + total ns ≤ limit
  within k at [] e l = omega arith
  within k at (n ∷ ns) e l =
      let y = found_none (pass k at n) k (first_log pass (suc k) (at + n) ns) e in
      omega (arith, within (suc k) (at + n) ns y.1 (ends k at n y.0 l))

pub fits_within : (words : ℕ) (ns : List ℕ) → first_log (fits words) 0 0 ns ≡ 0 → total ns ≤ words
fits_within words ns e = omega (arith, within (fits words) words (λ k at n p l. (fits_yes words k at n p).there) 0 0 ns e (omega arith))

pub room_within : (verdicts held : ℕ) (ns : List ℕ) → first_log (has_room verdicts held) 0 0 ns ≡ 0 → 2 * total ns ≤ verdicts
room_within verdicts held ns e = omega (arith, within (has_room verdicts held) (verdicts / 2) (λ k at n p l. omega (arith, (room_yes verdicts held k at n p (omega arith)).0)) 0 0 ns e (omega arith))

-- Question 32 of the list ---------------------------------------------------------------------------------------------------

abbrev missing : ℕ → ℕ → ℕ
missing first left = elim first [ zero ↦ left | suc k ↦ suc k ]

module _ (words : ℕ) (ns : List ℕ) where
  pub misfit_log : (k : ℕ) → first_log (fits words) 0 0 ns ≡ suc k → suc k ≡ misfit words ns
  misfit_log k e = sym (ap (λ (f : ℕ). missing f (left_over words ns)) e)

  pub misfit_left : first_log (fits words) 0 0 ns ≡ 0 → total ns < words → suc (length ns) ≡ misfit words ns
  misfit_left e l =
      sym (ap (λ (f : ℕ). missing f (left_over words ns)) e ∙ ap (λ (b : Bool). cond b (suc (length ns)) 0) (lt-ltb (total ns) words l))

  pub misfit_none : first_log (fits words) 0 0 ns ≡ 0 → words ≤ total ns → 0 ≡ misfit words ns
  misfit_none e l = sym (ap (λ (f : ℕ). missing f (left_over words ns)) e ∙ ap (λ (b : Bool). cond b (suc (length ns)) 0) (le-ltb (total ns) words l))

  -- none is found: every log fits, and no word is left over
  pub misfit_yes : misfit words ns ≡ 0 → (first_log (fits words) 0 0 ns ≡ 0) × (words ≤ total ns)
  misfit_yes e = go (first_log (fits words) 0 0 ns) refl (bool_cases (ltb (total ns) words))
    where
      go : (f : ℕ) → first_log (fits words) 0 0 ns ≡ f → (ltb (total ns) words ≡ true) ⊎ (ltb (total ns) words ≡ false) → (first_log (fits words) 0 0 ns ≡ 0) × (words ≤ total ns)
      go zero z (inl b) = absurd (omega (arith, misfit_left z (ltb-true (total ns) words b)))
      go zero z (inr b) = (z, ltb-false (total ns) words b)
      go (suc k) z b = absurd (omega (arith, misfit_log k z))
