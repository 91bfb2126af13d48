-- Question 7: where it stops at no field, each is of its kind; where it stops, it is at the leftmost that is not. By induction over the fields.
use Prim.Native.Nat.{ℕ, zero, suc, ◌+◌, ◌≤◌, ◌<◌}
use mathlib.Core.Path.{◌≡◌, refl, subst}
use mathlib.Core.Logic.{◌⊎◌, inl, inr, ⊎_elim}
use mathlib.Core.List.{List, [], ◌∷◌}
use mathlib.Core.Bool.{Bool, true, false, cond, ◌&&◌, ◌||◌}
use native.Mathlib.Omega.{arith}
use lib.ListN.{length, get_or}
use lib.Dec.{leb, eqb}
use borrow.Author.Tests.{leb-true}
use Rattle.aldlf.specs.Constants.{letter_p, letter_n, letter_a, letter_o, letter_d, letter_b, letter_m, letter_g, letter_e}
use Rattle.aldlf.specs.declared.Automaton.{Automaton}
use Rattle.aldlf.specs.declared.Used.{Used}
use Rattle.sheet.specs.declared.line.Line.{Line}
use Rattle.sheet.specs.Answers.{Stop}
use Rattle.sheet.specs.Ranges.{a_fact, a_count, is_of_kind, kinds, numbers_of, states_on, stop_at, going_on, first_wrong, out_of_range}
use Rattle.sheet.proofs.Bools.{both}

-- numbers and the kinds that they have to be of
module _ (fits : ℕ → ℕ → Bool) where
  abbrev FitsIn : List ℕ → List ℕ → ℕ → Bool → Type 0
  FitsIn ks ns i b = fits (get_or ks i 0) (get_or ns i 0) ≡ b

  -- it stops at the first that does not fit, the fields being counted from f
  pub record StopsAt (f : ℕ) (ks ns : List ℕ) (s : Stop) : Type 0 where
    pub place : ℕ
    pub there : place < length ks
    pub number : s.number ≡ get_or ks place 0
    pub field : s.field ≡ f + place
    pub wrong : FitsIn ks ns place false
    pub left : (j : ℕ) → j < place → FitsIn ks ns j true

  -- or all fit
  pub record Passes (ks ns : List ℕ) (s : Stop) : Type 0 where
    pub goes_on : s ≡ going_on
    pub all : (i : ℕ) → i < length ks → FitsIn ks ns i true

  -- one field more on the left
  module _ (f k n : ℕ) (ks ns : List ℕ) where
    later : fits k n ≡ true → {s : Stop} → StopsAt (f + 1) ks ns s → StopsAt f (k ∷ ks) (n ∷ ns) s
    later e a = record { place = suc a.place; there = omega (arith, a.there); number = a.number; field = omega (arith, a.field); wrong = a.wrong; left = left }
      where
        left : (j : ℕ) → j < suc a.place → FitsIn (k ∷ ks) (n ∷ ns) j true
        left zero h = e
        left (suc j) h = a.left j (omega arith)

    more : fits k n ≡ true → {s : Stop} → Passes ks ns s → Passes (k ∷ ks) (n ∷ ns) s
    more e p = record { goes_on = p.goes_on; all = all }
      where
        all : (i : ℕ) → i < suc (length ks) → FitsIn (k ∷ ks) (n ∷ ns) i true
        all zero h = e
        all (suc i) h = p.all i (omega arith)

    here : fits k n ≡ false → StopsAt f (k ∷ ks) (n ∷ ns) (stop_at k f)
    here e = record { place = 0; there = omega arith; number = refl; field = omega arith; wrong = e; left = λ j h. absurd (omega arith) }

    one_more : (s : Stop) → Passes ks ns s ⊎ StopsAt (f + 1) ks ns s → (b : Bool) → fits k n ≡ b
        → Passes (k ∷ ks) (n ∷ ns) (cond b s (stop_at k f)) ⊎ StopsAt f (k ∷ ks) (n ∷ ns) (cond b s (stop_at k f))
    one_more s (inl p) true e = inl (more e p)
    one_more s (inr a) true e = inr (later e a)
    one_more s c false e = inr (here e)

  pub first-wrong : (f : ℕ) (ks ns : List ℕ) → length ks ≤ length ns → let s = first_wrong fits f ks ns in Passes ks ns s ⊎ StopsAt f ks ns s
  unfolding first_wrong
  first-wrong f [] ns h = inl (record { goes_on = refl; all = λ i l. absurd (omega arith) })
  first-wrong f (k ∷ ks) [] h = absurd (omega arith)
  first-wrong f (k ∷ ks) (n ∷ ns) h = one_more f k n ks ns (first_wrong fits (f + 1) ks ns) (first-wrong (f + 1) ks ns (omega arith)) (fits k n) refl

-- each kind is one of 71 to 76, and a line has at most four
are_kinds : List ℕ → Bool
are_kinds [] = true
are_kinds (k ∷ ks) = (leb a_fact k && leb k a_count) && are_kinds ks

pick_kinds : (b : Bool) (x y : List ℕ) → (are_kinds x ≡ true) × (length x ≤ 4) → (are_kinds y ≡ true) × (length y ≤ 4) → (are_kinds (cond b x y) ≡ true) × (length (cond b x y) ≤ 4)
pick_kinds true x y p q = p
pick_kinds false x y p q = q

kinds_are : (l : ℕ) → (are_kinds (kinds l) ≡ true) × (length (kinds l) ≤ 4)
unfolding kinds are_kinds
kinds_are l =
    pick_kinds (eqb l letter_p) _ _ (refl, omega arith)
    (pick_kinds (eqb l letter_n) _ _ (refl, omega arith)
    (pick_kinds (eqb l letter_a || eqb l letter_o) _ _ (refl, omega arith)
    (pick_kinds (eqb l letter_d || eqb l letter_b) _ _ (refl, omega arith)
    (pick_kinds (eqb l letter_m) _ _ (refl, omega arith)
    (pick_kinds (eqb l letter_g) _ _ (refl, omega arith)
    (pick_kinds (eqb l letter_e) _ [] (refl, omega arith) (refl, omega arith)))))))

kind_at : (ks : List ℕ) (i : ℕ) → are_kinds ks ≡ true → i < length ks → (a_fact ≤ get_or ks i 0) × (get_or ks i 0 ≤ a_count)
unfolding are_kinds
kind_at [] i e h = absurd (omega arith)
kind_at (k ∷ ks) zero e h =
    let (x, y) = both (leb a_fact k) (leb k a_count) (both (leb a_fact k && leb k a_count) (are_kinds ks) e).0 in
    (leb-true a_fact k x, leb-true k a_count y)
kind_at (k ∷ ks) (suc i) e h = kind_at ks i (both (leb a_fact k && leb k a_count) (are_kinds ks) e).1 (omega arith)

-- the fields of a line
module _ (u : Used) (x : Automaton) (l : Line) where
  abbrev pub LineFits : ℕ → ℕ → Bool
  LineFits = is_of_kind u (states_on x l)

  abbrev pub LineStops : Stop → Type 0
  LineStops s = StopsAt LineFits 2 (kinds l.letter) (numbers_of l) s

  pub out_of_range_lem : Passes LineFits (kinds l.letter) (numbers_of l) (out_of_range u x l) ⊎ LineStops (out_of_range u x l)
  unfolding out_of_range
  out_of_range_lem = first-wrong LineFits 2 (kinds l.letter) (numbers_of l) (kinds_are l.letter).1

  -- where it stops, by a number from 71 to 76 and at a field from 2 to 5
  pub record Named (s : Stop) : Type 0 where
    pub from : a_fact ≤ s.number
    pub to : s.number ≤ a_count
    pub field≤ : s.field ≤ 5

  pub stops_named : (s : Stop) → LineStops s → Named s
  stops_named s a =
      let (few, most) = kinds_are l.letter in
      let (low, high) = kind_at (kinds l.letter) a.place few a.there in
      record { from = omega (arith, a.number); to = omega (arith, a.number); field≤ = omega (arith, a.field, a.there) }

  -- where it does not, all are in range; ks are the kinds
  pub all_in_range : (out_of_range u x l).number ≡ 0 → (ks : List ℕ) → kinds l.letter ≡ ks → (i : ℕ) → i < length ks → LineFits (get_or ks i 0) (get_or (numbers_of l) i 0) ≡ true
  all_in_range e ks k = subst (λ (ks : List ℕ). (i : ℕ) → i < length ks → LineFits (get_or ks i 0) (get_or (numbers_of l) i 0) ≡ true) k (⊎_elim (λ p. p.all) (λ a. absurd (omega (arith, (stops_named _ a).from))) out_of_range_lem)
