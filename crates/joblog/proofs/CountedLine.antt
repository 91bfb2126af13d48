-- The questions of a line with a counter, each by its answer; and by which numbers a line of either form is refused.
use Rattle.std.proofs.Common.{◌≡◌, ℕ, ◌<◌, ◌≤◌, Bool, true, false, not, ◌&&◌, eqb, ltb, List, [], ◌∷◌, length, sym, refl, ap, ◌∙◌, arith, ltb-true, le-ltb, lt-ltb, eq-eqb, ne_eqb, eqb-true}
use mathlib.Core.Bool.{and-false}
use borrow.Author.Tests.{eqb-false}
use Rattle.aldlf.specs.Outcomes.{first_no}
use Rattle.text.specs.Text.{comma, up_to}
use Rattle.joblog.specs.Log.{Facts, NotNumbers, TooLarge, NotRising, Word, question_of}
use Rattle.joblog.specs.Counted.{counter_limit, counter_at, facts_at, are_numbers, follows, counted_question}
use Rattle.joblog.specs.Steps.{facts_by, question_by}

four_asked : (a b c d x y z w : Bool) (q : ℕ) → a ≡ x → b ≡ y → c ≡ z → d ≡ w → first_no ((a, 24) ∷ (b, 28) ∷ (c, 29) ∷ (d, q) ∷ []) ≡ first_no ((x, 24) ∷ (y, 28) ∷ (z, 29) ∷ (w, q) ∷ [])
four_asked a b c d x y z w q e f g h =
    ap (λ (t : Bool). first_no ((t, 24) ∷ (b, 28) ∷ (c, 29) ∷ (d, q) ∷ [])) e ∙ ap (λ (t : Bool). first_no ((x, 24) ∷ (t, 28) ∷ (c, 29) ∷ (d, q) ∷ [])) f
    ∙ ap (λ (t : Bool). first_no ((x, 24) ∷ (y, 28) ∷ (t, 29) ∷ (d, q) ∷ [])) g ∙ ap (λ (t : Bool). first_no ((x, 24) ∷ (y, 28) ∷ (z, 29) ∷ (t, q) ∷ [])) h

last_asked : (q : ℕ) (t : Bool) → eqb q 0 ≡ t → q ≡ first_no ((t, q) ∷ [])
last_asked q true e = eqb-true q 0 e
last_asked q false e = refl

module _ (due : ℕ) (l : List ℕ) where
  abbrev q : ℕ
  q = question_of (facts_at l)

  abbrev has : Bool
  has = ltb (up_to comma l) (length l) && are_numbers (facts_at l)

  asked : (x y z w : Bool) → has ≡ x → ltb (counter_at l) counter_limit ≡ y → follows due (counter_at l) ≡ z → eqb q 0 ≡ w → counted_question due l ≡ first_no ((x, 24) ∷ (y, 28) ∷ (z, 29) ∷ (w, q) ∷ [])
  unfolding counted_question
  asked x y z w e f g h = four_asked has (ltb (counter_at l) counter_limit) (follows due (counter_at l)) (eqb q 0) x y z w q e f g h

  -- the code's answers are the definition's
  no_24 : has ≡ false → 24 ≡ counted_question due l
  no_24 h = sym (asked false (ltb (counter_at l) counter_limit) (follows due (counter_at l)) (eqb q 0) h refl refl refl)

  pub line_24 : up_to comma l ≡ length l → 24 ≡ counted_question due l
  line_24 h = no_24 (rw (le-ltb (up_to comma l) (length l) (omega arith)))

  pub facts_24 : q ≡ 24 → 24 ≡ counted_question due l
  facts_24 h = no_24 (ap (λ (t : Bool). ltb (up_to comma l) (length l) && not t) (eq-eqb q 24 h) ∙ and-false (ltb (up_to comma l) (length l)))

  module _ (comma< : up_to comma l < length l) (n24 : q ≡ 24 → ⊥) where
    yes_24 : has ≡ true
    yes_24 = rw (lt-ltb (up_to comma l) (length l) comma<, ne_eqb q 24 n24)

    pub line_28 : counter_limit ≤ counter_at l → 28 ≡ counted_question due l
    line_28 h = sym (asked true false (follows due (counter_at l)) (eqb q 0) yes_24 (le-ltb (counter_at l) counter_limit h) refl refl)

    module _ (small : counter_at l < counter_limit) where
      pub line_29 : follows due (counter_at l) ≡ false → 29 ≡ counted_question due l
      line_29 h = sym (asked true true false (eqb q 0) yes_24 (lt-ltb (counter_at l) counter_limit small) h refl)

      pub line_facts : follows due (counter_at l) ≡ true → q ≡ counted_question due l
      line_facts h = last_asked q (eqb q 0) refl ∙ sym (asked true true true (eqb q 0) yes_24 (lt-ltb (counter_at l) counter_limit small) h refl)

-- a line that gets no no has a comma, a counter, the one due, and facts that get none
pub record Yes (due : ℕ) (l : List ℕ) : Type 0 where
  pub parted : up_to comma l < length l
  pub counter : counter_at l < counter_limit
  pub next : follows due (counter_at l) ≡ true
  pub facts : question_of (facts_at l) ≡ 0

four_yes : (a b c d e : Bool) (q : ℕ) → eqb q 0 ≡ e → first_no ((a && b, 24) ∷ (c, 28) ∷ (d, 29) ∷ (e, q) ∷ []) ≡ 0 → (a ≡ true) × (c ≡ true) × (d ≡ true) × (e ≡ true)
four_yes true true true true true q i h = (refl, refl, refl, refl)
four_yes true true true true false q i h = absurd (eqb-false q 0 i h)
four_yes true true true false e q i h = absurd (omega arith)
four_yes true true false d e q i h = absurd (omega arith)
four_yes true false c d e q i h = absurd (omega arith)
four_yes false b c d e q i h = absurd (omega arith)

pub question_yes : (due : ℕ) (l : List ℕ) → counted_question due l ≡ 0 → Yes due l
unfolding counted_question
question_yes due l h =
    let q = question_of (facts_at l) in
    let y = four_yes (ltb (up_to comma l) (length l)) (are_numbers (facts_at l)) (ltb (counter_at l) counter_limit) (follows due (counter_at l)) (eqb q 0) q refl h in
    record { parted = ltb-true (up_to comma l) (length l) y.0; counter = ltb-true (counter_at l) counter_limit y.1; next = y.2; facts = eqb-true q 0 y.3 }

-- a number that a line of either form gets a no from: at most 29, and not 27
abbrev pub OfLine : ℕ → Type 0
OfLine q = (q ≤ 29) × (q ≡ 27 → ⊥)

of_line : (q : ℕ) → q ≤ 26 → OfLine q
of_line q h = (omega arith, λ z. omega arith)

facts_asked : (f : Facts) → OfLine (question_of f)
facts_asked NotNumbers = of_line 24 (omega arith)
facts_asked TooLarge = of_line 25 (omega arith)
facts_asked NotRising = of_line 26 (omega arith)
facts_asked (Word w) = of_line 0 (omega arith)

first_asked : (a b c d : Bool) (q : ℕ) → OfLine q → OfLine (first_no ((a, 24) ∷ (b, 28) ∷ (c, 29) ∷ (d, q) ∷ []))
first_asked false b c d q h = of_line 24 (omega arith)
first_asked true false c d q h = (omega arith, λ z. omega arith)
first_asked true true false d q h = (omega arith, λ z. omega arith)
first_asked true true true false q h = h
first_asked true true true true q h = of_line 0 (omega arith)

pub line_asked : (form : Bool) (due : ℕ) (l : List ℕ) → OfLine (question_by form due l)
unfolding counted_question
line_asked false due l = facts_asked (facts_by false l)
line_asked true due l =
    let q = question_of (facts_at l) in
    first_asked (ltb (up_to comma l) (length l) && are_numbers (facts_at l)) (ltb (counter_at l) counter_limit) (follows due (counter_at l)) (eqb q 0) q (facts_asked (facts_at l))
