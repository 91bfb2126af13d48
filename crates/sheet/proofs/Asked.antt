-- Questions 3 to 9 in the terms of the code's branches: an answer cites one of these laws.
use Prim.Native.Nat.{ℕ, ◌+◌, ◌^◌, ◌≤◌, ◌<◌}
use mathlib.Core.Path.{◌≡◌, refl, ap, sym, ◌∙◌}
use mathlib.Core.List.{List, [], ◌∷◌}
use mathlib.Core.Bool.{Bool, true, false, not, ◌&&◌}
use mathlib.Core.Logic.{◌⊎◌, inl, inr}
use native.Mathlib.Numerals.{add-one}
use native.Mathlib.Nat.{div-eq_of_lt, lt_of_lt_of_le}
use lib.Pow.{pow_mono}
use lib.ListN.{length, get_or, drop, set, replicate, length-set, get_or-eq_default, drop_of_length-le}
use lib.Seq.{drop-cons}
use borrow.Author.Tests.{ne_eqb, not-true, not-false}
use Rattle.aldlf.specs.Constants.{node_limit, letter_t, letter_f, letter_p, letter_n, letter_a, letter_o}
use Rattle.aldlf.specs.Sheet.{bit, no_line}
use Rattle.aldlf.specs.declared.NodeLine.{NodeLine}
use Rattle.sheet.specs.declared.line.Line.{Line}
use Rattle.sheet.specs.declared.build.Reading.{Reading}
use Rattle.sheet.specs.Answers.{Stop}
use Rattle.sheet.specs.Ranges.{stop_at, going_on, out_of_range}
use Rattle.sheet.specs.Questions.{known_line, all_numbers, room_left, belongs, last, newly_accepting, plain_node, plain_from, plains, plain_step, question}

-- what the outcome of a test that a function answers says of the test
pub yes_is : {r b : Bool} → r ≡ b → not r ≡ false → b ≡ true
yes_is {r} e h = sym e ∙ not-false r h

pub no_is : {r b : Bool} → r ≡ b → not r ≡ true → b ≡ false
no_is {r} e h = sym e ∙ not-true r h

pub clear_beyond : (w a : ℕ) → w < 2 ^ 16 → 16 ≤ a → true ≡ not (bit w a)
clear_beyond w a h k = rw (div-eq_of_lt (lt_of_lt_of_le h (pow_mono k)))

pub flag_none : (p : List Bool) (k : ℕ) → length p ≤ k → false ≡ get_or p k false
flag_none p k h = sym (get_or-eq_default p false h)

-- a node by its letter, where p says which of the nodes before it are plain
module _ (p : List Bool) (x : NodeLine) where
  pub plain_leaf : (x.kind ≡ letter_f) ⊎ ((x.kind ≡ letter_p) ⊎ (x.kind ≡ letter_t)) → true ≡ plain_node p x
  plain_leaf (inl e) = rw e
  plain_leaf (inr (inl e)) = rw e
  plain_leaf (inr (inr e)) = rw e

  pub plain_not : x.kind ≡ letter_n → get_or p x.a false ≡ plain_node p x
  plain_not e = rw e

  pub plain_two : (x.kind ≡ letter_a) ⊎ (x.kind ≡ letter_o) → (get_or p x.a false && get_or p x.b false) ≡ plain_node p x
  plain_two (inl e) = rw e
  plain_two (inr e) = rw e

  pub plain_other : ((x.kind ≡ letter_f) ⊎ ((x.kind ≡ letter_p) ⊎ (x.kind ≡ letter_t)) → ⊥) → (x.kind ≡ letter_n → ⊥) → ((x.kind ≡ letter_a) ⊎ (x.kind ≡ letter_o) → ⊥) → false ≡ plain_node p x
  plain_other a b c =
      simp (
        ne_eqb x.kind letter_f (λ e. a (inl e)),
        ne_eqb x.kind letter_p (λ e. a (inr (inl e))),
        ne_eqb x.kind letter_t (λ e. a (inr (inr e))),
        ne_eqb x.kind letter_n b,
        ne_eqb x.kind letter_a (λ e. c (inl e)),
        ne_eqb x.kind letter_o (λ e. c (inr e)),
      )

-- the nodes one after the other
pub plains_on : (xs : List NodeLine) (i : ℕ) (p : List Bool) → i < length xs → plain_from (drop i xs) i p ≡ plain_from (drop (i + 1) xs) (i + 1) (set p i (plain_node p (get_or xs i no_line)))
unfolding plain_from
plains_on xs i p h = rw (drop-cons xs i no_line h) (ap (λ (k : ℕ). plain_from (drop k xs) (i + 1) (set p i (plain_node p (get_or xs i no_line)))) (sym (add-one i)))

pub plains_end : (xs : List NodeLine) (i : ℕ) (p : List Bool) → length xs ≤ i → plain_from (drop i xs) i p ≡ p
unfolding plain_from
plains_end xs i p h = rw (drop_of_length-le xs h)

pub from_length : (xs : List NodeLine) (i : ℕ) (p : List Bool) → length (plain_from xs i p) ≡ length p
unfolding plain_from
from_length [] i p = refl
from_length (x ∷ xs) i p = from_length xs (i + 1) (set p i (plain_node p x)) ∙ length-set p i (plain_node p x)

pub plains-length : (xs : List NodeLine) → length (plains xs) ≡ node_limit
plains-length xs = from_length xs 0 (replicate node_limit false)

-- the question that decides
module _ (r : Reading) (l : Line) where
  pub question_3 : known_line l ≡ false → stop_at 3 0 ≡ question r l
  unfolding question
  question_3 h₃ = rw h₃

  module _ (h₃ : known_line l ≡ true) where
    pub question_4 : all_numbers l ≡ false → stop_at 4 0 ≡ question r l
    unfolding question
    question_4 h₄ = rw (h₃, h₄)

    module _ (h₄ : all_numbers l ≡ true) where
      pub question_5 : room_left r.table.used l ≡ false → stop_at 5 0 ≡ question r l
      unfolding question
      question_5 h₅ = rw (h₃, h₄, h₅)

      module _ (h₅ : room_left r.table.used l ≡ true) where
        pub question_6 : belongs r.inside l ≡ false → stop_at 6 0 ≡ question r l
        unfolding question
        question_6 h₆ = rw (h₃, h₄, h₅, h₆)

        module _ (h₆ : belongs r.inside l ≡ true) where
          pub question_7 : (s : Stop) → s ≡ out_of_range r.table.used (last r.table) l → (s.number ≡ 0 → ⊥) → s ≡ question r l
          unfolding question
          question_7 s e n = rw (h₃, h₄, h₅, h₆, ← e, ne_eqb s.number 0 n)

          module _ (h₇ : (out_of_range r.table.used (last r.table) l).number ≡ 0) where
            pub question_8 : newly_accepting (last r.table) l ≡ false → stop_at 8 0 ≡ question r l
            unfolding question
            question_8 h₈ = rw (h₃, h₄, h₅, h₆, h₇, h₈)

            module _ (h₈ : newly_accepting (last r.table) l ≡ true) where
              pub question_9 : plain_step r.table.nodes l ≡ false → stop_at 9 0 ≡ question r l
              unfolding question
              question_9 h₉ = rw (h₃, h₄, h₅, h₆, h₇, h₈, h₉)

              pub question_0 : plain_step r.table.nodes l ≡ true → going_on ≡ question r l
              unfolding question
              question_0 h₉ = rw (h₃, h₄, h₅, h₆, h₇, h₈, h₉)

              pub question_passes : plain_step r.table.nodes l ≡ true → (question r l).number ≡ 0
              question_passes h₉ = ap (λ (s : Stop). s.number) (sym (question_0 h₉))
