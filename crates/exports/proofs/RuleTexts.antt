-- The call that prints a rule: the part of the slice that is lent has at most as many places as an answer can say, and the answer is the definition's.
use Prim.Native.Nat.{ℕ, ◌≤◌, ◌<◌, min}
use mathlib.Core.Path.{◌≡◌, ap, ap₂, sym, ◌∙◌}
use mathlib.Core.Logic.{⊎_elim}
use mathlib.Core.Bool.{Bool, true, false, cond}
use mathlib.Core.List.{List, ◌++◌}
use native.Mathlib.Omega.{arith}
use lib.ListN.{length, take, drop, length-take, drop_of_length-le}
use lib.Seq.{take_all}
use Rattle.aldlf.specs.Sheet.{Sheet, sheet_of}
use Rattle.aldlf.proofs.Bools.{lt-or-le}
use Rattle.sheet.specs.Given.{well_formed}
use Rattle.appending.specs.Placed.{Printed, unprinted, placed}
use Rattle.appending.proofs.Placed.{placed-count}
use Rattle.printing.specs.Print.{rule_text, print_outcome}
use Rattle.crossing.specs.Numbers.{table_of}
use Rattle.exports.specs.Answers.{outcome}
use Rattle.exports.specs.RuleTexts.{longest, length_code, rule_in, rule_printed}

-- no text that was printed is longer than the buffer
printed_few : (given : Bool) (S : Sheet) (lent : List ℕ) → (print_outcome given S lent).count ≤ length lent
unfolding print_outcome
printed_few given S lent = go given
  where
    go : (b : Bool) → (cond b (placed 55 (rule_text S) lent) (unprinted 31 lent)).count ≤ length lent
    go true = (placed-count 55 (rule_text S) lent).0
    go false = omega arith

module _ (table text after : List ℕ) (room : ℕ) (q n : ℕ) (is : room ≡ min longest (length text)) where
  lent_is : take room text ≡ take longest text
  lent_is = ⊎_elim
      (λ (h : length text < longest). take_all room text (omega arith) ∙ sym (take_all longest text (omega arith)))
      (λ h. let e : room ≡ longest = omega arith in ap (λ (n : ℕ). take n text) e)
      (lt-or-le (length text) longest)

  rest_is : drop room text ≡ drop longest text
  rest_is = ⊎_elim
      (λ (h : length text < longest). drop_of_length-le text {i = room} (omega arith) ∙ sym (drop_of_length-le text {i = longest} (omega arith)))
      (λ h. let e : room ≡ longest = omega arith in ap (λ (n : ℕ). drop n text) e)
      (lt-or-le (length text) longest)

  module _ (ends : ◌≡◌ {A = Printed} (record { number = q; count = n; buffer = after }) (print_outcome (well_formed (table_of table)) (sheet_of (table_of table)) (take room text))) where
    pub rule_length : n ≤ longest
    rule_length = omega (arith, ap (λ (p : Printed). p.count) ends, printed_few (well_formed (table_of table)) (sheet_of (table_of table)) (take room text), length-take room text)

    pub rule_is : (a : ℕ) → a ≡ length_code q n → outcome a (after ++ drop room text) ≡ rule_printed table text
    unfolding rule_printed
    rule_is a e =
        ap (λ (x : ℕ). outcome x (after ++ drop room text)) e
        ∙ ap (rule_in (drop room text)) ends
        ∙ ap₂ (λ (l d : List ℕ). rule_in d (print_outcome (well_formed (table_of table)) (sheet_of (table_of table)) l)) lent_is rest_is
