-- A formula's table put into a lent slice: question 35 first, then the reader's own answer. And THE FORMULA ACROSS THE BOUNDARY: where
-- `rozsvelen_read_formula` accepts, the table that the numbers then give is the one that the text reads to.
use Prim.Native.Nat.{ℕ}
use native.Mathlib.Omega.{arith}
use mathlib.Core.Path.{◌≡◌, refl, sym, ap, ◌∙◌}
use mathlib.Core.Logic.{⊎_elim}
use mathlib.Core.List.{List}
use lib.ListN.{length}
use borrow.Author.Tests.{eq-eqb, ne_eqb}
use Rattle.sheet.proofs.Bools.{same}
use Rattle.sheet.proofs.Question31.{well_formed_iff}
use Rattle.compile.specs.Answers.{FormulaAnswer, formula_answer}
use Rattle.compile.proofs.Request.{formula_right}
use Rattle.crossing.specs.Numbers.{table_size, table_numbers, table_of}
use Rattle.crossing.proofs.GivenTables.{given_crosses}
use Rattle.exports.specs.Answers.{answer_code, accepted, refusal, Outcome, outcome}
use Rattle.exports.specs.FormulaTexts.{formula_into, formula_read}
use Rattle.exports.proofs.Sheets.{short_is, long_is}

-- a formula's outcome: refused, and put
module _ (lent : List ℕ) (f : FormulaAnswer) where
  into_refused : (f.number ≡ 0 → ⊥) → outcome (answer_code f.number 0 0 f.place) lent ≡ formula_into lent f
  into_refused n = rw (ne_eqb f.number 0 n)

  into_put : f.number ≡ 0 → outcome (accepted 0) (table_numbers f.table) ≡ formula_into lent f
  into_put n = rw (eq-eqb f.number 0 n)

module _ (text table : List ℕ) where
  pub formula_short : (a : ℕ) → (length table ≡ table_size → ⊥) → a ≡ refusal 35 → outcome a table ≡ formula_read text table
  unfolding formula_read
  formula_short a h e = short_is table_size table _ a h e

  module _ (f : FormulaAnswer) (a : ℕ) (h : length table ≡ table_size) (is : f ≡ formula_answer text) where
    formula_is : formula_read text table ≡ formula_into table f
    unfolding formula_read
    formula_is = long_is table_size table _ h ∙ ap (formula_into table) (sym is)

    pub formula_refused : (f.number ≡ 0 → ⊥) → a ≡ answer_code f.number 0 0 f.place → outcome a table ≡ formula_read text table
    formula_refused n e = ap (λ (r : ℕ). outcome r table) e ∙ into_refused table f n ∙ sym formula_is

    pub formula_put : (after : List ℕ) → f.number ≡ 0 → a ≡ accepted 0 → after ≡ table_numbers f.table → outcome a after ≡ formula_read text table
    formula_put after n e w =
        ap (λ (r : ℕ). outcome r after) e ∙ ap (outcome (accepted 0)) w ∙ into_put table f n ∙ sym formula_is

-- an answer of no count and about no line that is an acceptance has number 0
number_0 : (q place : ℕ) → answer_code q 0 0 place ≡ accepted 0 → q ≡ 0
unfolding answer_code
number_0 q place e = omega (arith, e)

module _ (text table : List ℕ) where
  abbrev f : FormulaAnswer
  f = formula_answer text

  -- an accepted call has asked 35 and what the reader asks, and puts the table's numbers
  pub formula_accepted : (formula_read text table).answer ≡ accepted 0 → (f.number ≡ 0) × ((formula_read text table).slice ≡ table_numbers f.table)
  unfolding formula_read
  formula_accepted e = ⊎_elim
      (λ (h : length table ≡ table_size).
      let is = long_is table_size table (formula_into table f) h in
      ⊎_elim
      (λ (z : f.number ≡ 0). (z, ap (λ (o : Outcome). o.slice) (is ∙ sym (into_put table f z))))
      (λ n. absurd (n (number_0 f.number f.place (ap (λ (o : Outcome). o.answer) (into_refused table f n ∙ sym is) ∙ e))))
      (same f.number 0))
      (λ h.
      let w : ◌≡◌ {A = ℕ} 35 0 = number_0 35 0 (ap (λ (o : Outcome). o.answer) (short_is table_size table (formula_into table f) (refusal 35) h refl) ∙ e) in
      absurd (omega arith))
      (same (length table) table_size)

  -- question 31 accepts the table of an accepted text, so it crosses whole
  pub boundary_formula : (formula_read text table).answer ≡ accepted 0 → table_of (formula_read text table).slice ≡ f.table
  boundary_formula e =
      let p = formula_accepted e in
      ap table_of p.1 ∙ given_crosses f.table ((well_formed_iff f.table).0 ((formula_right text).given p.0))
