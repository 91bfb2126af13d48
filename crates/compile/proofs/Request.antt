-- What the call's answer says of the text, and of the sheet that it gives, for every text: the answer that is meant is one, and the theorems about it are those of crate `formula`.
use Prim.Native.Nat.{ℕ, ◌<◌}
use mathlib.Core.Path.{◌≡◌, refl, ap, sym, ◌∙◌}
use mathlib.Core.Bool.{true}
use mathlib.Core.List.{List}
use native.Mathlib.Omega.{arith}
use Rattle.formula.specs.Formula.{Formula}
use Rattle.formula.specs.Numbering.{table_of}
use Rattle.formula.specs.Outcome.{Read, accepted, refused, steps_plain, fits_sheet, read_formula}
use Rattle.formula.specs.Answer.{Asked, Meant, long, misplaced, nested, stray, large, fitting}
use Rattle.formula.proofs.Outcomes.{outcome_iff, read_given, read_agrees, read_verdict}
use Rattle.compile.specs.Answers.{answer_of, formula_answer}
use Rattle.compile.specs.Right.{FormulaRight}

module _ (text : List ℕ) where
  -- number 0 stands beside a table alone
  refused_not : {A : Type 0} (q : Read) (n p : ℕ) → 0 < n → q ≡ refused n p → (answer_of q).number ≡ 0 → A
  refused_not q n p l e z = absurd (let h : (answer_of q).number ≡ n = ap (λ (x : Read). (answer_of x).number) e in omega arith)

  accepted_is : (q : Read) → Meant text q → (answer_of q).number ≡ 0 → q ≡ accepted (answer_of q).table
  accepted_is q (long e l) z = refused_not q 50 0 (omega arith) e z
  accepted_is q (misplaced x e l b) z = refused_not q 51 x (omega arith) e z
  accepted_is q (nested x e l d) z = refused_not q 52 0 (omega arith) e z
  accepted_is q (stray a e w p) z = refused_not q 54 0 (omega arith) e z
  accepted_is q (large a e w p f) z = refused_not q 53 0 (omega arith) e z
  accepted_is q (fitting a e w p f) z = e ∙ ap accepted (sym (ap (λ (x : Read). (answer_of x).table) e))

  abbrev Fitting : Type 0
  Fitting = (a : Formula) × Asked text a × (steps_plain a ≡ true) × (fits_sheet a ≡ true)

  fitting_is : (q : Read) → Meant text q → (answer_of q).number ≡ 0 → Fitting
  fitting_is q (long e l) z = refused_not q 50 0 (omega arith) e z
  fitting_is q (misplaced x e l b) z = refused_not q 51 x (omega arith) e z
  fitting_is q (nested x e l d) z = refused_not q 52 0 (omega arith) e z
  fitting_is q (stray a e w p) z = refused_not q 54 0 (omega arith) e z
  fitting_is q (large a e w p f) z = refused_not q 53 0 (omega arith) e z
  fitting_is q (fitting a e w p f) z = (a, w, p, f)

  -- a number is a byte, a place two
  small_is : (q : Read) (n p : ℕ) → n < 256 → p < 65536 → q ≡ refused n p → ((answer_of q).number < 256) × ((answer_of q).place < 65536)
  small_is q n p l m e =
      let h : (answer_of q).number ≡ n = ap (λ (x : Read). (answer_of x).number) e in
      let k : (answer_of q).place ≡ p = ap (λ (x : Read). (answer_of x).place) e in
      (omega arith, omega arith)

  meant_small : (q : Read) → Meant text q → ((answer_of q).number < 256) × ((answer_of q).place < 65536)
  meant_small q (long e l) = small_is q 50 0 (omega arith) (omega arith) e
  meant_small q (misplaced x e l b) = small_is q 51 x (omega arith) (omega (arith, b.inside)) e
  meant_small q (nested x e l d) = small_is q 52 0 (omega arith) (omega arith) e
  meant_small q (stray a e w p) = small_is q 54 0 (omega arith) (omega arith) e
  meant_small q (large a e w p f) = small_is q 53 0 (omega arith) (omega arith) e
  meant_small q (fitting a e w p f) =
      let h : (answer_of q).number ≡ 0 = ap (λ (x : Read). (answer_of x).number) e in
      let k : (answer_of q).place ≡ 0 = ap (λ (x : Read). (answer_of x).place) e in
      (omega arith, omega arith)

  is_meant : Meant text (read_formula text)
  is_meant = (outcome_iff text (read_formula text)).0 refl

  -- THE CALL'S ANSWER IS RIGHT, OF EVERY TEXT
  pub formula_right : FormulaRight text (formula_answer text)
  unfolding formula_answer
  formula_right =
      record {
        meant = λ q m. ap answer_of ((outcome_iff text q).1 m);
        some = (read_formula text, is_meant);
        accepts = (
          fitting_is (read_formula text) is_meant,
          λ f. ap (λ (x : Read). (answer_of x).number) ((outcome_iff text (accepted (table_of f.0))).1 (fitting f.0 refl f.1 f.2 f.3)),
        );
        given = λ z. read_given text _ (accepted_is (read_formula text) is_meant z);
        agrees = λ z a w log i. read_agrees text _ a (accepted_is (read_formula text) is_meant z) w log i;
        judged = λ z a w log i l. read_verdict text _ a (accepted_is (read_formula text) is_meant z) w log i l;
      }

  pub answer_small : ((formula_answer text).number < 256) × ((formula_answer text).place < 65536)
  unfolding formula_answer
  answer_small = meant_small (read_formula text) is_meant
