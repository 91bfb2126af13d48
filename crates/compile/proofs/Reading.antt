-- What the instructions of a text make is what reading the text comes to.
use Prim.Native.Nat.{ℕ, min}
use mathlib.Core.Path.{◌≡◌, refl, ap, sym, ◌∙◌}
use mathlib.Core.Bool.{Bool, true, false, cond}
use mathlib.Core.List.{List}
use native.Mathlib.Omega.{arith}
use lib.ListN.{length, take}
use lib.Seq.{take_all}
use lib.Dec.{leb}
use borrow.Author.Tests.{ne_eqb, eq-eqb}
use Rattle.sheet.specs.Questions.{empty_table}
use Rattle.formula.specs.Limits.{formula_limit}
use Rattle.formula.specs.Formula.{Formula}
use Rattle.formula.specs.Grammar.{Writes}
use Rattle.formula.specs.Parse.{Got, ok, bad, deep, parsed}
use Rattle.formula.specs.Numbering.{table_of}
use Rattle.formula.specs.Outcome.{Read, accepted, refused, asked, steps_plain, fits_sheet, read_formula}
use Rattle.formula.specs.Code.{code}
use Rattle.formula.proofs.Places.{read_iff, parsed_end}
use Rattle.formula.proofs.Given.{writes_facts}
use Rattle.parsing.specs.declared.refusal.FormulaRefusal.{FormulaRefusal}
use Rattle.parsing.specs.declared.refusal.FormulaRefusal.TheVariants.{TooLarge}
use Rattle.parsing.specs.Written as coded
use Rattle.parsing.specs.Written.{Coded, code_limit, coded_by, coded_of, text_code}
use Rattle.std.specs.Prelude.{Option, Some, None, Ok, Err}
use Rattle.std.specs.Option.{ok_or}
use Rattle.aldlf.specs.declared.Table.{Table}
use Rattle.making.specs.Run.{Making, run, first_bench, making_of, making_by}
use Rattle.making.proofs.Request.{made_is}
use Rattle.compile.specs.Answers.{FormulaAnswer, answer_by, answer_of, read_made, formula_answer}

-- what instructions make
unfoldable pub made_by : List ℕ → Making
made_by xs = making_of (run xs first_bench).made

-- what an answer of the first part comes to
abbrev read_coded : Coded → Read
read_coded (coded.coded xs) = read_made (made_by xs)
read_coded (coded.refused n p) = refused n p

-- a table that was made, or 53
abbrev made_result : Option Table → FormulaAnswer
made_result m = answer_by (ok_or m TooLarge)

made_option : (m : Option Table) → made_result m ≡ answer_of (read_made (making_by m))
made_option None = refl
made_option (Some t) = refl

module _ (text : List ℕ) where
  made_read : (a : Formula) → Writes a text → read_made (made_by (code a)) ≡ cond (fits_sheet a) (accepted (table_of a)) (refused 53 0)
  unfolding made_by
  made_read a w = ap read_made (made_is a (writes_facts a text w)) ∙ go (fits_sheet a)
    where
      go : (y : Bool) → read_made (cond y (record { fits = true; table = table_of a }) (record { fits = false; table = empty_table })) ≡ cond y (accepted (table_of a)) (refused 53 0)
      go true = refl
      go false = refl

  asked_is : (g : Got Formula) → parsed text ≡ g → read_coded (coded_by g) ≡ asked g
  asked_is (ok a at) e = go (steps_plain a)
    where
      at_end : at ≡ length text
      at_end = parsed_end text a at e

      writes : Writes a text
      writes = ((read_iff text a).0 (e ∙ ap (λ (z : ℕ). ok a z) at_end)).0

      go : (y : Bool) → read_coded (cond y (coded.coded (code a)) (coded.refused 54 0)) ≡ cond y (cond (fits_sheet a) (accepted (table_of a)) (refused 53 0)) (refused 54 0)
      go true = made_read a writes
      go false = refl
  asked_is (bad at) e = refl
  asked_is (deep at) e = refl

  pub text_read : read_coded (text_code text) ≡ read_formula text
  unfolding text_code read_formula
  text_read = go (leb (length text) formula_limit) (asked_is (parsed text) refl)
    where
      go : (y : Bool) → read_coded (coded_by (parsed text)) ≡ asked (parsed text) → read_coded (cond y (coded_by (parsed text)) (coded.refused 50 0)) ≡ cond y (asked (parsed text)) (refused 50 0)
      go true e = e
      go false e = refl

  module _ (out : List ℕ) where
    pub is_refused : (r : FormulaRefusal) → coded_of (Err r) out ≡ text_code text → answer_by (Err r) ≡ formula_answer text
    unfolding coded_of formula_answer
    is_refused r h = ap (λ (z : Coded). answer_of (read_coded z)) h ∙ ap answer_of text_read

    pub is_coded : (l n : ℕ) (m : Option Table) → coded_of (Ok l) out ≡ text_code text → length out ≡ code_limit → n ≡ min l code_limit → making_by m ≡ made_by (take n out) → made_result m ≡ formula_answer text
    unfolding coded_of formula_answer
    is_coded l n m h size e f =
        made_option m
        ∙ ap (λ (x : Making). answer_of (read_made x)) (f ∙ ap made_by (taken e))
        ∙ ap (λ (x : Coded). answer_of (read_coded x)) h ∙ ap answer_of text_read
      where
        taken : n ≡ min l code_limit → take n out ≡ take l out
        taken e = pick (leb l code_limit) refl
          where
            pick : (y : Bool) → leb l code_limit ≡ y → take n out ≡ take l out
            pick true q = let b = borrow.Author.Tests.leb-true l code_limit q in ap (λ (x : ℕ). take x out) (let i : n ≡ l = omega arith in i)
            pick false q = let b = borrow.Author.Tests.leb-false l code_limit q in take_all n out (omega arith) ∙ sym (take_all l out (omega arith))
