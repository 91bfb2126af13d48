-- 40,000 bytes take every page by a formula.
use Prim.Native.Nat.{ℕ, ◌≤◌}
use mathlib.Core.Path.{◌≡◌, refl, ap, sym, ◌∙◌}
use mathlib.Core.Logic.{⊎_elim}
use mathlib.Core.List.{List, ◌++◌}
use native.Mathlib.Omega.{arith}
use lib.ListN.{length, drop}
use Rattle.std.specs.Prelude.{Result, Ok, Err, IsOk}
use Rattle.aldlf.specs.Refusals.{refusal_number}
use Rattle.aldlf.specs.declared.Refusal.{Refusal}
use Rattle.appending.specs.Placed.{Printed, placed}
use Rattle.appending.proofs.Placed.{placed_fits, placed-count}
use Rattle.compile.specs.Answers.{formula_answer}
use Rattle.compile.proofs.Request.{answer_small}
use Rattle.report.specs.Page.{page_limit, printed_of}
use Rattle.lines.proofs.Lengths.{refusal_length}
use Rattle.sheet.proofs.Bools.{same}
use Rattle.report.proofs.Fits.{rule_page_fits}
use Rattle.formula_report.specs.FormulaPage.{formula_page_of, formula_page_outcome}
use Rattle.formula_report.proofs.Pages.{formula_refused, formula_read}

module _ (rule steps lent : List ℕ) where
  -- what a caller may take from an answer: the bytes are within the buffer
  pub formula_page_bytes : (after : List ℕ) (r : Result ℕ Refusal) → printed_of r after ≡ formula_page_outcome rule steps lent → (printed_of r after).count ≤ length lent
  unfolding formula_page_outcome
  formula_page_bytes after r e =
      let c : (printed_of r after).count ≡ (placed 44 (formula_page_of rule steps) lent).count = ap (λ (p : Printed). p.count) e in
      omega (arith, (placed-count 44 (formula_page_of rule steps) lent).0)

  pub formula_page_few : (after : List ℕ) (r : Result ℕ Refusal) (n : ℕ) → r ≡ Ok n → printed_of r after ≡ formula_page_outcome rule steps lent → n ≤ length lent
  formula_page_few after r n s e = formula_page_bytes after (Ok n) (ap (λ (x : Result ℕ Refusal). printed_of x after) (sym s) ∙ e)

  -- every page is within the limit
  pub formula_page_fits : length (formula_page_of rule steps) ≤ page_limit
  formula_page_fits =
      let a = formula_answer rule in
      ⊎_elim (λ (z : a.number ≡ 0). rw (formula_read rule steps z) (rule_page_fits a.table steps))
      (λ z. rw (formula_refused rule steps z) (omega (arith, refusal_length a.number a.place (omega (arith, (answer_small rule).0)) (omega (arith, (answer_small rule).1)))))
      (same a.number 0)

  module _ (h : page_limit ≤ length lent) where
    -- so a buffer of that many bytes takes it whole
    pub formula_page_whole : formula_page_outcome rule steps lent ≡ record { number = 0; count = length (formula_page_of rule steps); buffer = formula_page_of rule steps ++ drop (length (formula_page_of rule steps)) lent }
    unfolding formula_page_outcome
    formula_page_whole = placed_fits 44 (formula_page_of rule steps) lent (omega (arith, formula_page_fits))

    -- and is never refused
    pub formula_page_never_refused : (formula_page_outcome rule steps lent).number ≡ 44 → ⊥
    formula_page_never_refused e =
        let w : ◌≡◌ {A = ℕ} 0 44 = sym (ap (λ (p : Printed). p.number) formula_page_whole) ∙ e in
        absurd (omega arith)

    -- what a caller may take from an answer: there is no refusal
    pub formula_page_ok : (after : List ℕ) (r : Result ℕ Refusal) → printed_of r after ≡ formula_page_outcome rule steps lent → IsOk r
    formula_page_ok after (Ok n) e = refl
    formula_page_ok after (Err r) e =
        let z : refusal_number r ≡ 0 = ap (λ (p : Printed). p.number) (e ∙ formula_page_whole) in
        absurd (grind arith)
