-- REQUEST S-7 ON PRINTING, AS ONE STATEMENT about what the call answers.
use Prim.Native.Nat.{ℕ, ◌-◌, ◌≤◌, ◌<◌}
use native.Mathlib.Omega.{arith}
use mathlib.Core.Path.{◌≡◌, refl, sym, subst, ◌∙◌}
use mathlib.Core.Bool.{true, false, true≢false}
use mathlib.Core.Logic.{◌⊎◌, inl, inr}
use mathlib.Core.List.{List, ◌++◌}
use lib.ListN.{length, drop}
use lib.Seq.{take_at, drop-append_seam}
use Rattle.aldlf.specs.Sheet.{sheet_of}
use Rattle.aldlf.specs.declared.Table.{Table}
use Rattle.aldlf.proofs.Bools.{bool_cases, lt-or-le}
use Rattle.sheet.specs.Given.{Given, well_formed}
use Rattle.sheet.proofs.Question31.{well_formed_iff}
use Rattle.appending.specs.Placed.{unprinted}
use Rattle.appending.proofs.Placed.{placed_fits, placed_refused}
use Rattle.printing.specs.Print.{rule_text, print_outcome}
use Rattle.printing.specs.Right.{Clean, PrintRight}
use Rattle.printing.proofs.Answers.{print_no, print_yes}
use Rattle.printing.proofs.Clean.{text_clean}

module _ (t : Table) (lent : List ℕ) where
  abbrev text : List ℕ
  text = rule_text (sheet_of t)

  clean : Clean text
  clean = text_clean (sheet_of t) ((sheet_of t).nodes - 1)

  -- no sheet gives the table
  no_table : ¬ (Given t) → PrintRight t lent (unprinted 31 lent)
  no_table n =
      record {
        no_sheet = (λ _. n, λ _. refl);
        too_short = (λ e. absurd (omega (arith, e)), λ g. absurd (n g.0));
        accepted = (λ e. absurd (omega (arith, e)), λ g. absurd (n g.0));
        written = λ e. absurd (omega (arith, e));
        unaltered = λ _. (refl, refl);
        clean = clean;
      }

  -- the buffer is too short
  no_room : Given t → length lent < length text → PrintRight t lent (unprinted 55 lent)
  no_room g s =
      record {
        no_sheet = (λ e. absurd (omega (arith, e)), λ n. absurd (n g));
        too_short = (λ _. (g, s), λ _. refl);
        accepted = (λ e. absurd (omega (arith, e)), λ q. absurd (omega (arith, q.1, s)));
        written = λ e. absurd (omega (arith, e));
        unaltered = λ _. (refl, refl);
        clean = clean;
      }

  -- the text is written
  whole : Given t → length text ≤ length lent → PrintRight t lent (record { number = 0; count = length text; buffer = text ++ drop (length text) lent })
  whole g f =
      record {
        no_sheet = (λ e. absurd (omega (arith, e)), λ n. absurd (n g));
        too_short = (λ e. absurd (omega (arith, e)), λ q. absurd (omega (arith, q.1, f)));
        accepted = (λ _. (g, f), λ _. refl);
        written = λ _. (refl, take_at text (drop (length text) lent) (length text) refl, drop-append_seam text (drop (length text) lent));
        unaltered = λ n. absurd (n refl);
        clean = clean;
      }

  -- REQUEST S-7, PRINTING: every answer is right
  pub print_right : PrintRight t lent (print_outcome (well_formed t) (sheet_of t) lent)
  print_right = go (bool_cases (well_formed t)) (lt-or-le (length lent) (length text))
    where
      given : well_formed t ≡ true → Given t
      given = (well_formed_iff t).0

      go : (well_formed t ≡ true) ⊎ (well_formed t ≡ false) → (length lent < length text) ⊎ (length text ≤ length lent) → PrintRight t lent (print_outcome (well_formed t) (sheet_of t) lent)
      go (inr n) room = subst (PrintRight t lent) (sym (print_no (well_formed t) (sheet_of t) lent n)) (no_table (λ g. true≢false (sym ((well_formed_iff t).1 g) ∙ n)))
      go (inl y) (inl s) = subst (PrintRight t lent) (sym (print_yes (well_formed t) (sheet_of t) lent y ∙ placed_refused 55 text lent s)) (no_room (given y) s)
      go (inl y) (inr f) = subst (PrintRight t lent) (sym (print_yes (well_formed t) (sheet_of t) lent y ∙ placed_fits 55 text lent f)) (whole (given y) f)
