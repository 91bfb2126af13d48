-- What judging answers, as the walk takes it: a refusal is the walk's own, and an accepted log's words are lent on.
use Rattle.std.specs.Prelude.{Result, Ok, Err}
use Prim.Native.Nat.{ℕ, ◌*◌, ◌≤◌}
use mathlib.Core.Path.{◌≡◌, sym, ap, ◌∙◌}
use mathlib.Core.Bool.{Bool, true, false}
use mathlib.Core.List.{List}
use borrow.Author.Tests.{le-leb, leb-true}
use lib.Dec.{eqb, leb}
use lib.ListN.{length, take}
use Rattle.aldlf.specs.Constants.{entry_limit}
use Rattle.aldlf.specs.Sheet.{Sheet, sheet_of}
use Rattle.aldlf.specs.Outcomes.{Whole, log_fits, part_verdicts, whole_number, whole_outcome}
use Rattle.aldlf.specs.Verdict.{plain}
use Rattle.reach.specs.Marks.{paired}
use Rattle.reach.proofs.Paired.{paired-halves}
use Rattle.aldlf.specs.Walks.{walk_outcome}
use Rattle.aldlf.specs.Refusals.{refusal_number}
use Rattle.aldlf.specs.declared.Refusal.{Refusal}
use Rattle.aldlf.specs.declared.Table.{Table}
use Rattle.aldlf.proofs.Bools.{and_right}
use Rattle.aldlf.proofs.Outcomes.{whole-number, whole_yes, whole_words}
use Rattle.sheet.specs.Given.{well_formed}
use Rattle.judge.specs.Answers.{whole_of, is_held}
use Rattle.walk.specs.Answer.{answer_of}
use Rattle.walk.specs.Search.{JudgedLog}
use Rattle.walk.proofs.Questions.{refusal, outcome_early}

module _ (t : Table) (log words after : List ℕ) (r : Result ℕ Refusal) where
  abbrev S : Sheet
  S = sheet_of t

  abbrev room : Bool
  room = leb (2 * length log) (length words)

  pub refused_first : (q : Refusal) → r ≡ Err q → whole_of r after ≡ whole_outcome (well_formed t) S log words → is_held r ≡ eqb (whole_number (well_formed t) log words) 0
      → (length log ≤ entry_limit → 2 * length log ≤ length words) → (k i : ℕ) (edges : List ℕ) → answer_of (Err q) edges ≡ walk_outcome (well_formed t) S log k i edges
  unfolding answer_of whole_number
  refused_first q e w held fit k i edges =
      let first = whole_number (well_formed t) log words in
      let number : refusal_number q ≡ first = ap (λ (x : Result ℕ Refusal). (whole_of x after).number) (sym e) ∙ (ap (λ (x : Whole). x.number) w ∙ whole-number (well_formed t) S log words) in
      let no : eqb first 0 ≡ false = sym (ap is_held (sym e) ∙ held) in
      ap (λ (x : ℕ). refusal x edges) number ∙ sym (outcome_early S log k i edges (well_formed t) room has_room no)
    where
      has_room : log_fits log ≡ true → room ≡ true
      has_room f =
          let l : length log ≤ 512 = leb-true (length log) 512 (and_right (leb 1 (length log)) (leb (length log) 512) f) in
          le-leb (2 * length log) (length words) (fit l)

  pub accepted_log : (n : ℕ) → r ≡ Ok n → whole_of r after ≡ whole_outcome (well_formed t) S log words → (well_formed t ≡ true) × JudgedLog t (paired (take (2 * length log) after)) log
  accepted_log n e w =
      let o = whole_outcome (well_formed t) S log words in
      let is : whole_of (Ok n) after ≡ o = ap (λ (x : Result ℕ Refusal). whole_of x after) (sym e) ∙ w in
      let z : o.number ≡ 0 = sym (ap (λ (x : Whole). x.number) is) in
      let yes = whole_yes (well_formed t) S log words z in
      (yes.0, record { fits = yes.1; words_are = ap paired (ap (λ (x : Whole). take (2 * length log) x.buffer) is ∙ whole_words (well_formed t) S log words z) ∙ paired-halves (part_verdicts S (plain S) log) })

  -- so it has no more entries than a log may have
  pub accepted_room : (n : ℕ) → r ≡ Ok n → whole_of r after ≡ whole_outcome (well_formed t) S log words → length log ≤ 512
  accepted_room n e w = leb-true (length log) 512 (and_right (leb 1 (length log)) (leb (length log) 512) (accepted_log n e w).1.fits)
