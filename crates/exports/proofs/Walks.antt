-- The call that shows a walk: each answer is the definition's.
use Prim.Native.Nat.{ℕ, min}
use mathlib.Core.Path.{◌≡◌, ap, sym, ◌∙◌}
use mathlib.Core.List.{List}
use Rattle.aldlf.specs.Sheet.{sheet_of}
use Rattle.aldlf.specs.Walks.{walk_outcome}
use Rattle.aldlf.specs.declared.Table.{Table}
use Rattle.sheet.specs.Given.{well_formed}
use Rattle.aldlf.specs.Refusals.{refusal_number}
use Rattle.aldlf.specs.declared.Refusal.{Refusal}
use Rattle.std.specs.Prelude.{Result, Ok, Err}
use Rattle.walk.specs.Answer.{answer_of}
use Rattle.walk.proofs.Told.{told_refused}
use Rattle.crossing.specs.Numbers.{table_of}
use Rattle.exports.specs.Answers.{accepted, refusal, outcome}
use Rattle.exports.specs.Showing.{shown, walk_shown}
use Rattle.exports.proofs.Capped.{capped}

module _ (table log : List ℕ) (node entry k i : ℕ) (edges after : List ℕ) (t : Table) (r : Result ℕ Refusal) (a : ℕ) (is : t ≡ table_of table)
    (asks : k ≡ min node 255) (where-is : i ≡ min entry 65535) (ends : answer_of r after ≡ walk_outcome (well_formed t) (sheet_of t) log k i edges) where
  walk_is : shown (walk_outcome (well_formed t) (sheet_of t) log k i edges) ≡ walk_shown table log node entry edges
  unfolding walk_shown
  walk_is =
      ap (λ (n : ℕ). shown (walk_outcome (well_formed t) (sheet_of t) log n i edges)) asks
      ∙ ap (λ (n : ℕ). shown (walk_outcome (well_formed t) (sheet_of t) log (min node 255) n edges)) where-is
      ∙ ap shown (sym (capped t log node entry edges))
      ∙ ap (λ (u : Table). shown (walk_outcome (well_formed u) (sheet_of u) log node entry edges)) is

  pub walk-shown : (n : ℕ) → r ≡ Ok n → a ≡ accepted n → outcome a after ≡ walk_shown table log node entry edges
  unfolding answer_of
  walk-shown n g e = ap (λ (x : ℕ). outcome x after) e ∙ ap (λ (x : Result ℕ Refusal). shown (answer_of x after)) (sym g) ∙ ap shown ends ∙ walk_is

  pub walk_refused : (q : Refusal) → r ≡ Err q → a ≡ refusal (refusal_number q) → outcome a after ≡ walk_shown table log node entry edges
  walk_refused q g e = ap (λ (x : ℕ). outcome x after) e ∙ ap shown (told_refused t log k i edges after r ends q g).1 ∙ walk_is
