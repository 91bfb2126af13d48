-- The call that judges a list of logs: the log that it answers is small enough, and the answer is the definition's.
use Prim.Native.Nat.{ℕ, ◌≤◌}
use mathlib.Core.Path.{◌≡◌, ap, ◌∙◌}
use mathlib.Core.List.{List}
use native.Mathlib.Omega.{arith}
use Rattle.aldlf.specs.Sheet.{sheet_of}
use Rattle.aldlf.specs.declared.Table.{Table}
use Rattle.sheet.specs.Given.{well_formed}
use Rattle.batch.specs.Batch.{BatchAnswer, BatchOutcome, batch_ends, batch_outcome}
use Rattle.batch.proofs.Refusals.{log_small}
use Rattle.crossing.specs.Numbers.{table_of}
use Rattle.exports.specs.Lists.{list_code, list_ends, listed, judge_logs_outcome}

module _ (t : Table) (words lengths verdicts held after after_held : List ℕ) (r : BatchAnswer)
    (ends : batch_ends r after after_held ≡ batch_outcome (well_formed t) (sheet_of t) words lengths verdicts held) where
  pub log_number : r.log ≤ 65536
  log_number = omega (arith, ap (λ (o : BatchOutcome). o.log) ends, log_small t words lengths verdicts held)

  pub list_is : (table : List ℕ) → t ≡ table_of table → (a : ℕ) → a ≡ list_code r.number r.log → list_ends a after after_held ≡ judge_logs_outcome table words lengths verdicts held
  unfolding judge_logs_outcome
  list_is table is a e =
      ap (λ (x : ℕ). list_ends x after after_held) e ∙ ap listed ends
      ∙ ap (λ (u : Table). listed (batch_outcome (well_formed u) (sheet_of u) words lengths verdicts held)) is
