-- `judge_one` meets its contract: the log's words fill the buffer. Assumes nothing.
use lib.ListN.{length, drop_of_length-le}
use mathlib.Core.List.{List, ◌++◌, append-nil}
use mathlib.Core.Path.{◌∙◌, ap}
use native.Mathlib.Omega.{arith}
use Prim.Native.Nat.{ℕ, ◌*◌, ◌≤◌}
use Rattle.aldlf.specs.Sheet.{sheet_of}
use Rattle.aldlf.specs.Outcomes.{log_words}
use Rattle.batch.proofs.logs.judge_one.Goals as goal

pub judge_log-requires : goal.judge_log-requires
judge_log-requires c = record { prepared = c.requires.prepared; log_in_bounds = (omega (arith, c.requires.log_len_bound.1), c.requires.log_len_bound.0) }

pub returns : goal.returns
returns c =
    let r = c.judge_log.ensures in
    let all : length c.args.verdicts.now ≤ 2 * length c.args.log.now = omega (arith, c.requires.log_len_bound.1) in
    record { verdicts_after = λ t P. r.verdicts_after t P ∙ ap (λ (l : List ℕ). log_words (sheet_of t) c.args.log.now ++ l) (drop_of_length-le c.args.verdicts.now all) ∙ append-nil (log_words (sheet_of t) c.args.log.now); value = r.value }
