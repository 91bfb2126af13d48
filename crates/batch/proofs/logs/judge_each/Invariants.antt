use Rattle.aldlf.specs.Sheet.{sheet_of}
use Rattle.aldlf.specs.declared.Table.{Table}
use Rattle.judge.specs.Prepared.{Prepared}
use Rattle.batch.proofs.Places.{Judged}
use Rattle.batch.proofs.logs.judge_each.Given as goal

abbrev pub invariant-loop-k : goal.invariant-loop-k
invariant-loop-k l =
    (t : Table) → Prepared t l.plain l.numbers → Judged (sheet_of t) l.words l.lengths l.initial.verdicts l.initial.held l.verdicts l.held l.at l.k
