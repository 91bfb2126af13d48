use Rattle.std.specs.Prelude.{◌≡◌, ◌&&◌, length}
use Rattle.aldlf.specs.Constants.{node_limit, state_limit}
use Rattle.aldlf.specs.Outcomes.{pack_bits}
use Rattle.aldlf.specs.Parts.{counts}
use Rattle.aldlf.specs.Sheet.{sheet_of}
use Rattle.aldlf.specs.Verdict.{plain}
use Rattle.aldlf.specs.declared.Table.{Table}
use Rattle.judge.specs.Nodes.{Filled}
use Rattle.sheet.specs.Facts.{Lent}
use Rattle.judge.proofs.rows.end_row.Given as goal

abbrev pub invariant-loop-k : goal.invariant-loop-k
invariant-loop-k l = (length l.out ≡ node_limit)
    × ((t : Table) → Lent t l.numbers → Filled (λ j. pack_bits state_limit (λ s. counts (sheet_of t) ((sheet_of t).line j) s && plain (sheet_of t) j s)) l.out l.k)
