use Rattle.std.specs.Prelude.{◌≡◌, ℕ, ◌*◌, ◌^◌, ◌<◌, length}
use Rattle.aldlf.specs.Constants.{node_limit, word_bits}
use Rattle.aldlf.specs.declared.Table.{Table}
use Rattle.judge.specs.Nodes.{Through}
use Rattle.sheet.specs.Facts.{Lent}
use Rattle.reach.specs.Marks.{at, paired}
use Rattle.judge.proofs.engine.judge_nodes.Given as goal

abbrev pub invariant-loop-k : goal.invariant-loop-k
invariant-loop-k l = (length l.masks ≡ length l.log) × (length l.out ≡ node_limit)
    × ((t : Table) → Lent t l.numbers → Through t (record { way = l.way; row = l.row }) l.log l.numbers (paired l.words) l.steps l.out l.held l.have l.k)
    × (length l.words ≡ 2 * length l.log) × ((i : ℕ) → at l.words i < 2 ^ word_bits)
