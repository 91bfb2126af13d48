use Rattle.std.specs.Prelude.{◌≡◌, length}
use Rattle.aldlf.specs.Sheet.{bit}
use Rattle.aldlf.specs.Verdict.{facing}
use Rattle.judge.specs.Nodes.{Added}
use Rattle.reach.specs.Marks.{at, paired}
use Rattle.judge.proofs.nodes.write_modal.Given as goal

abbrev pub invariant-loop-i : goal.invariant-loop-i
invariant-loop-i l = (length l.words ≡ length l.initial.words)
    × Added l.job.number.0 (λ j. facing l.want (bit (at l.masks j) l.job.automaton.start.0)) l.i (paired l.initial.words) (paired l.words) l.set
