use Rattle.std.specs.Prelude.{◌≡◌, length}
use Rattle.aldlf.specs.Sheet.{line_of}
use Rattle.judge.specs.Nodes.{Added, says_now}
use Rattle.reach.specs.Marks.{at, paired}
use Rattle.judge.proofs.nodes.judge_plain.Given as goal

abbrev pub invariant-loop-i : goal.invariant-loop-i
invariant-loop-i l = (length l.words ≡ length l.initial.words)
    × Added l.number.0 (λ j. says_now (line_of l.line.kind l.line.a l.line.b) (at l.log j) (at (paired l.initial.words) j)) l.i (paired l.initial.words) (paired l.words) l.held
