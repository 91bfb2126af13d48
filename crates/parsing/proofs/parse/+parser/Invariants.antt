-- The parser's measures: the depth that is left falls at each mark, three times over for the calls between; each loop goes on by the text that is left.
use Prim.Native.Nat.{◌+◌, ◌-◌, ◌≤◌}
use lib.ListN.{length}
use Rattle.formula.specs.Parse.{operand_at, inner}
use Rattle.parsing.specs.Work.{work_of}
use Rattle.parsing.proofs.Wrap.{Waits}
use Rattle.parsing.proofs.Turns.{InFormula, InPath}
use Rattle.parsing.proofs.parse.+parser.Given as goal

abbrev pub decreases-formula : goal.decreases-formula
decreases-formula l = l.depth + l.depth + l.depth

abbrev pub decreases-operand : goal.decreases-operand
decreases-operand l = l.depth + l.depth + l.depth + 2

abbrev pub decreases-prefix : goal.decreases-prefix
decreases-prefix l = l.depth + l.depth + l.depth + 1

abbrev pub decreases-atom : goal.decreases-atom
decreases-atom l = l.depth + l.depth + l.depth + 1

abbrev pub decreases-path : goal.decreases-path
decreases-path l = l.depth + l.depth + l.depth

abbrev pub decreases-piece : goal.decreases-piece
decreases-piece l = l.depth + l.depth + l.depth + 1

abbrev pub invariant-formula-loop-p : goal.invariant-formula-loop-p
invariant-formula-loop-p l =
    (1 ≤ l.depth) × InFormula l.text (l.depth - 1) ((inner l.text l.depth).formula l.start) (work_of l.fn.w0 l.initial.out) l.at (work_of l.w l.out) l.h.second l.h.first

abbrev pub decreases-formula-loop-p : goal.decreases-formula-loop-p
decreases-formula-loop-p l = length l.text - l.at

abbrev pub invariant-operand-loop-out : goal.invariant-operand-loop-out
invariant-operand-loop-out l =
    Waits l.text (inner l.text l.depth) (operand_at l.text (inner l.text l.depth) l.start) (work_of l.fn.w0 l.initial.out) l.at l.count (work_of l.w l.out)

abbrev pub decreases-operand-loop-out : goal.decreases-operand-loop-out
decreases-operand-loop-out l = length l.text - l.at

abbrev pub invariant-path-loop-p : goal.invariant-path-loop-p
invariant-path-loop-p l =
    (1 ≤ l.depth) × InPath l.text (l.depth - 1) ((inner l.text l.depth).path l.start) (work_of l.fn.w0 l.initial.out) l.at (work_of l.w l.out) l.h.second l.h.first

abbrev pub decreases-path-loop-p : goal.decreases-path-loop-p
decreases-path-loop-p l = length l.text - l.at
