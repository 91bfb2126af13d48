-- `put_lengths` meets its contract: no more lines are counted than there are places. Assumes nothing.
use Rattle.std.proofs.Common.{◌≤◌, length}
use Rattle.batch_tests.proofs.calls.put_lengths.Given as goal

abbrev pub invariant-loop-line : goal.invariant-loop-line
invariant-loop-line l =
    (goal.iterator-loop-line).can_next l.line-iterator
    × (goal.iterator-loop-line).is_finite l.line-iterator
    × (l.n ≤ length l.lengths)
