use Rattle.lines.specs.Lines.{entries_below}
use Rattle.appending.specs.Appending.{Appends}
use Rattle.lines.proofs.put_entries.Given as goal

abbrev pub invariant-loop-i : goal.invariant-loop-i
invariant-loop-i l = Appends (entries_below l.rule.0 l.words l.i) l.initial.out l.at l.out l.next
