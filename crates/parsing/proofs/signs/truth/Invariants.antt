use Rattle.parsing.specs.Work.{work_of}
use Rattle.parsing.proofs.Laws.{TrueTo}
use Rattle.parsing.proofs.signs.truth.Given as goal

abbrev pub invariant-loop-i : goal.invariant-loop-i
invariant-loop-i l = TrueTo l.text l.at (work_of l.w l.out) l.i
