use mathlib.Core.Path.{◌≡◌}
use Rattle.parsing.specs.Work.{work_of, applied}
use Rattle.parsing.proofs.writing.write_prefixes.Given as goal

abbrev pub invariant-loop : goal.invariant-loop
invariant-loop l = work_of l.x l.out ≡ applied l.counter (work_of l.initial.x l.initial.out)
