use Rattle.std.proofs.Common.{◌≡◌}
use Rattle.cases.specs.Cases.{written}
use Rattle.cases.proofs.fill.Given as goal

abbrev pub invariant-loop-i : goal.invariant-loop-i
invariant-loop-i l = l.out ≡ written l.head l.piece l.initial.out l.i
