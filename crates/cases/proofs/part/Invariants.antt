use Rattle.std.proofs.Common.{◌≡◌}
use Rattle.cases.specs.Cases.{start_of}
use Rattle.cases.proofs.part.Given as goal

abbrev pub invariant-loop : goal.invariant-loop
invariant-loop l = l.at ≡ start_of l.sep l.s l.counter
