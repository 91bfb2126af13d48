use Rattle.std.proofs.Common.{◌≡◌, ◌<◌}
use Rattle.cases.specs.Cases.{number_of}
use Rattle.cases.proofs.number.Given as goal

abbrev pub invariant-loop-b : goal.invariant-loop-b
invariant-loop-b l = (l.v < 100000) × (l.v ≡ number_of l.field l.b-index)
