use Rattle.std.proofs.Common.{◌≡◌, ◌+◌, ◌-◌, ◌≤◌, length}
use Rattle.text.specs.Text.{fields}
use Rattle.text.proofs.Fields.{fields_from}
use Rattle.joblog.specs.Log.{numbers}
use Rattle.joblog.specs.Steps.{start, Sound, facts_from}
use Rattle.joblog.proofs.facts.facts_of.Given as goal

abbrev pub invariant-loop-at : goal.invariant-loop-at
invariant-loop-at l = (l.at ≤ length l.s + 1) × Sound l.seen × (facts_from l.seen (numbers (fields_from l.s l.at)) ≡ facts_from start (numbers (fields l.s)))

abbrev pub decreases-loop-at : goal.decreases-loop-at
decreases-loop-at l = length l.s + 1 - l.at
