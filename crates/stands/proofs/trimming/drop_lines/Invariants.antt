use Rattle.stands.specs.Trimmed.{Trimming}
use Rattle.stands.proofs.trimming.drop_lines.Given as goal

abbrev pub invariant-loop-k : goal.invariant-loop-k
invariant-loop-k l = Trimming l.flags l.initial.own l.own l.k
