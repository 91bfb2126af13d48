-- `rule_ways` meets its contract: the ways of the lines that are left are those of the rule. Assumes nothing.
use Rattle.stands.specs.Trimmed.{rule_table}
use Rattle.stands.proofs.LookLaws.{rule_ways}
use Rattle.stands.proofs.lent.rule_ways.Goals as goal

pub returns : goal.returns
returns c = λ t R. rule_ways t c.looks_in.result (c.looks_in.ensures (rule_table t) R)
