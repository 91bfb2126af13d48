-- `rule_numbers` meets its contract: the numbers are copied, then the lines of the nodes that are not marked are dropped. Assumes nothing.
use Rattle.stands.proofs.TrimLaws.{rule_lent}
use Rattle.stands.proofs.lent.rule_numbers.Goals as goal

pub returns : goal.returns
returns c = λ t L. rule_lent t c.args.numbers.now _ _ c.nodes_of_rule-flags.result L c.copy_from_slice.ensures.after (c.nodes_of_rule-flags.ensures t L) (c.drop_lines.ensures t)
