-- `rule_looks` meets its contract: the table is packed, and asked. Assumes nothing.
use Rattle.stands.proofs.rule_looks.Goals as goal

pub returns : goal.returns
returns c = c.rule_looks_lent.ensures c.args.table c.pack.ensures
