-- `print_rule` meets its contract: the table is packed, and its rule printed. Assumes nothing.
use Rattle.printing.proofs.print_rule.Goals as goal

pub returns : goal.returns
returns c = c.print_rule_lent.ensures c.args.table c.pack.ensures
