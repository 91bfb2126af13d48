-- `given_rule_numbers` meets its contract, for a table that some sheet gives and for any other. Assumes nothing.
use mathlib.Core.Path.{ap}
use mathlib.Core.Bool.{not}
use Rattle.aldlf.specs.declared.Table.{Table}
use Rattle.packing.specs.Packed.{Packed}
use Rattle.sheet.specs.Facts.{Lent}
use Rattle.sheet.proofs.Asked.{yes_is}
use Rattle.sheet.proofs.Facts.{table_facts}
use Rattle.stands.proofs.lent.given_rule_numbers.Goals as goal
use Rattle.stands.proofs.lent.given_rule_numbers.Goals.{Else-not-is_given_packed}

lent : (c : Else-not-is_given_packed) → (t : Table) → Packed t c.args.numbers.now → Lent t c.args.numbers.now
lent c t P = record { facts = table_facts t (yes_is (c.is_given_packed.ensures t P) (ap not c.if-not-is_given_packed.false)); packed = P }

pub rule_numbers-requires-clause-lent : goal.rule_numbers-requires-clause-lent
rule_numbers-requires-clause-lent c = let (t, P) = c.requires.packed in (t, lent (goal.at.rule_numbers-requires-clause-lent c).Else-not-is_given_packed t P)

pub returns-clause-lent : goal.returns-clause-lent
returns-clause-lent c = λ t P. c.rule_numbers.ensures t (lent (goal.at.returns-clause-lent c).Else-not-is_given_packed t P)
