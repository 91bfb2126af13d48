-- `way_of` meets its contract. Assumes nothing.
use borrow.Author.Tests.{eq-eqb, ne_eqb}
use Rattle.exports.proofs.way_of.Goals as goal

pub returns-then-way-eq1 : goal.returns-then-way-eq1
returns-then-way-eq1 c = rw (eq-eqb c.args.way 1 c.if-way-eq1.true)

pub returns : goal.returns
returns c = rw (ne_eqb c.args.way 1 c.if-way-eq1.false)
