-- lend_automata: those passed stand in their places, and it is known whether they fit.
use Rattle.crossing.proofs.Lent.{HeadsSoFar}
use Rattle.crossing.proofs.lending.lend_automata.Given as goal

abbrev pub invariant-loop-k : goal.invariant-loop-k
invariant-loop-k l = HeadsSoFar l.xs l.k l.fit l.initial.numbers l.numbers
