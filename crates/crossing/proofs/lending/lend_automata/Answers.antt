-- `lend_automata` meets its contract: those passed stand in their places, and it is known whether they fit. Assumes nothing.
use Rattle.crossing.proofs.Lent.{heads_lent_none, heads_lent_next}
use Rattle.crossing.proofs.lending.lend_automata.Goals as goal

pub loop-k-init : goal.loop-k-init
loop-k-init c = heads_lent_none c.args.xs.now c.args.numbers.now c.requires.1

pub loop-k-preserved : goal.loop-k-preserved
loop-k-preserved c =
    let l = c.loop-k in
    heads_lent_next c.args.xs.now c.args.numbers.now l.k l.fit _ l.numbers _ l.invariant c.loop-k-test.true c.automaton_fits-fit.ensures c.lend_automaton.ensures
