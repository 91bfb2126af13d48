-- `well_formed` meets its contract: the checks are those of the definition, the nodes' end before the automata. Assumes nothing.
use Rattle.sheet.proofs.Fits.{counts_lent, no_counts, no_nodes, no_ends, no_automata, by_ends}
use Rattle.sheet.proofs.Lent.{sized_is, counts_are, ends_are}
use Rattle.sheet.proofs.Asked.{yes_is, no_is}
use mathlib.Core.Path.{ap}
use mathlib.Core.Bool.{not}
use Rattle.sheet.proofs.given.well_formed.Goals as goal

pub returns-then-not-used_fits : goal.returns-then-not-used_fits
returns-then-not-used_fits c = λ t P. no_counts t c.used_in-used.result (sized_is P) (counts_are P c.used_in-used.ensures) (no_is c.used_fits.ensures (ap not c.if-not-used_fits.true))

pub nodes_fit-requires : goal.nodes_fit-requires
nodes_fit-requires c = (c.requires, counts_lent c.used_in-used.ensures c.used_fits.ensures (ap not c.if-not-used_fits.false))

pub returns-then-not-nodes_fit : goal.returns-then-not-nodes_fit
returns-then-not-nodes_fit c = λ t P. no_nodes t c.used_in-used.result (sized_is P) (counts_are P c.used_in-used.ensures) (yes_is c.used_fits.ensures (ap not c.if-not-used_fits.false)) (no_is (c.nodes_fit.ensures t P) (ap not c.if-not-nodes_fit.true))

pub returns-then-not-nodes_end : goal.returns-then-not-nodes_end
returns-then-not-nodes_end c = λ t P. no_ends t c.used_in-used.result (sized_is P) (counts_are P c.used_in-used.ensures) (yes_is c.used_fits.ensures (ap not c.if-not-used_fits.false)) (yes_is (c.nodes_fit.ensures t P) (ap not c.if-not-nodes_fit.false)) (no_is (c.nodes_end.ensures t P) (ap not c.if-not-nodes_end.true))

pub automata_fit-requires : goal.automata_fit-requires
automata_fit-requires c = (c.requires, counts_lent c.used_in-used.ensures c.used_fits.ensures (ap not c.if-not-used_fits.false))

pub returns-then-not-automata_fit : goal.returns-then-not-automata_fit
returns-then-not-automata_fit c = λ t P. no_automata t c.used_in-used.result (sized_is P) (counts_are P c.used_in-used.ensures) (yes_is c.used_fits.ensures (ap not c.if-not-used_fits.false)) (yes_is (c.nodes_fit.ensures t P) (ap not c.if-not-nodes_fit.false)) (no_is (c.automata_fit.ensures t P (ends_are P c.used_in-used.ensures (yes_is (c.nodes_end.ensures t P) (ap not c.if-not-nodes_end.false)))) (ap not c.if-not-automata_fit.true))

pub all_owned-owned-requires : goal.all_owned-owned-requires
all_owned-owned-requires c = (c.requires, counts_lent c.used_in-used.ensures c.used_fits.ensures (ap not c.if-not-used_fits.false))

pub whole_of-whole-requires : goal.whole_of-whole-requires
whole_of-whole-requires c = (c.requires, (counts_lent c.used_in-used.ensures c.used_fits.ensures (ap not c.if-not-used_fits.false)).automata≤)

pub returns : goal.returns
returns c = λ t P.
    by_ends t c.used_in-used.result (sized_is P) (counts_are P c.used_in-used.ensures) (yes_is c.used_fits.ensures (ap not c.if-not-used_fits.false)) (yes_is (c.nodes_fit.ensures t P) (ap not c.if-not-nodes_fit.false)) (yes_is (c.nodes_end.ensures t P) (ap not c.if-not-nodes_end.false)) (yes_is (c.automata_fit.ensures t P (ends_are P c.used_in-used.ensures (yes_is (c.nodes_end.ensures t P) (ap not c.if-not-nodes_end.false)))) (ap not c.if-not-automata_fit.false))
    c.automata_end.result c.edges_end.result c.all_owned-owned.result c.whole_of-whole.result
    (c.automata_end.ensures t P) (c.edges_end.ensures t P) (c.all_owned-owned.ensures t P) (c.whole_of-whole.ensures.0 t P)
