-- `with_accepting` meets its contract: the automaton stored anew is the last one. Assumes nothing.
use Rattle.sheet.specs.Questions.{with_accepting}
use Rattle.sheet.proofs.build.with_accepting.Goals as goal

pub returns : goal.returns
unfolding with_accepting
returns c = rw c.power.ensures
