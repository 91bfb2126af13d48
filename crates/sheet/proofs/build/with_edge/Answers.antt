-- `with_edge` meets its contract: the automaton stored anew is the last one. Assumes nothing.
use Rattle.sheet.specs.Questions.{with_edge}
use mathlib.Core.Path.{refl}
use Rattle.sheet.proofs.build.with_edge.Goals as goal

pub returns : goal.returns
unfolding with_edge
returns c = refl
