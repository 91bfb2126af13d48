-- `with_automaton` meets its contract: the stores are those of the definition. Assumes nothing.
use Rattle.sheet.specs.Questions.{with_automaton}
use mathlib.Core.Path.{refl}
use Rattle.sheet.proofs.build.with_automaton.Goals as goal

pub returns : goal.returns
unfolding with_automaton
returns c = refl
