-- `with_node` meets its contract: the stores are those of the definition. Assumes nothing.
use Rattle.sheet.specs.Questions.{with_node}
use mathlib.Core.Path.{refl}
use Rattle.sheet.proofs.build.with_node.Goals as goal

pub returns : goal.returns
unfolding with_node
returns c = refl
