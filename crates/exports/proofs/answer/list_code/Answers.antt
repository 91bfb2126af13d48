-- `list_code` meets its contract. Assumes nothing.
use mathlib.Core.Path.{refl}
use Rattle.exports.specs.Lists.{list_code}
use Rattle.exports.proofs.answer.list_code.Goals as goal

pub returns : goal.returns
unfolding list_code
returns c = refl
