-- `length_code` meets its contract: the parts stand side by side. Assumes nothing.
use mathlib.Core.Path.{refl}
use Rattle.exports.specs.RuleTexts.{length_code}
use Rattle.exports.proofs.answer.length_code.Goals as goal

pub returns : goal.returns
unfolding length_code
returns c = refl
