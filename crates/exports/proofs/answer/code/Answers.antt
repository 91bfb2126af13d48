-- `code` meets its contract. Assumes nothing.
use mathlib.Core.Path.{refl}
use Rattle.exports.specs.Answers.{answer_code}
use Rattle.exports.proofs.answer.code.Goals as goal

pub returns : goal.returns
unfolding answer_code
returns c = refl
