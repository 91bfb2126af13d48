-- `all_numbers` meets its contract. Assumes nothing.
use Rattle.sheet.specs.Questions.{all_numbers}
use mathlib.Core.Path.{refl}
use Rattle.sheet.proofs.questions.all_numbers.Goals as goal

pub returns : goal.returns
unfolding all_numbers
returns c = refl
