-- `known_line` meets its contract. Assumes nothing.
use Rattle.sheet.specs.Questions.{known_line}
use Rattle.sheet.proofs.questions.known_line.Goals as goal

pub returns : goal.returns
unfolding known_line
returns c = rw c.arity_of.ensures
