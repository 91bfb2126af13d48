-- `newly_accepting` meets its contract. Assumes nothing.
use Rattle.sheet.specs.Questions.{newly_accepting}
use Rattle.aldlf.specs.Constants.{letter_g}
use mathlib.Core.Path.{◌∙◌}
use borrow.Author.Tests.{ne_eqb}
use Rattle.sheet.proofs.questions.newly_accepting.Goals as goal

pub returns-in-71 : goal.returns-in-71
unfolding newly_accepting
returns-in-71 c = c.is_clear.ensures ∙ rw c.in-71.is

pub returns-in_default : goal.returns-in_default
unfolding newly_accepting
returns-in_default c = rw (ne_eqb c.args.l.letter letter_g c.in_default.in_default-own.rest.1)
