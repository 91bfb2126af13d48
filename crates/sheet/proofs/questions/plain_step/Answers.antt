-- `plain_step` meets its contract: only edges ahead and back are asked. Assumes nothing.
use Rattle.sheet.specs.Questions.{plain_step}
use Rattle.aldlf.specs.Constants.{letter_e}
use mathlib.Core.Path.{◌∙◌}
use mathlib.Core.Logic.{⊎_elim}
use borrow.Author.Tests.{ne_eqb}
use Rattle.sheet.proofs.questions.plain_step.Goals as goal

pub returns-then-l-ne69 : goal.returns-then-l-ne69
unfolding plain_step
returns-then-l-ne69 c = ⊎_elim (λ f. rw (ne_eqb c.args.l.letter letter_e f)) (λ e. rw (e.0, e.1)) c.then-l-ne69.either

pub returns : goal.returns
unfolding plain_step
returns c = c.flag_at.ensures ∙ rw (c.plains_of.ensures, c.if-l-ne69.false, ne_eqb c.args.l.b 0 c.if-l-eq0.false)
