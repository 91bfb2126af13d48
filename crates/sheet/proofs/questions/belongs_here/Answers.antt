-- `belongs_here` meets its contract, letter by letter. Assumes nothing.
use Rattle.sheet.specs.Questions.{belongs}
use Rattle.aldlf.specs.Constants.{letter_g, letter_e}
use mathlib.Core.Logic.{inl, inr, ⊎_elim}
use borrow.Author.Tests.{ne_eqb}
use Rattle.sheet.proofs.questions.belongs_here.Goals as goal

pub returns-in-71 : goal.returns-in-71
unfolding belongs
returns-in-71 c = ⊎_elim (λ e. rw e) (λ e. rw e) c.in-71.is

pub returns-in_default : goal.returns-in_default
unfolding belongs
returns-in_default c =
    let x = c.args.l.letter in
    let f = c.in_default.in_default-own.rest.1 in
    simp (ne_eqb x letter_e (λ e. f (inl e)), ne_eqb x letter_g (λ e. f (inr e)))
