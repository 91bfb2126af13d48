-- `room_left` meets its contract, letter by letter. Assumes nothing.
use Rattle.sheet.specs.Questions.{room_left}
use Rattle.aldlf.specs.Constants.{letter_m, letter_g, letter_e}
use borrow.Author.Tests.{ne_eqb}
use Rattle.sheet.proofs.questions.room_left.Goals as goal

pub returns-in-77 : goal.returns-in-77
unfolding room_left
returns-in-77 c = rw c.in-77.is

pub returns-in-71 : goal.returns-in-71
unfolding room_left
returns-in-71 c = rw c.in-71.is

pub returns-in-69 : goal.returns-in-69
unfolding room_left
returns-in-69 c = rw c.in-69.is

pub returns-in_default : goal.returns-in_default
unfolding room_left
returns-in_default c =
    let x = c.args.l.letter in
    let f = c.in_default.in_default-own.rest in
    simp (ne_eqb x letter_m f.0.0.1, ne_eqb x letter_g f.0.1, ne_eqb x letter_e f.1)
