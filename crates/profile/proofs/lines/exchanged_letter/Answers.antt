-- `exchanged_letter` meets its contract, letter by letter. Assumes nothing.
use Rattle.aldlf.specs.Constants.{letter_t, letter_f, letter_a, letter_o, letter_d, letter_b}
use Rattle.profile.specs.Profile.{exchanged}
use borrow.Author.Tests.{ne_eqb}
use Rattle.profile.proofs.lines.exchanged_letter.Goals as goal

pub returns-in-84 : goal.returns-in-84
unfolding exchanged
returns-in-84 c = rw c.in-84.is

pub returns-in-70 : goal.returns-in-70
unfolding exchanged
returns-in-70 c = rw c.in-70.is

pub returns-in-65 : goal.returns-in-65
unfolding exchanged
returns-in-65 c = rw c.in-65.is

pub returns-in-79 : goal.returns-in-79
unfolding exchanged
returns-in-79 c = rw c.in-79.is

pub returns-in-68 : goal.returns-in-68
unfolding exchanged
returns-in-68 c = rw c.in-68.is

pub returns-in-66 : goal.returns-in-66
unfolding exchanged
returns-in-66 c = rw c.in-66.is

pub returns-in_default : goal.returns-in_default
unfolding exchanged
returns-in_default c =
    let x = c.args.c in
    let f = c.in_default.in_default-own.rest in
    simp (
      ne_eqb x letter_t f.0.0.0.0.0.1,
      ne_eqb x letter_f f.0.0.0.0.1,
      ne_eqb x letter_a f.0.0.0.1,
      ne_eqb x letter_o f.0.0.1,
      ne_eqb x letter_d f.0.1,
      ne_eqb x letter_b f.1,
    )
