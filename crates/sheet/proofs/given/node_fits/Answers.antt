-- `node_fits` meets its contract, letter by letter. Assumes nothing.
use Rattle.sheet.specs.Given.{node_fits}
use Rattle.aldlf.specs.Constants.{letter_t, letter_f, letter_p, letter_n, letter_a, letter_o, letter_d, letter_b}
use mathlib.Core.Logic.{inl, inr, ⊎_elim}
use borrow.Author.Tests.{ne_eqb}
use Rattle.sheet.proofs.given.node_fits.Goals as goal

pub returns-in-84 : goal.returns-in-84
unfolding node_fits
returns-in-84 c = ⊎_elim (λ e. rw e) (λ e. rw e) c.in-84.is

pub returns-in-80 : goal.returns-in-80
unfolding node_fits
returns-in-80 c = rw c.in-80.is

pub returns-in-78 : goal.returns-in-78
unfolding node_fits
returns-in-78 c = rw c.in-78.is

pub returns-in-65 : goal.returns-in-65
unfolding node_fits
returns-in-65 c = ⊎_elim (λ e. rw e) (λ e. rw e) c.in-65.is

pub returns-in-68 : goal.returns-in-68
unfolding node_fits
returns-in-68 c = ⊎_elim (λ e. rw e) (λ e. rw e) c.in-68.is

pub returns-in_default : goal.returns-in_default
unfolding node_fits
returns-in_default c =
    let x = c.args.x.kind in
    let f = c.in_default.in_default-own.rest in
    simp (
      ne_eqb x letter_f (λ e. f.0.0.0.0.1 (inl e)),
      ne_eqb x letter_t (λ e. f.0.0.0.0.1 (inr e)),
      ne_eqb x letter_p f.0.0.0.1,
      ne_eqb x letter_n f.0.0.1,
      ne_eqb x letter_a (λ e. f.0.1 (inl e)),
      ne_eqb x letter_o (λ e. f.0.1 (inr e)),
      ne_eqb x letter_b (λ e. f.1 (inl e)),
      ne_eqb x letter_d (λ e. f.1 (inr e)),
    )
