-- `head_fits` meets its contract. Assumes nothing.
use borrow.Author.Tests.{le-leb, lt-leb}
use Rattle.sheet.specs.Given.{head_fits}
use native.Mathlib.Omega.{arith}
use borrow.Author.Tests.{le-leb, lt-leb}
use Rattle.sheet.proofs.given.head_fits.Goals as goal

pub returns-then-x-eq0 : goal.returns-then-x-eq0
unfolding head_fits
returns-then-x-eq0 c = rw c.if-x-eq0.true

pub returns-then-x-gt-STATES : goal.returns-then-x-gt-STATES
unfolding head_fits
returns-then-x-gt-STATES c =
    let q = c.args.x.states in
    rw (le-leb 1 q (omega arith), lt-leb q 16 c.if-x-gt-STATES.true)

pub returns : goal.returns
unfolding head_fits
returns c =
    let q = c.args.x.states in
    rw (c.accepting_fits-accepting.ensures, c.edges_to-end.ensures, le-leb 1 q (omega (arith, c.if-x-eq0.false)), le-leb q 16 c.if-x-gt-STATES.false)
