-- `alike` meets its contract: entries whose words agree on the tested nodes agree there. Assumes nothing.
use Rattle.aldlf.proofs.Bools.{and_left, and_right}
use Rattle.reach.proofs.Tests.{agree}
use borrow.Author.Tests.{eqb-true}
use lib.Dec.{eqb}
use mathlib.Core.Path.{sym, ◌∙◌}
use native.Mathlib.Omega.{arith}
use Rattle.reach.proofs.filling.alike.Goals as goal

pub returns-then-j-i : goal.returns-then-j-i
returns-then-j-i c =
    let a = c.holding.result in
    let b = c.holding-then-j-i.result in
    let here = c.holding.ensures in
    let there = c.holding-then-j-i.ensures in
    λ e.
    let same = sym c.eq.ensures ∙ e in (
      c.if-j-i.true,
      agree c.args.words.now c.args.tested c.args.i c.args.j c.requires (omega (arith, c.requires, c.if-j-i.true))
          (sym here.0 ∙ eqb-true a.low b.low (and_left (eqb a.low b.low) (eqb a.high b.high) same) ∙ there.0)
          (sym here.1 ∙ eqb-true a.high b.high (and_right (eqb a.low b.low) (eqb a.high b.high) same) ∙ there.1),
    )
