-- hand_over meets its contract: a page that fits is copied, another refused. Assumes nothing.
use mathlib.Core.Path.{sym}
use native.Mathlib.Omega.{arith}
use Rattle.appending.proofs.Placed.{placed_fits, placed_refused}
use Rattle.report.proofs.hand_over.Goals as goal

pub returns-then-n-out : goal.returns-then-n-out
returns-then-n-out c = rw c.copy_from_slice.ensures.after (sym (placed_fits 44 c.args.page.now c.args.out.now c.if-n-out.true))

pub returns-else-n-out : goal.returns-else-n-out
returns-else-n-out c = sym (placed_refused 44 c.args.page.now c.args.out.now (omega (arith, c.if-n-out.false)))
