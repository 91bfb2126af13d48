-- `put_prefix` meets its contract, letter by letter. Assumes nothing.
use native.Mathlib.Omega.{arith}
use Rattle.printing.proofs.PieceLaws.{prefix_not, prefix_some, prefix_every}
use Rattle.appending.proofs.Storing.{appends_same}
use Rattle.printing.proofs.pieces.put_prefix.Goals as goal

pub returns-in-78 : goal.returns-in-78
returns-in-78 c = appends_same (prefix_not c.args.line c.in-78.is) c.put.ensures

pub returns-in-68 : goal.returns-in-68
returns-in-68 c = appends_same (prefix_some c.args.line (omega (arith, c.in-68.is)) c.in-68.is) c.put_marked.ensures

pub returns-in_default : goal.returns-in_default
returns-in_default c = appends_same (prefix_every c.args.line (omega arith) (omega arith)) c.put_marked-in_default.ensures
