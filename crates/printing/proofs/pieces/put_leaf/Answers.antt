-- `put_leaf` meets its contract, letter by letter. Assumes nothing.
use native.Mathlib.Omega.{arith}
use Rattle.printing.proofs.PieceLaws.{leaf_true, leaf_fact, leaf_false}
use Rattle.appending.proofs.Storing.{appends_then, appends_same}
use Rattle.printing.proofs.pieces.put_leaf.Goals as goal

pub returns-in-84 : goal.returns-in-84
returns-in-84 c = appends_same (leaf_true c.args.line c.in-84.is) c.put_bytes.ensures

pub returns-in-80 : goal.returns-in-80
returns-in-80 c = appends_same (leaf_fact c.args.line (omega (arith, c.in-80.is)) c.in-80.is) (appends_then c.put-next.ensures c.put_number.ensures)

pub returns-in_default : goal.returns-in_default
returns-in_default c = appends_same (leaf_false c.args.line (omega arith) (omega arith)) c.put_bytes-in_default.ensures
