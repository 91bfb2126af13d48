-- `leaf_bytes` meets its contract: `true`, a fact and its digits, or `false`. Assumes nothing.
use native.Mathlib.Omega.{arith}
use mathlib.Core.Path.{ap}
use lib.ListN.{length}
use Rattle.printing.proofs.PieceLaws.{leaf_true, leaf_fact, leaf_false}
use Rattle.printing.proofs.pieces.leaf_bytes.Goals as goal

pub returns-in-84 : goal.returns-in-84
returns-in-84 c = (ap length (leaf_true c.args.line c.in-84.is), omega arith)

pub returns-in-80 : goal.returns-in-80
returns-in-80 c = (omega (arith, c.digits.ensures.0, ap length (leaf_fact c.args.line (omega (arith, c.in-80.is)) c.in-80.is)), omega arith)

pub returns-in_default : goal.returns-in_default
returns-in_default c = (ap length (leaf_false c.args.line (omega arith) (omega arith)), omega arith)
