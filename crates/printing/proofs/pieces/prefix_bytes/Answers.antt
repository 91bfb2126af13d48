-- `prefix_bytes` meets its contract: `!`, or three bytes and the digits. Assumes nothing.
use native.Mathlib.Omega.{arith}
use mathlib.Core.Path.{ap}
use lib.ListN.{length}
use Rattle.printing.proofs.PieceLaws.{prefix_not, prefix_length}
use Rattle.printing.proofs.pieces.prefix_bytes.Goals as goal

pub returns-then-line-eq78 : goal.returns-then-line-eq78
returns-then-line-eq78 c = (ap length (prefix_not c.args.line c.if-line-eq78.true), omega arith)

pub returns-else-line-eq78 : goal.returns-else-line-eq78
returns-else-line-eq78 c = (omega (arith, c.digits.ensures.0, prefix_length c.args.line c.if-line-eq78.false), omega (arith, c.digits.ensures.1))
