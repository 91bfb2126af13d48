-- `operator` meets its contract. Assumes nothing.
use native.Mathlib.Omega.{arith}
use Rattle.printing.proofs.PieceLaws.{operator_and, operator_or}
use Rattle.printing.proofs.pieces.operator.Goals as goal

pub returns-then-line-eq65 : goal.returns-then-line-eq65
returns-then-line-eq65 c = omega (arith, operator_and c.args.line c.if-line-eq65.true)

pub returns-else-line-eq65 : goal.returns-else-line-eq65
returns-else-line-eq65 c = omega (arith, operator_or c.args.line c.if-line-eq65.false)
