-- `operand` meets its contract: the first number of an N, the second of a D or B. Assumes nothing.
use Rattle.printing.proofs.PieceLaws.{operand_first, operand_second}
use Rattle.printing.proofs.pieces.operand.Goals as goal

pub returns-then-line-eq78 : goal.returns-then-line-eq78
returns-then-line-eq78 c = operand_first c.args.line c.if-line-eq78.true

pub returns-else-line-eq78 : goal.returns-else-line-eq78
returns-else-line-eq78 c = operand_second c.args.line c.if-line-eq78.false
