-- `digits` meets its contract: a number of 8 bits has at most three digits. Assumes nothing.
use native.Mathlib.Omega.{arith}
use Rattle.printing.proofs.PieceLaws.{digits_one, digits_two, digits_three}
use Rattle.printing.proofs.pieces.digits.Goals as goal

pub returns-then-n-lt10 : goal.returns-then-n-lt10
returns-then-n-lt10 c = (omega (arith, digits_one c.args.n (omega arith)), omega arith)

pub returns-then-n-lt100 : goal.returns-then-n-lt100
returns-then-n-lt100 c = (digits_two c.args.n (omega arith) (omega arith), omega arith)

pub returns-else-n-lt100 : goal.returns-else-n-lt100
returns-else-n-lt100 c = (digits_three c.args.n (omega arith) (omega (arith, c.well_formed)), omega arith)
