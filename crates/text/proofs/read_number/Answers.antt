-- read_number meets its contract: three digits make less than a thousand, which fits in 16 bits. Assumes nothing.
use Rattle.std.proofs.Common.{rules}
use Rattle.text.specs.Text.{number}
use Rattle.text.proofs.read_number.Goals as goal

pub returns-in_err-read_digits : goal.returns-in_err-read_digits
unfolding number
returns-in_err-read_digits c = search rules

pub returns : goal.returns
unfolding number
returns c = search rules
