-- `one_digit` meets its contract. Assumes nothing.
use Prim.Native.Nat.{◌+◌}
use mathlib.Core.Path.{ap}
use native.Mathlib.Omega.{arith}
use Rattle.formula.specs.Parse.{ok}
use Rattle.parsing.specs.Work.{Work}
use Rattle.parsing.proofs.Laws.{digit_range}
use Rattle.parsing.specs.Build.{got_of}
use Rattle.parsing.proofs.signs.one_digit.Goals as goal

pub overflow_sub-b : goal.overflow_sub-b
overflow_sub-b c = let h = digit_range c.args.b c.requires.0 in omega (arith, h.low)

pub returns : goal.returns
unfolding got_of
returns c = ap (λ (z : Work). ok z (c.args.at + 1)) c.write-writing.ensures
