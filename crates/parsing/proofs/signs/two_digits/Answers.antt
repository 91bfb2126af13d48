-- `two_digits` meets its contract. Assumes nothing.
use Prim.Native.Nat.{◌+◌}
use mathlib.Core.Path.{ap}
use native.Mathlib.Omega.{arith}
use Rattle.formula.specs.Parse.{ok}
use Rattle.parsing.specs.Work.{Work}
use Rattle.parsing.proofs.Laws.{pair_range}
use Rattle.parsing.specs.Build.{got_of}
use Rattle.parsing.proofs.signs.two_digits.Goals as goal

pub overflow_sub-b : goal.overflow_sub-b
overflow_sub-b c = let h = pair_range c.args.b c.args.c c.requires.0 in omega (arith, h.low, h.high, h.low₂, h.high₂)

pub overflow_mul-b : goal.overflow_mul-b
overflow_mul-b c = let h = pair_range c.args.b c.args.c c.requires.0 in omega (arith, h.low, h.high, h.low₂, h.high₂)

pub overflow_sub-c : goal.overflow_sub-c
overflow_sub-c c = let h = pair_range c.args.b c.args.c c.requires.0 in omega (arith, h.low, h.high, h.low₂, h.high₂)

pub overflow_add-b : goal.overflow_add-b
overflow_add-b c = let h = pair_range c.args.b c.args.c c.requires.0 in omega (arith, h.low, h.high, h.low₂, h.high₂)

pub returns : goal.returns
unfolding got_of
returns c = ap (λ (z : Work). ok z (c.args.at + 2)) c.write-writing.ensures
