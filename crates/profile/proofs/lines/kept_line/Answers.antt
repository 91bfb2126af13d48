-- `kept_line` meets its contract, letter by letter. Assumes nothing.
use native.Mathlib.Omega.{arith}
use Rattle.profile.proofs.Laws.{kept_two, kept_modal, kept_other}
use Rattle.profile.proofs.lines.kept_line.Goals as goal

pub overflow_mul-result : goal.overflow_mul-result
overflow_mul-result c = omega (arith, (c.requires.both< c.in-65.is).0)

pub overflow_mul-result-in-65 : goal.overflow_mul-result-in-65
overflow_mul-result-in-65 c = omega (arith, (c.requires.both< c.in-65.is).1)

pub overflow_mul-result-in-68 : goal.overflow_mul-result-in-68
overflow_mul-result-in-68 c = omega (arith, c.requires.modal< c.in-68.is)

pub returns-in-65 : goal.returns-in-65
returns-in-65 c = kept_two c.args.x c.in-65.is

pub returns-in-68 : goal.returns-in-68
returns-in-68 c = kept_modal c.args.x c.in-68.is

pub returns-in_default : goal.returns-in_default
returns-in_default c = kept_other c.args.x c.in_default.in_default-own.rest.0.1 c.in_default.in_default-own.rest.1
