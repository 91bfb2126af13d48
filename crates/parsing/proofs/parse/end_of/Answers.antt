-- `end_of` meets its contract. Assumes nothing.
use mathlib.Core.Path.{refl}
use native.Mathlib.Omega.{arith}
use Rattle.std.specs.Option.{unwrap_or}
use Rattle.parsing.proofs.Laws.{is_there, not_there, end_angle, end_square}
use Rattle.parsing.proofs.parse.end_of.Goals as goal

pub returns-then-eq : goal.returns-then-eq
returns-then-eq c = end_angle (unwrap_or c.args.b 256) (is_there c.args.b _ 60 refl c.eq.ensures c.if-eq.true)

pub returns-else-eq : goal.returns-else-eq
returns-else-eq c = end_square (unwrap_or c.args.b 256) (not_there c.args.b _ 60 (omega arith) refl c.eq.ensures c.if-eq.false)
