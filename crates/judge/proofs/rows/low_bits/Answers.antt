-- `low_bits` meets its contract: what is left after division. Assumes nothing.
use Rattle.std.specs.Prelude.{ℕ, ◌*◌, ◌%◌, ◌^◌}
use Rattle.judge.proofs.RowLaws.{one_shl}
use mathlib.Core.Path.{ap}
use native.Mathlib.Nat.{mod-le}
use native.Mathlib.Omega.{arith}
use Rattle.judge.proofs.rows.low_bits.Goals as goal

pub overflow_cast-result-3 : goal.overflow_cast-result-3
overflow_cast-result-3 c = omega (arith, mod-le c.args.x (1 * 2 ^ c.args.count % 18446744073709551616), c.ranges.x)

pub returns : goal.returns
returns c = ap (λ (z : ℕ). c.args.x % z) (one_shl c.args.count c.requires)
