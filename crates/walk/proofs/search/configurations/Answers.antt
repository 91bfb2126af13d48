-- `configurations` meets its contract. Assumes nothing.
use Prim.Native.Nat.{ℕ, ◌*◌, ◌/◌}
use mathlib.Core.Path.{◌≡◌, sym, ap}
use lib.ListN.{length}
use Rattle.reach.specs.Marks.{paired}
use Rattle.reach.proofs.Paired.{length-paired}
use native.Mathlib.Omega.{arith}
use Rattle.walk.proofs.search.configurations.Goals as goal
use Rattle.walk.proofs.search.configurations.Goals.{Start}

-- two words an entry
count : (S : Start) → length S.args.words.now / 2 * S.args.query.automaton.states ≡ length (paired S.args.words.now) * S.args.query.automaton.states
count S = ap (λ (n : ℕ). n * S.args.query.automaton.states) (sym (length-paired S.args.words.now))

pub overflow_mul-result : goal.overflow_mul-result
overflow_mul-result c = omega (arith, count (goal.at.overflow_mul-result c).Start, c.requires)

pub returns : goal.returns
returns c = count (goal.at.returns c).Start
