-- `below` meets its contract: nothing, or one less. Assumes nothing.
use Prim.Native.Nat.{ℕ}
use mathlib.Core.List.{List}
use native.Mathlib.Omega.{arith}
use Rattle.making.proofs.Pushed.{rest_is}
use Rattle.making.proofs.stack.below.Goals as goal

pub returns : goal.returns
returns c = (λ (xs : List ℕ). rw c.saturating_sub.ensures (rest_is xs c.args.top), omega arith)
