-- `one_bit` meets its contract: the mask has room for the bit. Assumes nothing.
use Prim.Native.Nat.{ℕ, ◌^◌, ◌%◌}
use mathlib.Core.Path.{ap, ◌∙◌}
use native.Mathlib.Nat.{mod-eq_of_lt, one-mul}
use lib.Pow.{pow-lt}
use Rattle.reach.proofs.steps.one_bit.Goals as goal

pub returns : goal.returns
returns c = ap (λ (n : ℕ). n % 65536) (one-mul (2 ^ c.args.s)) ∙ mod-eq_of_lt (pow-lt c.requires)
