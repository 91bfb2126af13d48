-- `power` meets its contract: the word has room for the bit. Assumes nothing.
use Prim.Native.Nat.{ℕ, ◌^◌, ◌%◌}
use mathlib.Core.Path.{ap, ◌∙◌}
use native.Mathlib.Nat.{mod-eq_of_lt, one-mul}
use lib.Pow.{pow-lt}
use Rattle.sheet.proofs.build.power.Goals as goal

pub returns : goal.returns
returns c = ap (λ (n : ℕ). n % 65536) (one-mul (2 ^ c.args.a)) ∙ mod-eq_of_lt (pow-lt c.requires)
