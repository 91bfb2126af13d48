-- seed: the entries passed.
use Prim.Native.Nat.{ℕ, ◌<◌}
use Rattle.reach.specs.Marks.{at, paired}
use Rattle.reach.specs.Steps.{seed_of}
use mathlib.Core.Path.{◌≡◌}
use Rattle.reach.proofs.seed.Given as goal

abbrev pub invariant-loop-i : goal.invariant-loop-i
invariant-loop-i l = (j : ℕ) → j < l.i → at l.masks j ≡ seed_of l.goal (paired l.words) j
