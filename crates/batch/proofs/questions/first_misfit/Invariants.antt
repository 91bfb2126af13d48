use Prim.Native.Nat.{◌≤◌}
use mathlib.Core.Path.{◌≡◌}
use lib.ListN.{take, drop}
use Rattle.batch.specs.Batch.{total, first_log, fits}
use Rattle.batch.proofs.questions.first_misfit.Given as goal

abbrev pub invariant-loop-k : goal.invariant-loop-k
invariant-loop-k l = (l.at ≤ l.words) × (l.at ≡ total (take l.k l.lengths)) × (first_log (fits l.words) 0 0 l.lengths ≡ first_log (fits l.words) l.k l.at (drop l.k l.lengths))
