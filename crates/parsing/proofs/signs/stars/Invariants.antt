use Prim.Native.Nat.{ℕ, ◌+◌, ◌-◌, ◌≤◌}
use mathlib.Core.Path.{◌≡◌}
use lib.ListN.{length}
use Rattle.parsing.specs.Work.{work_of}
use Rattle.parsing.specs.Build.{stars_by}
use Rattle.parsing.proofs.signs.stars.Given as goal

abbrev pub invariant-loop-out : goal.invariant-loop-out
invariant-loop-out l = (length l.out ≡ length l.initial.out) × (n : ℕ) × (length l.text ≤ l.at + n) × (stars_by l.text (length l.text) (work_of l.initial.writing l.initial.out) l.initial.at ≡ stars_by l.text n (work_of l.writing l.out) l.at)

abbrev pub decreases-loop-out : goal.decreases-loop-out
decreases-loop-out l = length l.text - l.at
