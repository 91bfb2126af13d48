use Prim.Native.Nat.{ℕ, ◌+◌, ◌-◌, ◌*◌, ◌^◌, ◌<◌}
use Rattle.aldlf.specs.Constants.{state_limit}
use Rattle.reach.proofs.Turns.{Clear}
use Rattle.reach.specs.Marks.{at}
use Rattle.reach.specs.Steps.{Moves, due_in, sum, swept_to}
use lib.ListN.{length}
use mathlib.Core.Path.{◌≡◌}
use Rattle.reach.proofs.spreading.rise.Given as goal

abbrev pub invariant-loop-j : goal.invariant-loop-j
invariant-loop-j l =
    (length l.masks ≡ length l.initial.masks) × (length l.todo ≡ 512) × ((i : ℕ) → i < length l.masks → at l.masks i < 2 ^ state_limit) × Clear l.j l.todo
    × Moves l.exits l.looks l.steps l.initial.masks l.masks (swept_to 0) (due_in l.todo)

abbrev pub decreases-loop-j : goal.decreases-loop-j
decreases-loop-j l = 2 * (length l.masks * 2 ^ state_limit - sum l.masks) + (length l.masks - l.j)
