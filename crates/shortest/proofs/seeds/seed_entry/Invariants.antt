use Prim.Native.Nat.{ℕ, ◌+◌, ◌≤◌, ◌<◌}
use mathlib.Core.Path.{◌≡◌}
use mathlib.Core.Bool.{Bool}
use lib.ListN.{length}
use Rattle.aldlf.specs.Sheet.{bit}
use Rattle.shortest.specs.Progress.{Seeded}
use Rattle.shortest.proofs.seeds.seed_entry.Given as goal

abbrev pub invariant-loop-s : goal.invariant-loop-s
invariant-loop-s l =
    (l.end ≤ l.base + l.s) × (length l.dist ≡ length l.initial.dist) × (length l.queue ≡ length l.initial.queue)
    × ((goal : ℕ → Bool) → ((x : ℕ) → x < l.fn.states → goal (l.base + x) ≡ bit l.goals x) → Seeded goal l.initial.dist l.initial.queue l.base l.tail → Seeded goal l.dist l.queue (l.base + l.s) l.end)
