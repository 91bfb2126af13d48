use Prim.Native.Nat.{◌*◌, ◌≤◌}
use mathlib.Core.Path.{◌≡◌}
use lib.ListN.{drop}
use Rattle.batch.specs.Batch.{first_log, has_room, roomless}
use Rattle.batch.proofs.questions.first_without_room.Given as goal

abbrev pub invariant-loop-k : goal.invariant-loop-k
invariant-loop-k l = (2 * l.at ≤ l.verdicts) × (roomless l.verdicts l.held l.lengths ≡ first_log (has_room l.verdicts l.held) l.k l.at (drop l.k l.lengths))
