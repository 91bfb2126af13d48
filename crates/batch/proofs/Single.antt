-- One log that all questions are answered of: judging it accepts, with the log's own words and count.
use Prim.Native.Nat.{ℕ, ◌*◌, ◌≤◌}
use mathlib.Core.Path.{◌≡◌, refl, sym}
use mathlib.Core.Bool.{Bool, true}
use mathlib.Core.List.{List, ◌++◌}
use lib.ListN.{length, drop}
use borrow.Author.Tests.{le-leb}
use Rattle.aldlf.specs.Constants.{entry_limit}
use Rattle.aldlf.specs.Sheet.{Sheet}
use Rattle.aldlf.specs.Outcomes.{log_words, held_in, whole_number, whole_outcome}
use Rattle.aldlf.proofs.Outcomes.{whole_accepted}

module _ (given : Bool) (S : Sheet) (log buffer : List ℕ) (yes : given ≡ true) (some : 1 ≤ length log) (few : length log ≤ entry_limit) (room : 2 * length log ≤ length buffer) where
  pub number_0 : whole_number given log buffer ≡ 0
  unfolding whole_number
  number_0 = rw (yes, le-leb 1 (length log) some, le-leb (length log) entry_limit few, le-leb (2 * length log) (length buffer) room)

  pub whole_is : whole_outcome given S log buffer ≡ record { number = 0; held = held_in S log; buffer = log_words S log ++ drop (2 * length log) buffer }
  whole_is = sym (whole_accepted given S log buffer (held_in S log) (log_words S log ++ drop (2 * length log) buffer) number_0 refl refl)
