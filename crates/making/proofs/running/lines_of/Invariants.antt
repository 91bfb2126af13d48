use mathlib.Core.Path.{◌≡◌}
use lib.ListN.{length, take}
use Rattle.making.specs.Numbers.{lines_in}
use Rattle.making.proofs.running.lines_of.Given as goal

abbrev pub invariant-loop-i : goal.invariant-loop-i
invariant-loop-i l = (length l.r ≡ 128) × (take l.i l.r ≡ take l.i (lines_in l.lines))
