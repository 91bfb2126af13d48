use mathlib.Core.Path.{◌≡◌}
use lib.ListN.{length, take}
use Rattle.making.specs.Numbers.{edges_in}
use Rattle.making.proofs.running.edges_of.Given as goal

abbrev pub invariant-loop-i : goal.invariant-loop-i
invariant-loop-i l = (length l.r ≡ 256) × (take l.i l.r ≡ take l.i (edges_in l.edges))
