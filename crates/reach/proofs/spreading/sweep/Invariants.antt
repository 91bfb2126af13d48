-- sweep: the entries from `i` on are visited.
use Rattle.reach.specs.Steps.{Moves, all_due, swept_to}
use Rattle.reach.proofs.spreading.sweep.Given as goal

abbrev pub invariant-loop-i : goal.invariant-loop-i
invariant-loop-i l = Moves l.exits l.looks l.steps l.initial.masks l.masks all_due (swept_to l.i)
