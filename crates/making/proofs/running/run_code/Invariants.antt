use lib.ListN.{length}
use Rattle.making.proofs.Turns.{Stands}
use Rattle.making.proofs.running.run_code.Given as goal

abbrev pub invariant-loop-op : goal.invariant-loop-op
invariant-loop-op l = Stands l.code (length l.initial.stack) l.stack l.lines l.links l.edges l.automata l.c l.op-index
