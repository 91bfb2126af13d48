use Rattle.aldlf.specs.Sheet.{no_automaton}
use Rattle.aldlf.specs.declared.Table.{Table}
use Rattle.profile.specs.Profile.{kept_automaton}
use Rattle.profile.specs.Room.{ProfileRoom}
use Rattle.profile.proofs.Laws.{Placed}
use Rattle.profile.proofs.automata.kept_automata.Given as goal

abbrev pub invariant-loop-m : goal.invariant-loop-m
invariant-loop-m l = (t : Table) → ProfileRoom t l.numbers → Placed kept_automaton no_automaton t.automata l.x-items l.m
