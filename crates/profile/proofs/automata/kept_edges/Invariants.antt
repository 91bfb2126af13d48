use Rattle.aldlf.specs.Sheet.{no_edge}
use Rattle.aldlf.specs.declared.Table.{Table}
use Rattle.profile.specs.Profile.{kept_edge}
use Rattle.profile.specs.Room.{ProfileRoom}
use Rattle.profile.proofs.Laws.{Placed}
use Rattle.profile.proofs.automata.kept_edges.Given as goal

abbrev pub invariant-loop-e : goal.invariant-loop-e
invariant-loop-e l = (t : Table) → ProfileRoom t l.numbers → Placed kept_edge no_edge t.edges l.x-items l.e
