use mathlib.Core.Path.{◌≡◌}
use Rattle.aldlf.specs.declared.Table.{Table}
use Rattle.profile.specs.Profile.{doubled}
use Rattle.profile.specs.Room.{ProfileRoom}
use Rattle.profile.proofs.lines.doubled_lines.Given as goal

abbrev pub invariant-loop-k : goal.invariant-loop-k
invariant-loop-k l = (t : Table) → ProfileRoom t l.numbers → l.out ≡ doubled t.nodes l.k
