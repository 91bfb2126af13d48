use mathlib.Core.Path.{◌≡◌}
use mathlib.Core.Bool.{true}
use Rattle.aldlf.specs.declared.Table.{Table}
use Rattle.packing.specs.Packed.{Packed}
use Rattle.sheet.specs.Given.{well_formed}
use Rattle.sheet.specs.Questions.{each}
use Rattle.profile.specs.Profile.{line_in_profile}
use Rattle.profile.proofs.checking.in_profile.Given as goal

abbrev pub invariant-loop-k : goal.invariant-loop-k
invariant-loop-k l = (t : Table) → Packed t l.numbers → well_formed t ≡ true → each (line_in_profile t.nodes) l.k ≡ true
