-- The places not in use: an automaton that equals its type's default is all zeros.
use mathlib.Core.Path.{◌≡◌}
use mathlib.Core.Bool.{◌&&◌}
use Rattle.std.proofs.Math.Bool.{and_assoc}
use lib.Dec.{eqb}
use Rattle.aldlf.specs.declared.Automaton.{Automaton}
use Rattle.sheet.specs.Given.{is_no_automaton}

pub automaton_zeros : (x d : Automaton) → (d.states ≡ 0) × ((d.start.0 ≡ 0) × ((d.accepting ≡ 0) × ((d.first ≡ 0) × ((d.count ≡ 0) × (d.before ≡ 0)))))
    → (eqb x.states d.states && (eqb x.start.0 d.start.0 && (eqb x.accepting d.accepting && (eqb x.first d.first && (eqb x.count d.count && eqb x.before d.before))))) ≡ is_no_automaton x
automaton_zeros x d z = rw (z.0, z.1.0, z.1.1.0, z.1.1.1.0, z.1.1.1.1.0, z.1.1.1.1.1) (simp and_assoc)
