-- `mark_automaton` meets its contract: an automaton that is taken has its tests marked already, another is taken now. Assumes nothing.
use Prim.Native.Nat.{◌<◌}
use native.Mathlib.Omega.{arith}
use mathlib.Core.Path.{◌≡◌, sym, ap, subst, ◌∙◌}
use Rattle.aldlf.specs.Constants.{automaton_limit}
use Rattle.aldlf.specs.Sheet.{sheet_of}
use Rattle.aldlf.specs.Stands.{mark_tests}
use Rattle.aldlf.specs.declared.Automaton.{Automaton}
use Rattle.aldlf.specs.declared.Table.{Table}
use Rattle.packing.specs.Numbers.{lent_automaton}
use Rattle.sheet.specs.Facts.{automaton_at, Lent}
use Rattle.stands.specs.Marking.{TestsIn}
use Rattle.sheet.proofs.InUse.{automaton_used, automaton_few, automaton_lent}
use Rattle.stands.proofs.MarkLaws.{automaton_idle, automaton_marked, tests_in, tests_inside}
use Rattle.stands.proofs.marking.mark_automaton.Goals as goal
use Rattle.stands.proofs.marking.mark_automaton.Goals.{Start}

-- the automaton is in use
few : (S : Start) → S.args.m < automaton_limit
few S = automaton_few S.requires.lent.0 S.args.numbers.now S.requires.lent.1 S.args.m S.requires.flags_len.2

-- and is the one that was read
read : (S : Start) (t : Table) → Lent t S.args.numbers.now → lent_automaton S.args.numbers.now S.args.m ≡ automaton_at t S.args.m
read S t L = automaton_lent t S.args.numbers.now L S.args.m S.requires.flags_len.2

in_use : (S : Start) (t : Table) → Lent t S.args.numbers.now → S.args.m < t.used.automata
in_use S t L = automaton_used t S.args.numbers.now L S.args.m S.requires.flags_len.2

pub bounds-taken-m : goal.bounds-taken-m
bounds-taken-m c = omega (arith, few (goal.at.bounds-taken-m c).Start, c.requires.flags_len.1)

pub returns-then-taken-m : goal.returns-then-taken-m
returns-then-taken-m c = λ t L. automaton_idle (sheet_of t) c.args.m c.args.flags.now c.args.taken.now (c.requires.taken t L) c.if-taken-m.true

pub bounds-taken-m-2 : goal.bounds-taken-m-2
bounds-taken-m-2 c = omega (arith, few (goal.at.bounds-taken-m-2 c).Start, c.requires.flags_len.1)

pub automaton_at-requires : goal.automaton_at-requires
automaton_at-requires c = (c.requires.lent.1.packed.size, few (goal.at.automaton_at-requires c).Start)

pub mark_tests-requires : goal.mark_tests-requires
mark_tests-requires c =
    let L = c.requires.lent.1 in
    (subst (TestsIn c.args.numbers.now) (sym (c.automaton_at.ensures ∙ read (goal.at.mark_tests-requires c).Start c.requires.lent.0 L)) (tests_in c.requires.lent.0 c.args.numbers.now L c.args.m (in_use (goal.at.mark_tests-requires c).Start c.requires.lent.0 L)), c.requires.flags_len.0)

pub returns : goal.returns
unfolding sheet_of
returns c =
    λ t L.
    automaton_marked (sheet_of t) c.args.m c.args.flags.now c.args.taken.now (c.requires.taken t L) _
    (c.mark_tests.ensures t L.packed ∙ ap (λ (x : Automaton). mark_tests (sheet_of t) x.first x.count c.args.flags.now) (c.automaton_at.ensures ∙ read (goal.at.returns c).Start t L))
    (λ e z. omega (arith, tests_inside t c.args.numbers.now L c.args.m (in_use (goal.at.returns c).Start t L) e z, c.requires.flags_len.0))
