-- `kept_automata` meets its contract: the automata passed are in their places. Assumes nothing.
use native.Mathlib.Omega.{arith}
use mathlib.Core.Path.{◌≡◌, refl, sym, ap, ◌∙◌}
use Rattle.aldlf.specs.Sheet.{no_automaton}
use Rattle.aldlf.specs.declared.Automaton.{Automaton}
use Rattle.aldlf.specs.declared.Table.{Table}
use Rattle.sheet.specs.Facts.{automaton_at}
use Rattle.profile.specs.Profile.{kept_automaton}
use Rattle.profile.specs.Room.{ProfileRoom}
use Rattle.profile.proofs.Laws.{before_small, placed_none, placed_next, placed_all}
use Rattle.profile.proofs.automata.kept_automata.Goals as goal
use Rattle.profile.proofs.automata.kept_automata.Goals.{After-automaton_at}

-- the automaton read is the table's
read : (c : After-automaton_at) → (t : Table) → ProfileRoom t c.args.numbers.now → c.automaton_at.result ≡ automaton_at t c.loop-m.m
read c t R = c.automaton_at.ensures ∙ R.packed.automaton_is c.loop-m.m (omega arith)

pub loop-m-init : goal.loop-m-init
loop-m-init c = λ t R. placed_none kept_automaton no_automaton t.automata _ (sym R.packed.automata_length)

pub kept_automaton-requires : goal.kept_automaton-requires
kept_automaton-requires c =
    let R = c.requires in
    let e = ap (λ (x : Automaton). x.before) (read (goal.at.kept_automaton-requires c).After-automaton_at R.0 R.1) in
    omega (arith, before_small R.0 R.1.given R.1.room c.loop-m.m)

pub loop-m-preserved : goal.loop-m-preserved
loop-m-preserved c = let l = c.loop-m in λ t R.
    placed_next kept_automaton no_automaton t.automata l.x-items l.m c.kept_automaton.result (omega (arith, R.packed.automata_length))
    (c.kept_automaton.ensures ∙ ap kept_automaton (read (goal.at.loop-m-preserved c).After-automaton_at t R)) (l.invariant t R)

pub returns : goal.returns
returns c = let l = c.loop-m in λ t R. placed_all kept_automaton no_automaton t.automata l.x-items l.m refl (omega (arith, R.packed.automata_length)) (l.invariant t R)
