-- `all_owned` meets its contract. Assumes nothing.
use Rattle.sheet.proofs.Lent.{none_owned, last_owned}
use Rattle.sheet.specs.Room.{CountsFit}
use mathlib.Core.Path.{sym, subst}
use native.Mathlib.Omega.{arith}
use Rattle.sheet.proofs.given.all_owned.Goals as goal

pub returns-then-used-eq0 : goal.returns-then-used-eq0
returns-then-used-eq0 c = λ t P. none_owned P c.used_in-used.ensures c.if-used-eq0.true

pub automaton_at-x-requires : goal.automaton_at-x-requires
automaton_at-x-requires c = let f = subst CountsFit (sym c.used_in-used.ensures) c.requires.1 in (c.requires.0, omega (arith, f.automata≤))

pub returns : goal.returns
returns c = λ t P.
    let u = c.used_in-used in
    let f = subst CountsFit (sym u.ensures) c.requires.1 in
    last_owned P u.ensures _ _ (omega (arith, c.if-used-eq0.false)) f.automata≤ c.automaton_at-x.ensures c.edges_to-end.ensures
