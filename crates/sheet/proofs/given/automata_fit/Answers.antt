-- `automata_fit` meets its contract: the automata passed all fit, and what stands before the next is known. Assumes nothing.
use Rattle.sheet.proofs.Fits.{head_end}
use Rattle.sheet.proofs.Lent.{automata_by, edges_passed, nodes_passed, head_no, edges_say}
use Rattle.sheet.proofs.Each.{each_none, each_on, each_no}
use Rattle.sheet.proofs.Asked.{yes_is, no_is}
use Rattle.sheet.specs.Given.{automaton_ok}
use Rattle.sheet.specs.Questions.{each}
use Rattle.sheet.specs.Room.{CountsFit}
use Prim.Native.Nat.{◌<◌}
use mathlib.Core.Path.{◌≡◌, refl, ap, sym, subst, ◌∙◌}
use mathlib.Core.Bool.{true, false}
use native.Mathlib.Nat.{le_trans}
use native.Mathlib.Omega.{arith}
use mathlib.Core.Bool.{not}
use Rattle.sheet.proofs.given.automata_fit.Goals as goal

pub loop-m-init : goal.loop-m-init
loop-m-init c = λ t P e. (refl, refl, each_none (automaton_ok t))

pub returns-then-not-head_fits : goal.returns-then-not-head_fits
returns-then-not-head_fits c = λ t P e.
    let l = c.loop-m in
    let u = c.used_in-used in
    let f = subst CountsFit (sym u.ensures) c.requires.1 in
    let k = l.invariant t P e in
    let no = head_no P u.ensures l.m l.first l.above (omega (arith, f.automata≤)) c.automaton_at-x.ensures k.0 k.1 (no_is c.head_fits.ensures (ap not c.if-not-head_fits.true)) in
    automata_by P u.ensures (each_no (automaton_ok t) l.m u.result.automata (omega arith) no)

pub edges_fit-requires : goal.edges_fit-requires
edges_fit-requires c = let l = c.loop-m in
    let f = subst CountsFit (sym c.used_in-used.ensures) c.requires.1 in
    (c.requires.0, le_trans (head_end c.used_in-used.result l.first l.above c.automaton_at-x.result (yes_is c.head_fits.ensures (ap not c.if-not-head_fits.false))) f.edges≤)

pub returns-then-not-edges_fit : goal.returns-then-not-edges_fit
returns-then-not-edges_fit c = λ t P e.
    let l = c.loop-m in
    let u = c.used_in-used in
    let f = subst CountsFit (sym u.ensures) c.requires.1 in
    let k = l.invariant t P e in
    let plain = c.plains_in-p.ensures t P e in
    let no = edges_say P u.ensures l.m l.first l.above (omega (arith, f.automata≤)) c.automaton_at-x.ensures k.0 k.1 _ false plain (yes_is c.head_fits.ensures (ap not c.if-not-head_fits.false)) (no_is (c.edges_fit.ensures t P) (ap not c.if-not-edges_fit.true)) in
    automata_by P u.ensures (each_no (automaton_ok t) l.m u.result.automata (omega arith) no)

pub overflow_add-first : goal.overflow_add-first
overflow_add-first c = let l = c.loop-m in
    let f = subst CountsFit (sym c.used_in-used.ensures) c.requires.1 in
    omega (arith, head_end c.used_in-used.result l.first l.above c.automaton_at-x.result (yes_is c.head_fits.ensures (ap not c.if-not-head_fits.false)), f.edges≤)

pub loop-m-preserved : goal.loop-m-preserved
loop-m-preserved c = λ t P e.
    let l = c.loop-m in
    let u = c.used_in-used in
    let f = subst CountsFit (sym u.ensures) c.requires.1 in
    let k = l.invariant t P e in
    let x = c.automaton_at-x in
    let low : l.m < 16 = omega (arith, f.automata≤) in
    let plain = c.plains_in-p.ensures t P e in
    let yes = edges_say P u.ensures l.m l.first l.above low x.ensures k.0 k.1 _ true plain (yes_is c.head_fits.ensures (ap not c.if-not-head_fits.false)) (yes_is (c.edges_fit.ensures t P) (ap not c.if-not-edges_fit.false)) in
    (edges_passed P l.m low x.ensures, nodes_passed P l.m low x.ensures, each_on (automaton_ok t) l.m k.2 yes)

pub returns : goal.returns
returns c = λ t P e.
    let l = c.loop-m in
    let u = c.used_in-used in
    let q : l.m ≡ u.result.automata = omega arith in
    automata_by P u.ensures (sym (l.invariant t P e).2 ∙ ap (each (automaton_ok t)) q)
