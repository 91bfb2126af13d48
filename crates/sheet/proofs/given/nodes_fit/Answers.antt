-- `nodes_fit` meets its contract: the nodes passed all fit. Assumes nothing.
use Rattle.sheet.proofs.Lent.{node_read, nodes_by}
use Rattle.sheet.proofs.Each.{each_none, each_on, each_no}
use Rattle.sheet.proofs.Asked.{yes_is, no_is}
use Rattle.sheet.specs.Given.{node_ok}
use Rattle.sheet.specs.Questions.{each}
use Rattle.sheet.specs.Room.{CountsFit}
use mathlib.Core.Path.{◌≡◌, ap, sym, subst, ◌∙◌}
use native.Mathlib.Omega.{arith}
use mathlib.Core.Bool.{not}
use Rattle.sheet.proofs.given.nodes_fit.Goals as goal

pub loop-i-init : goal.loop-i-init
loop-i-init c = λ t P. each_none (node_ok t)

pub returns-then-not-node_fits : goal.returns-then-not-node_fits
returns-then-not-node_fits c = λ t P.
    let l = c.loop-i in
    let u = c.used_in-used in
    let f = subst CountsFit (sym u.ensures) c.requires.1 in
    let e = node_read P u.ensures _ _ l.i c.line_at-x.ensures c.automaton_at-y.ensures (omega (arith, f.nodes≤)) f.automata≤ in
    nodes_by P u.ensures (each_no (node_ok t) l.i u.result.nodes (omega arith) (no_is (c.node_fits.ensures ∙ e) (ap not c.if-not-node_fits.true)))

pub loop-i-preserved : goal.loop-i-preserved
loop-i-preserved c = λ t P.
    let l = c.loop-i in
    let u = c.used_in-used in
    let f = subst CountsFit (sym u.ensures) c.requires.1 in
    let e = node_read P u.ensures _ _ l.i c.line_at-x.ensures c.automaton_at-y.ensures (omega (arith, f.nodes≤)) f.automata≤ in
    each_on (node_ok t) l.i (l.invariant t P) (yes_is (c.node_fits.ensures ∙ e) (ap not c.if-not-node_fits.false))

pub returns : goal.returns
returns c = λ t P.
    let l = c.loop-i in
    let u = c.used_in-used in
    let e : l.i ≡ u.result.nodes = omega arith in
    nodes_by P u.ensures (sym (l.invariant t P) ∙ ap (each (node_ok t)) e)
