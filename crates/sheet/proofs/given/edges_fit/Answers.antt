-- `edges_fit` meets its contract: the edges passed all fit. Assumes nothing.
use Rattle.sheet.proofs.Each.{each_none, each_on, each_no}
use Rattle.sheet.proofs.Asked.{yes_is, no_is}
use Rattle.sheet.specs.Given.{edge_fits, edges_fit}
use Rattle.sheet.specs.Questions.{each}
use Rattle.aldlf.specs.Sheet.{no_edge}
use Prim.Native.Nat.{◌+◌}
use mathlib.Core.Path.{◌≡◌, ap, sym, ◌∙◌}
use native.Mathlib.Omega.{arith}
use lib.ListN.{get_or}
use mathlib.Core.Bool.{not}
use Rattle.sheet.proofs.given.edges_fit.Goals as goal

pub loop-j-init : goal.loop-j-init
loop-j-init c = let a = c.args in λ t P. each_none (λ k. edge_fits a.p.now a.x (get_or t.edges (a.x.first + k) no_edge))

pub returns-then-not-edge_fits : goal.returns-then-not-edge_fits
unfolding edges_fit
returns-then-not-edge_fits c = λ t P.
    let a = c.args in
    let l = c.loop-j in
    let e = c.edge_at.ensures ∙ P.edge_is (a.x.first + l.j) (omega (arith, c.requires.1)) in
    each_no (λ k. edge_fits a.p.now a.x (get_or t.edges (a.x.first + k) no_edge)) l.j a.x.count (omega arith) (no_is (c.edge_fits.ensures ∙ ap (edge_fits a.p.now a.x) e) (ap not c.if-not-edge_fits.true))

pub loop-j-preserved : goal.loop-j-preserved
loop-j-preserved c = λ t P.
    let a = c.args in
    let l = c.loop-j in
    let e = c.edge_at.ensures ∙ P.edge_is (a.x.first + l.j) (omega (arith, c.requires.1)) in
    each_on (λ k. edge_fits a.p.now a.x (get_or t.edges (a.x.first + k) no_edge)) l.j (l.invariant t P) (yes_is (c.edge_fits.ensures ∙ ap (edge_fits a.p.now a.x) e) (ap not c.if-not-edge_fits.false))

pub returns : goal.returns
unfolding edges_fit
returns c = λ t P.
    let a = c.args in
    let l = c.loop-j in
    let e : l.j ≡ a.x.count = omega arith in
    sym (l.invariant t P) ∙ ap (each (λ k. edge_fits a.p.now a.x (get_or t.edges (a.x.first + k) no_edge))) e
