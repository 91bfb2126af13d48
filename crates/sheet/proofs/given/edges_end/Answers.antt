-- `edges_end` meets its contract: whether the places passed are all zeros. Assumes nothing.
use Rattle.sheet.proofs.Each.{from_start, from_next, from_last}
use Rattle.sheet.specs.Given.{is_no_edge, edges_end}
use Rattle.aldlf.specs.Sheet.{no_edge}
use mathlib.Core.Path.{refl, sym, ap, ap₂, ◌∙◌}
use mathlib.Core.Bool.{◌&&◌}
use native.Mathlib.Omega.{arith}
use lib.ListN.{get_or}
use Rattle.sheet.proofs.given.edges_end.Goals as goal

pub loop-i-init : goal.loop-i-init
loop-i-init c = (λ _. refl, λ t P. sym (from_start (λ k. is_no_edge (get_or t.edges k no_edge)) c.args.n))

pub loop-i-preserved : goal.loop-i-preserved
loop-i-preserved c = (
  λ h. absurd (omega arith),
  λ t P.
      let l = c.loop-i in
      ap₂ ◌&&◌ (l.invariant.1 t P) (c.has_no_edge-all.ensures ∙ ap is_no_edge (P.edge_is l.i c.loop-i-test.true)) ∙ from_next (λ k. is_no_edge (get_or t.edges k no_edge)) c.args.n l.i (omega arith),
)

pub returns : goal.returns
unfolding edges_end
returns c = λ t P.
    let l = c.loop-i in
    from_last (λ k. is_no_edge (get_or t.edges k no_edge)) c.args.n l.i 256 l.all (omega arith) l.invariant.0 (l.invariant.1 t P)
