-- `nodes_end` meets its contract: whether the places passed are all zeros. Assumes nothing.
use Rattle.sheet.proofs.Each.{from_start, from_next, from_last}
use Rattle.sheet.specs.Given.{is_no_line, nodes_end}
use Rattle.aldlf.specs.Sheet.{no_line}
use Rattle.aldlf.specs.Constants.{node_limit}
use mathlib.Core.Path.{refl, sym, ap, ap₂, ◌∙◌}
use mathlib.Core.Bool.{◌&&◌}
use native.Mathlib.Omega.{arith}
use lib.ListN.{get_or}
use Rattle.sheet.proofs.given.nodes_end.Goals as goal

pub loop-i-init : goal.loop-i-init
loop-i-init c = (λ _. refl, λ t P. sym (from_start (λ k. is_no_line (get_or t.nodes k no_line)) c.args.n))

pub loop-i-preserved : goal.loop-i-preserved
loop-i-preserved c = (
  λ h. absurd (omega arith),
  λ t P.
      let l = c.loop-i in
      ap₂ ◌&&◌ (l.invariant.1 t P) (c.has_no_line-all.ensures ∙ ap is_no_line (P.line_is l.i c.loop-i-test.true)) ∙ from_next (λ k. is_no_line (get_or t.nodes k no_line)) c.args.n l.i (omega arith),
)

pub returns : goal.returns
unfolding nodes_end
returns c = λ t P.
    let l = c.loop-i in
    from_last (λ k. is_no_line (get_or t.nodes k no_line)) c.args.n l.i node_limit l.all (omega arith) l.invariant.0 (l.invariant.1 t P)
