-- `plains_in` meets its contract: what is left of the nodes always gives the whole table's flags, and past those in use nothing changes. Assumes nothing.
use Rattle.sheet.proofs.Lent.{flags_next, flags_all}
use Rattle.sheet.specs.Room.{CountsFit}
use Rattle.aldlf.specs.Constants.{node_limit}
use mathlib.Core.Path.{refl, sym, subst, ◌∙◌}
use mathlib.Core.Bool.{false}
use native.Mathlib.Omega.{arith}
use lib.ListN.{length-set, get_or-replicate}
use lib.Seq.{get_or-set_other}
use Rattle.sheet.proofs.given.plains_in.Goals as goal

pub loop-k-init : goal.loop-k-init
loop-k-init c = (refl, λ i h l. get_or-replicate node_limit i false false l, λ t P. refl)

pub loop-k-preserved : goal.loop-k-preserved
loop-k-preserved c =
    let l = c.loop-k in
    let f = subst CountsFit (sym c.used_in-used.ensures) c.requires.1 in (
      length-set l.p l.k _ ∙ l.invariant.0,
      λ i h w. get_or-set_other l.p l.k i _ false (omega arith) ∙ l.invariant.1 i (omega arith) w,
      λ t P. flags_next P l.p l.k _ _ (omega (arith, f.nodes≤)) c.line_at.ensures c.plain_node.ensures (l.invariant.2 t P),
    )

pub returns : goal.returns
returns c = λ t P e.
    let l = c.loop-k in
    let f = subst CountsFit (sym c.used_in-used.ensures) c.requires.1 in
    flags_all P c.used_in-used.ensures l.p l.k (omega arith) (omega (arith, f.nodes≤)) l.invariant.1 (l.invariant.2 t P) e
