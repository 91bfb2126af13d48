-- `rise` meets its contract: one turn more, with nothing due at the entries before the cursor. Assumes nothing.
use Rattle.reach.proofs.Turns.{clear_next, fewer, rise_end, rise_start}
use lib.ListN.{replicate, get_or-replicate}
use mathlib.Core.Path.{refl, ◌∙◌}
use native.Mathlib.Omega.{arith}
use Rattle.reach.proofs.spreading.rise.Goals as goal

pub loop-j-init : goal.loop-j-init
loop-j-init c =
    (refl, refl, λ i l. omega (arith, c.type_inv.masks i), λ k l. absurd (omega arith), rise_start c.args.exits c.args.looks c.args.steps.now c.args.masks.now (replicate 512 4) (λ i l. get_or-replicate 512 i 4 0 (omega (arith, c.requires.masks_len_bound))))

pub loop-j-smaller-then-again : goal.loop-j-smaller-then-again
loop-j-smaller-then-again c =
    let l = c.loop-j in
    let t = c.turn-again in
    fewer c.args.exits c.args.looks c.args.steps.now l.masks l.todo _ _ l.j _ t.result t.ensures (rw c.if-again.true c.saturating_sub-j.ensures)
    (omega (arith, l.invariant.0, c.loop-j-test.true)) (t.ensures.fits l.invariant.2)

pub loop-j-preserved-then-again : goal.loop-j-preserved-then-again
loop-j-preserved-then-again c =
    let l = c.loop-j in
    let t = c.turn-again in (
      t.ensures.same ∙ l.invariant.0,
      t.ensures.room ∙ l.invariant.1,
      λ i h. t.ensures.fits l.invariant.2 i (omega (arith, t.ensures.same)),
      clear_next c.args.exits c.args.looks c.args.steps.now l.masks l.todo _ _ l.j _ t.result t.ensures (rw c.if-again.true c.saturating_sub-j.ensures) l.invariant.3,
      λ E words seeds f told F K. t.ensures.moves E words seeds f told F (l.invariant.4 E words seeds f told F K),
    )

pub loop-j-preserved : goal.loop-j-preserved
loop-j-preserved c =
    let l = c.loop-j in
    let t = c.turn-again in (
      t.ensures.same ∙ l.invariant.0,
      t.ensures.room ∙ l.invariant.1,
      λ i h. t.ensures.fits l.invariant.2 i (omega (arith, t.ensures.same)),
      clear_next c.args.exits c.args.looks c.args.steps.now l.masks l.todo _ _ l.j _ t.result t.ensures (rw c.if-again.false refl) l.invariant.3,
      λ E words seeds f told F K. t.ensures.moves E words seeds f told F (l.invariant.4 E words seeds f told F K),
    )

pub returns-clause-moves : goal.returns-clause-moves
returns-clause-moves c =
    let l = c.loop-j in
    λ E words seeds f told F K. rise_end c.args.exits c.args.looks c.args.steps.now l.masks l.todo l.j (omega (arith, l.invariant.0, c.loop-j-test.false)) l.invariant.3
    E words seeds f told F (l.invariant.4 E words seeds f told F K)
