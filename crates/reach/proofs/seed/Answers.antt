-- `seed` meets its contract: one entry more at each turn. Assumes nothing.
use Rattle.aldlf.specs.Verdict.{facing}
use Rattle.reach.proofs.Bits.{stored}
use Rattle.reach.proofs.Paired.{pair_room, reads as read_is}
use Rattle.reach.specs.Marks.{paired}
use Rattle.reach.specs.Steps.{seed_of}
use mathlib.Core.Path.{◌≡◌, sym, ap, ◌∙◌}
use native.Mathlib.Omega.{arith}
use Rattle.reach.proofs.seed.Goals as goal
use Rattle.reach.proofs.seed.Goals.{then-facing, else-facing}

pub verdict-found-requires : goal.verdict-found-requires
verdict-found-requires c = (c.requires.0, pair_room c.args.words.now c.loop-i.i (omega (arith, c.requires.1, c.loop-i-test.true)))

pub loop-i-preserved : goal.loop-i-preserved
loop-i-preserved c =
    let l = c.loop-i in
    let g = c.args.goal in
    let W = c.args.words.now in
    let h = c.loop-i-test.true in
    let faces = c.facing.ensures ∙ ap (facing g.want) (c.verdict-found.ensures ∙ read_is W l.i g.node.0 (omega (arith, c.requires.1, h)) c.requires.0) in
    stored (λ j. j) l.masks l.i c.if-facing.mask (λ j x. x ≡ seed_of g (paired W) j) (λ j e. e) (omega (arith, l.auto.masks, h)) (elim c.if-facing.branch [
      | then-facing w ↦ rw (sym faces ∙ w.if-facing.true) w.mask-is
      | else-facing w ↦ rw (sym faces ∙ w.if-facing.false) w.mask-is
    ]) l.invariant
