-- `put_all` meets its contract: the numbers of one piece more at each turn. Assumes nothing.
use Rattle.crossing.specs.Numbers.{numbers_of}
use Rattle.crossing.proofs.Packed.{put_next}
use mathlib.Core.Path.{refl}
use Rattle.crossing.proofs.pack.put_all.Goals as goal

pub loop-k-init : goal.loop-k-init
unfolding numbers_of
loop-k-init g c = refl

pub loop-k-preserved : goal.loop-k-preserved
loop-k-preserved g c =
    let l = c.loop-k in
    let piece = c.index-pieces-k in
    put_next g.T.Piece.numbers g.T.Piece.SIZE g.met.T.Piece.sized c.args.out.now l.out _ c.args.pieces.now c.args.place l.k piece.result c.loop-k-test.true l.invariant
    (rw (← piece.is, ← c.SIZE.ensures) c.put.ensures)
