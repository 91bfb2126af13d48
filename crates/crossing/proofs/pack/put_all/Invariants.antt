-- put_all: the numbers of the pieces passed stand from the place on.
use mathlib.Core.Path.{◌≡◌}
use lib.ListN.{take}
use lib.Seq.{sets}
use Rattle.crossing.specs.Numbers.{numbers_of}
use Rattle.crossing.proofs.pack.put_all.Given as goal

abbrev pub invariant-loop-k : goal.invariant-loop-k
invariant-loop-k g l = l.out ≡ sets l.initial.out l.fn.place (numbers_of g.T.Piece.numbers (take l.k l.fn.pieces))
