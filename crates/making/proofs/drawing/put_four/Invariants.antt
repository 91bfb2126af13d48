use lib.ListN.{take}
use Rattle.std.specs.Prelude.{Some}
use Rattle.making.specs.Numbers.{all_linked, Drawn}
use Rattle.making.proofs.drawing.put_four.Given as goal

abbrev pub invariant-loop-e : goal.invariant-loop-e
invariant-loop-e l = Drawn (all_linked (take l.e-index l.fn.four)) l.fn.c (Some l.x) l.initial.links l.links
