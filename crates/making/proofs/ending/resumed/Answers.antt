-- `resumed` meets its contract: what room says bounds the counts. Assumes nothing.
use native.Mathlib.Omega.{arith}
use Rattle.making.proofs.PathEnds.{room_is}
use Rattle.making.proofs.ending.resumed.Goals as goal

pub overflow_add-result : goal.overflow_add-result
overflow_add-result c = let h = (room_is c.args.c c.requires.0).automata in omega arith

pub overflow_sub-result : goal.overflow_sub-result
overflow_sub-result c = let h = (room_is c.args.c c.requires.0).base in omega arith
