-- `automaton_of` meets its contract: what room says bounds the end and the base. Assumes nothing.
use native.Mathlib.Omega.{arith}
use Rattle.making.proofs.PathEnds.{room_is, automaton_by}
use Rattle.making.proofs.ending.automaton_of.Goals as goal

pub power-requires : goal.power-requires
power-requires c = (room_is c.args.c c.requires).exit

pub overflow_sub-result : goal.overflow_sub-result
overflow_sub-result c = let h = (room_is c.args.c c.requires).base in omega arith

pub returns : goal.returns
returns c =
    let power = c.power in
    automaton_by c.args.c power.result power.ensures
