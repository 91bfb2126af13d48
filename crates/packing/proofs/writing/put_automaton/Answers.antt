-- `put_automaton` meets its contract: three stores. Assumes nothing.
use Prim.Native.Nat.{◌+◌}
use native.Mathlib.Omega.{arith}
use lib.ListN.{length-set, set}
use Rattle.packing.specs.Numbers.{heads_place, ranges_place}
use Rattle.packing.proofs.PlaceLaws.{head_put}
use Rattle.packing.proofs.writing.put_automaton.Goals as goal

pub bounds-numbers-m-2 : goal.bounds-numbers-m-2
bounds-numbers-m-2 c = omega (arith, length-set c.args.numbers.now (heads_place + c.args.m) c.packed_automaton-h.result.states, c.requires.0, c.requires.1)

pub bounds-numbers-m-3 : goal.bounds-numbers-m-3
bounds-numbers-m-3 c =
    let l = c.args.numbers.now in
    let h = c.packed_automaton-h.result in
    omega (arith, length-set l (heads_place + c.args.m) h.states, length-set (set l (heads_place + c.args.m) h.states) (ranges_place + c.args.m) h.range, c.requires.0, c.requires.1)

pub returns : goal.returns
returns c =
    let h = c.packed_automaton-h.result in
    head_put c.args.x c.args.m c.args.numbers.now h.states h.range h.before c.requires.0 c.requires.1 c.packed_automaton-h.ensures
