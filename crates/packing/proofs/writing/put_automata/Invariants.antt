-- put_automata: those passed stand in their places.
use Rattle.packing.specs.Packed.{HeadsPut}
use Rattle.packing.proofs.writing.put_automata.Given as goal

abbrev pub invariant-loop-m : goal.invariant-loop-m
invariant-loop-m l = HeadsPut l.fn.automata l.m l.initial.numbers l.numbers
