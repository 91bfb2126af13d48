use Rattle.sheet.specs.Given.{edges_before, nodes_before, nodes_end, automaton_ok}
use Rattle.sheet.specs.Questions.{each}
use Rattle.aldlf.specs.declared.Table.{Table}
use Rattle.packing.specs.Packed.{Packed}
use mathlib.Core.Path.{◌≡◌}
use mathlib.Core.Bool.{true}
use Rattle.sheet.proofs.given.automata_fit.Given as goal

abbrev pub invariant-loop-m : goal.invariant-loop-m
invariant-loop-m l = (t : Table) → Packed t l.numbers → nodes_end t.nodes t.used.nodes ≡ true → (l.first ≡ edges_before t.automata l.m) × (l.above ≡ nodes_before t.automata l.m) × (each (automaton_ok t) l.m ≡ true)
