-- `packed_automaton` meets its contract: no field reaches into the next. Assumes nothing.
use Rattle.packing.proofs.PieceLaws.{automaton_back}
use borrow.Author.Rules.{rules}
use Rattle.packing.proofs.pieces.packed_automaton.Goals as goal

pub returns : goal.returns
returns c = search (rules, automaton_back)
