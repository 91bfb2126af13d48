-- `verdict` meets its contract: the word that has the node is read at the place that the definition says. Assumes nothing.
use Prim.Native.Nat.{ℕ, ◌%◌}
use Rattle.aldlf.specs.Constants.{word_bits}
use Rattle.aldlf.specs.Sheet.{bit}
use Rattle.reach.specs.Marks.{at}
use mathlib.Core.Path.{ap, ◌∙◌}
use Rattle.reach.proofs.verdict.Goals as goal

pub returns : goal.returns
returns c = c.bit.ensures ∙ ap (λ (p : ℕ). bit (at c.args.words.now p) (c.args.node.0 % word_bits)) c.word_of.ensures
