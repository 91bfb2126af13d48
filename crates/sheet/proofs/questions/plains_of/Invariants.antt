use mathlib.Core.Path.{◌≡◌}
use lib.ListN.{length, drop}
use Rattle.aldlf.specs.Constants.{node_limit}
use Rattle.sheet.specs.Questions.{plain_from, plains}
use Rattle.sheet.proofs.questions.plains_of.Given as goal

abbrev pub invariant-loop-i : goal.invariant-loop-i
invariant-loop-i l = (length l.p ≡ node_limit) × (plain_from (drop l.i l.fn.nodes) l.i l.p ≡ plains l.fn.nodes)
