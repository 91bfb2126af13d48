-- `byte_at` meets its contract. Assumes nothing.
use mathlib.Core.Path.{◌∙◌}
use native.Mathlib.Omega.{arith}
use Rattle.parsing.proofs.Laws.{byte_or}
use Rattle.parsing.proofs.signs.byte_at.Goals as goal

pub returns : goal.returns
returns c = rw c.copied.ensures (c.get.ensures.lookup.4 (omega arith) 256 ∙ byte_or c.args.text.now c.args.at)
