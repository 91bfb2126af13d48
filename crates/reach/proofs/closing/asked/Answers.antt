-- `asked` meets its contract: the flags are read as they are. Assumes nothing.
use lib.Dec.{eqb}
use mathlib.Core.Bool.{Bool, not, ◌&&◌, ◌||◌}
use mathlib.Core.Path.{ap₂}
use Rattle.reach.proofs.closing.asked.Goals as goal

pub returns : goal.returns
returns c = let a = c.args in ap₂ (λ (x y : Bool). x && (y || not (eqb a.grown a.start))) c.has.ensures c.has-2.ensures
