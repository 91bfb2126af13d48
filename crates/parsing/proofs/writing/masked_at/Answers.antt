-- `masked_at` meets its contract. Assumes nothing.
use mathlib.Core.Path.{refl}
use Rattle.parsing.specs.Work.{masked}
use Rattle.parsing.proofs.writing.masked_at.Goals as goal

pub returns : goal.returns
unfolding masked
returns c = λ out. refl
