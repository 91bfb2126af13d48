-- `used_fits` meets its contract. Assumes nothing.
use Rattle.sheet.specs.Given.{used_fits}
use mathlib.Core.Path.{refl}
use Rattle.sheet.proofs.given.used_fits.Goals as goal

pub returns : goal.returns
unfolding used_fits
returns c = refl
