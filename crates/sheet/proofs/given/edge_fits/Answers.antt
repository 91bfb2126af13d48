-- `edge_fits` meets its contract. Assumes nothing.
use Rattle.sheet.specs.Given.{edge_fits}
use Rattle.sheet.proofs.given.edge_fits.Goals as goal

pub returns : goal.returns
unfolding edge_fits
returns c = rw c.flag_at-plain.ensures
