-- `accepting_fits` meets its contract. Assumes nothing.
use Rattle.sheet.proofs.Words.{shifted_out}
use Rattle.sheet.proofs.given.accepting_fits.Goals as goal

pub returns : goal.returns
returns c = shifted_out c.args.w c.args.q
