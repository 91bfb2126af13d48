-- `put_marked` meets its contract: four pieces, one after the other. Assumes nothing.
use Rattle.appending.proofs.Storing.{appends_then}
use Rattle.printing.proofs.pieces.put_marked.Goals as goal

pub returns : goal.returns
returns c = appends_then c.put-opened.ensures (appends_then c.put-letter.ensures (appends_then c.put_number-number.ensures c.put.ensures))
