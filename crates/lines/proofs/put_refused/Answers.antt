-- put_refused meets its contract: its parts are appended one after the other. Assumes nothing.
use Rattle.appending.proofs.Storing.{appends_then}
use Rattle.lines.specs.Lines.{refused_at}
use Rattle.lines.proofs.put_refused.Goals as goal

pub returns : goal.returns
unfolding refused_at
returns c = appends_then (appends_then (appends_then c.put_bytes-number_at.ensures c.put_number-comma_at.ensures) c.put-line_at.ensures) c.put_number.ensures
