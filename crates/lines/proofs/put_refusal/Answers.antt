-- put_refusal meets its contract: its parts are appended one after the other. Assumes nothing.
use Rattle.appending.proofs.Storing.{appends_then}
use Rattle.lines.specs.Lines.{refusal_line}
use Rattle.lines.proofs.put_refusal.Goals as goal

pub returns : goal.returns
unfolding refusal_line
returns c = appends_then c.put_refused-end_at.ensures c.put.ensures
