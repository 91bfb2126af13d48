-- put_entry meets its contract: its parts are appended one after the other. Assumes nothing.
use Rattle.appending.proofs.Storing.{appends_then}
use Rattle.lines.specs.Lines.{entry_line}
use Rattle.lines.proofs.put_entry.Goals as goal

pub returns : goal.returns
unfolding entry_line
returns c =
    appends_then (appends_then (appends_then c.put_number-comma_at.ensures c.put-verdict_at.ensures) c.put_number-end_at.ensures) c.put.ensures
