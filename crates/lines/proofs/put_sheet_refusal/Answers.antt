-- put_sheet_refusal meets its contract: its parts are appended one after the other. Assumes nothing.
use Rattle.appending.proofs.Storing.{appends_then}
use Rattle.lines.specs.Lines.{sheet_refusal_line}
use Rattle.lines.proofs.put_sheet_refusal.Goals as goal

pub returns : goal.returns
unfolding sheet_refusal_line
returns c = appends_then (appends_then (appends_then c.put_refused-comma_at.ensures c.put-field_at.ensures) c.put_number-end_at.ensures) c.put.ensures
