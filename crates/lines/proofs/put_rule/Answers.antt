-- put_rule meets its contract: its parts are appended one after the other. Assumes nothing.
use Rattle.appending.proofs.Storing.{appends_then}
use Rattle.lines.specs.Lines.{rule_line}
use Rattle.lines.proofs.put_rule.Goals as goal

pub returns : goal.returns
unfolding rule_line
returns c =
    appends_then (appends_then (appends_then (appends_then (appends_then (appends_then c.put_bytes-verdict_at.ensures c.put_number-held_at.ensures) c.put_bytes-count_at.ensures) c.put_number-of_at.ensures) c.put_bytes-length_at.ensures) c.put_number-end_at.ensures) c.put.ensures
