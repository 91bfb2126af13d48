-- put_walk meets its contract: its parts are appended one after the other. Assumes nothing.
use Rattle.appending.proofs.Storing.{appends_then}
use Rattle.lines.specs.Lines.{walk_line}
use Rattle.lines.proofs.put_walk.Goals as goal

pub returns : goal.returns
unfolding walk_line
returns c =
    appends_then (appends_then (appends_then c.put_bytes-length_at.ensures c.put_number-edges_at.ensures) c.put_edges-end_at.ensures) c.put.ensures
