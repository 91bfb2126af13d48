-- put_no_walk meets its contract: the line is a text of its own. Assumes nothing.
use Rattle.lines.specs.Lines.{no_walk_line}
use Rattle.lines.proofs.put_no_walk.Goals as goal

pub returns : goal.returns
unfolding no_walk_line
returns c = c.put_bytes.ensures
