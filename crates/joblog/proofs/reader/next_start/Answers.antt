-- next_start meets its contract: a line's bytes and its LF lie between the places of two lines. Assumes nothing.
use Rattle.joblog.proofs.Places.{start_line, start_end}
use Rattle.joblog.proofs.reader.next_start.Goals as goal

pub returns-then-at-bytes : goal.returns-then-at-bytes
returns-then-at-bytes c =
    let a = c.args in
    start_line a.bytes.now a.at c.line_at-line.result.now c.if-at-bytes.true c.line_at-line.ensures

pub returns : goal.returns
returns c = start_end c.args.bytes.now c.args.at c.if-at-bytes.false
