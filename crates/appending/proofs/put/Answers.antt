-- put meets its contract: with room the byte is stored, without it nothing is. Assumes nothing.
use Rattle.appending.proofs.Storing.{appends_byte, appends_full}
use Rattle.appending.proofs.put.Goals as goal

pub returns-then-at-out : goal.returns-then-at-out
returns-then-at-out c = appends_byte c.args.out.now c.args.at c.args.byte c.if-at-out.true

pub returns : goal.returns
returns c = appends_full c.args.out.now c.args.at c.args.byte c.if-at-out.false
