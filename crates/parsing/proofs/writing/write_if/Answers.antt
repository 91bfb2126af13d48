-- `write_if` meets its contract. Assumes nothing.
use Rattle.parsing.specs.Work.{work_of}
use Rattle.parsing.proofs.Putting.{waits_yes, waits_no}
use Rattle.parsing.proofs.writing.write_if.Goals as goal

pub returns-then-waits : goal.returns-then-waits
returns-then-waits c = waits_yes c.args.code (work_of c.args.w c.args.out.now) c.if-waits.true c.write.ensures

pub returns : goal.returns
returns c = waits_no c.args.code c.if-waits.false
