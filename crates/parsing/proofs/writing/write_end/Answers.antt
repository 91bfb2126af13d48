-- `write_end` meets its contract. Assumes nothing.
use Rattle.parsing.specs.Work.{work_of}
use Rattle.parsing.proofs.Putting.{ended_is}
use Rattle.parsing.proofs.writing.write_end.Goals as goal

pub returns : goal.returns
returns c = ended_is c.args.code (work_of c.args.w c.args.out.now) c.write-x.ensures
