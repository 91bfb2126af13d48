-- `write_step` meets its contract. Assumes nothing.
use Rattle.parsing.specs.Work.{is_set, work_of}
use Rattle.parsing.proofs.Putting.{stepped_is}
use Rattle.parsing.proofs.writing.write_step.Goals as goal

pub returns : goal.returns
returns c = let a = c.args in stepped_is a.code (work_of a.w a.out.now) (is_set c.stray_by.result) c.write-x.ensures c.stray_by.ensures
