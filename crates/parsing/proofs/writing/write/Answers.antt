-- `write` meets its contract: an instruction is stored where there is room. Assumes nothing.
use native.Mathlib.Omega.{arith}
use Rattle.parsing.specs.Work.{is_set}
use Rattle.parsing.proofs.Putting.{put_in, put_none}
use Rattle.parsing.proofs.writing.write.Goals as goal

pub returns-then-w-out : goal.returns-then-w-out
returns-then-w-out c = let a = c.args in put_in a.w.length a.code (is_set a.w.modal) (is_set a.w.stray) a.out.now (omega arith)

pub returns : goal.returns
returns c = let a = c.args in put_none a.w.length a.code (is_set a.w.modal) (is_set a.w.stray) a.out.now (omega arith)
