-- `stray_by` meets its contract, case by case. Assumes nothing.
use Rattle.parsing.specs.Work.{is_set}
use Rattle.parsing.proofs.Putting.{stray_test, stray_plain, stray_step}
use Rattle.parsing.proofs.writing.stray_by.Goals as goal

pub returns-then-code-eq116 : goal.returns-then-code-eq116
returns-then-code-eq116 c = let a = c.args in stray_test a.code (is_set a.modal) (is_set a.stray) c.if-code-eq116.true

pub returns-then-modal-eq0 : goal.returns-then-modal-eq0
returns-then-modal-eq0 c = let a = c.args in stray_plain a.code a.modal (is_set a.stray) c.if-modal-eq0.true

pub returns : goal.returns
returns c = let a = c.args in stray_step a.code a.modal (is_set a.stray) c.if-code-eq116.false c.if-modal-eq0.false
