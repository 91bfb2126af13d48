-- `fill` meets its contract: after i turns the first i bytes are written. Assumes nothing.
use Rattle.cases.proofs.Texts.{written_next}
use Rattle.cases.proofs.fill.Goals as goal

pub loop-i-preserved : goal.loop-i-preserved
loop-i-preserved c = written_next _ _ _ _ _ _ c.loop-i.invariant c.byte_at.ensures
