-- `is_clear` meets its contract: past the word's end every bit is clear. Assumes nothing.
use Rattle.sheet.proofs.Asked.{clear_beyond}
use Rattle.sheet.proofs.questions.is_clear.Goals as goal

pub returns-then-a-ge16 : goal.returns-then-a-ge16
returns-then-a-ge16 c = clear_beyond c.args.w c.args.a c.ranges.w.fits c.if-a-ge16.true
