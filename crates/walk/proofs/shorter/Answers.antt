-- `shorter` meets its contract: each answer is the slice that the test picks. Assumes nothing.
use borrow.Author.Tests.{le-leb, lt-leb}
use lib.ListN.{length}
use Rattle.walk.proofs.shorter.Goals as goal

pub returns-then-a-b : goal.returns-then-a-b
returns-then-a-b c = simp (le-leb (length c.args.a.now) (length c.args.b.now) c.if-a-b.true)

pub returns-else-a-b : goal.returns-else-a-b
returns-else-a-b c = simp (lt-leb (length c.args.a.now) (length c.args.b.now) c.if-a-b.false)
