-- `raise` meets its contract, for an entry that is there and for one that is not. Assumes nothing.
use Rattle.reach.proofs.Turns.{raised_on, raised_out}
use Rattle.reach.proofs.spreading.raise.Goals as goal

pub returns-then-j-todo : goal.returns-then-j-todo
returns-then-j-todo c = λ g lg e. raised_on g _ _ _ lg e c.if-j-todo.true

pub returns-else-j-todo : goal.returns-else-j-todo
returns-else-j-todo c = λ g lg e. raised_out g _ _ c.if-j-todo.false
