-- `numbered` meets its contract: the product divided is the entry. Assumes nothing.
use Rattle.graph.proofs.Reciprocals.{entry_is, product_fits, state_left, below}
use native.Mathlib.Omega.{arith}
use Rattle.graph.proofs.Reciprocals.{entry_is, product_fits, state_left, below}
use native.Mathlib.Omega.{arith}
use Rattle.graph.proofs.moves.numbered.Goals as goal

pub overflow_mul-j : goal.overflow_mul-j
overflow_mul-j c = omega (arith, product_fits c.args.c c.args.states c.args.reciprocal c.requires.0 c.requires.1 c.requires.2 c.requires.3)

pub overflow_cast-j-2 : goal.overflow_cast-j-2
overflow_cast-j-2 c = omega (arith, (below c.args.c c.args.states c.args.reciprocal c.requires.0 c.requires.1 c.requires.2 c.requires.3).0)

pub overflow_mul-result : goal.overflow_mul-result
overflow_mul-result c = omega (arith, (below c.args.c c.args.states c.args.reciprocal c.requires.0 c.requires.1 c.requires.2 c.requires.3).1)

pub overflow_sub-result : goal.overflow_sub-result
overflow_sub-result c = (below c.args.c c.args.states c.args.reciprocal c.requires.0 c.requires.1 c.requires.2 c.requires.3).1

pub overflow_cast-result : goal.overflow_cast-result
overflow_cast-result c = omega (arith, state_left c.args.c c.args.states c.args.reciprocal c.requires.0 c.requires.1 c.requires.2 c.requires.3, (below c.args.c c.args.states c.args.reciprocal c.requires.0 c.requires.1 c.requires.2 c.requires.3).2)

pub returns : goal.returns
returns c = (state_left c.args.c c.args.states c.args.reciprocal c.requires.0 c.requires.1 c.requires.2 c.requires.3, entry_is c.args.c c.args.states c.args.reciprocal c.requires.0 c.requires.1 c.requires.2 c.requires.3)
