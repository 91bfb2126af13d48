-- `start_of` meets its contract. Assumes nothing.
use mathlib.Core.Path.{refl}
use Rattle.graph.proofs.Priors.{config_fits}
use native.Mathlib.Omega.{arith}
use Rattle.shortest.proofs.start_of.Goals as goal

pub overflow_mul-result : goal.overflow_mul-result
overflow_mul-result c = omega (arith, config_fits c.args.query.entry.0 c.args.query.automaton.states c.args.query.automaton.start.0 c.requires.2 c.requires.1 c.requires.0)

pub overflow_add-result : goal.overflow_add-result
overflow_add-result c = omega (arith, config_fits c.args.query.entry.0 c.args.query.automaton.states c.args.query.automaton.start.0 c.requires.2 c.requires.1 c.requires.0)

pub returns : goal.returns
returns c = (refl, config_fits c.args.query.entry.0 c.args.query.automaton.states c.args.query.automaton.start.0 c.requires.2 c.requires.1 c.requires.0)
