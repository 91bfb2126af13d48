-- `search` meets its contract: the walk falls along the distances just found. Assumes nothing.
use Rattle.reach.specs.Marks.{paired}
use Rattle.graph.specs.Configurations.{graph_of, start_of}
use Rattle.shortest.specs.Goals.{GoalAt}
use Rattle.shortest.proofs.Greedy.{descends}
use Rattle.walk.proofs.search.search.Goals as goal

pub show-requires-clause-descends : goal.show-requires-clause-descends
show-requires-clause-descends g c = let q = c.args.query.automaton in descends (graph_of c.args.arcs.now q (paired c.args.words.now)) (GoalAt (paired c.args.words.now) q c.args.query.goal) _ (start_of q c.args.query.entry.0) c.distances.ensures
