use lib.ListN.{length}
use Rattle.reach.specs.Marks.{paired}
use Rattle.graph.specs.Configurations.{graph_of}
use Rattle.shortest.specs.Descent.{Inside, number_of}
use Rattle.shortest.proofs.Traced.{Traced}
use Rattle.shortest.proofs.trace.trace.Given as goal

abbrev pub invariant-loop-k : goal.invariant-loop-k
invariant-loop-k l = Inside l.q.states (length (paired l.words)) l.here × Traced (graph_of l.arcs l.q (paired l.words)) l.dist l.initial.out (number_of l.q.states l.initial.here) l.out (number_of l.q.states l.here) l.k
