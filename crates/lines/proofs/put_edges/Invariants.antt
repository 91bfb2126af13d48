use Rattle.lines.specs.Lines.{edges_below}
use Rattle.appending.specs.Appending.{Appends}
use Rattle.lines.proofs.put_edges.Given as goal

abbrev pub invariant-loop-edge : goal.invariant-loop-edge
invariant-loop-edge l = Appends (edges_below l.edges l.edge-index) l.initial.out l.at l.out l.next
