-- add_edges: the edges passed.
use Prim.Native.Nat.{◌+◌}
use Rattle.reach.specs.Columns.{Apart, Held}
use Rattle.reach.specs.Marks.{at, paired}
use Rattle.reach.proofs.steps.add_edges.Given as goal

abbrev pub invariant-loop-p : goal.invariant-loop-p
invariant-loop-p l = Apart l.place (l.place + 48) l.initial.steps l.steps × Held l.fn.edges (at (paired l.words) l.i) l.p-index l.steps l.place
