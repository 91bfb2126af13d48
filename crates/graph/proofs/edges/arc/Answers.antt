-- `arc` meets its contract: no field reaches into the next. Assumes nothing.
use Prim.Native.Nat.{ℕ, ◌+◌, ◌*◌, ◌%◌}
use mathlib.Core.Path.{sym, subst}
use Rattle.graph.specs.Arcs.{Arc}
use Rattle.graph.proofs.Arcs.{arc_made}
use Rattle.graph.proofs.edges.arc.Goals as goal

pub returns : goal.returns
returns c = let a = c.args in
    subst (λ (y : ℕ). Arc a.x (a.into % 65536) (a.out % 65536) (y + 4294967296 * (a.into % 65536) + 281474976710656 * (a.out % 65536))) (sym c.packed_edge.ensures.0)
    (arc_made a.x a.into a.out c.requires)
