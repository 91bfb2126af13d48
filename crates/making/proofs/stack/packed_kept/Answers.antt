-- `packed_kept` meets its contract: what was packed as an edge comes out as one. Assumes nothing.
use mathlib.Core.Path.{ap}
use Rattle.aldlf.specs.declared.Edge.{Edge}
use Rattle.making.specs.declared.stack.Kept.{Kept}
use Rattle.making.proofs.stack.packed_kept.Goals as goal

abbrev kept_back : Edge → Kept
kept_back e = record { a = e.from.0; b = e.dir; c = e.test.0; d = e.to.0 }

pub returns : goal.returns
returns c = ap (λ (e : Edge). kept_back e) c.packed_edge.ensures.1
