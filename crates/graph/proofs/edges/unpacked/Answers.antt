-- `unpacked` meets its contract: each field is the number that the definition takes. Assumes nothing.
use mathlib.Core.Path.{refl}
use Rattle.graph.specs.Arcs.{unpacked_of}
use Rattle.graph.proofs.edges.unpacked.Goals as goal

pub returns : goal.returns
unfolding unpacked_of
returns c = refl
