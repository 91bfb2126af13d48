-- line_at meets its contract: the bytes up to the LF, of what stands from the place on, are the line. Assumes nothing.
use native.Mathlib.Omega.{arith}
use mathlib.Core.Path.{◌∙◌, ap}
use lib.ListN.{length-take}
use Prim.Native.Nat.{ℕ}
use mathlib.Core.List.{List}
use lib.ListN.{take}
use Rattle.text.specs.Text.{up_to}
use Rattle.text.proofs.line_at.Goals as goal

pub slice_bounds-result-end : goal.slice_bounds-result-end
slice_bounds-result-end c = simp length-take (omega arith)

pub returns : goal.returns
returns c = ap (λ (k : ℕ). take k c.rest_from-rest.result.now) c.up_to-n.ensures.0 ∙ ap (λ (l : List ℕ). take (up_to 10 l) l) c.rest_from-rest.ensures
