-- cut_field meets its contract: the bytes up to the comma are the field. Assumes nothing.
use native.Mathlib.Omega.{arith}
use lib.ListN.{length-take}
use Rattle.text.proofs.cut_field.Goals as goal

pub slice_bounds-read_number-end : goal.slice_bounds-read_number-end
slice_bounds-read_number-end c = simp length-take (omega arith)
