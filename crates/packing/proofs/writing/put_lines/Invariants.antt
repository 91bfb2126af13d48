-- put_lines: those passed stand in their places.
use Prim.Native.Nat.{ℕ}
use Rattle.aldlf.specs.Sheet.{no_line}
use Rattle.packing.specs.Numbers.{line_in, lines_place}
use Rattle.packing.specs.Packed.{Put}
use lib.ListN.{get_or}
use mathlib.Core.Path.{◌≡◌}
use Rattle.packing.proofs.writing.put_lines.Given as goal

abbrev pub invariant-loop-k : goal.invariant-loop-k
invariant-loop-k l = Put (λ (k p : ℕ). line_in p ≡ get_or l.fn.nodes k no_line) lines_place l.k l.initial.numbers l.numbers
