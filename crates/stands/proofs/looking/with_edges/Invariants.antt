use Prim.Native.Nat.{◌+◌}
use mathlib.Core.Path.{◌≡◌}
use mathlib.Core.Bool.{◌||◌}
use Rattle.aldlf.specs.Sheet.{ahead, back, sheet_of}
use Rattle.aldlf.specs.Stands.{any_below, same_dir}
use Rattle.aldlf.specs.declared.Table.{Table}
use Rattle.packing.specs.Packed.{Packed}
use Rattle.stands.proofs.looking.with_edges.Given as goal

abbrev pub invariant-loop-c : goal.invariant-loop-c
invariant-loop-c l =
    ((t : Table) → Packed t l.numbers
    → (l.ahead ≡ l.fn.looks.ahead || any_below l.c (λ e. same_dir ((sheet_of t).edge (l.x.first + e)).dir ahead)) × (l.back ≡ l.fn.looks.back || any_below l.c (λ e. same_dir ((sheet_of t).edge (l.x.first + e)).dir back)))
