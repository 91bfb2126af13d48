use Rattle.sheet.proofs.Lent.{whole_from}
use Rattle.sheet.specs.Questions.{whole_of}
use Rattle.aldlf.specs.declared.Table.{Table}
use Rattle.packing.specs.Packed.{Packed}
use Prim.Native.Nat.{◌+◌}
use mathlib.Core.Path.{◌≡◌}
use Rattle.sheet.proofs.closing.whole_of.Given as goal

abbrev pub invariant-loop-m : goal.invariant-loop-m
invariant-loop-m l = (t : Table) → Packed t l.numbers → whole_of t ≡ l.m + whole_from t l.m
