use Rattle.sheet.specs.Questions.{plain_from, plains}
use Rattle.aldlf.specs.Constants.{node_limit}
use Rattle.aldlf.specs.declared.Table.{Table}
use Rattle.packing.specs.Packed.{Packed}
use Prim.Native.Nat.{ℕ, ◌≤◌, ◌<◌}
use mathlib.Core.Path.{◌≡◌}
use mathlib.Core.Bool.{false}
use lib.ListN.{length, get_or, drop}
use Rattle.sheet.proofs.given.plains_in.Given as goal

abbrev pub invariant-loop-k : goal.invariant-loop-k
invariant-loop-k l = (length l.p ≡ node_limit) × ((i : ℕ) → l.k ≤ i → i < node_limit → get_or l.p i false ≡ false) × ((t : Table) → Packed t l.numbers → plain_from (drop l.k t.nodes) l.k l.p ≡ plains t.nodes)
