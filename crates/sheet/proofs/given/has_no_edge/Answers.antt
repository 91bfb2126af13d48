-- `has_no_edge` meets its contract: four bytes are zeros where the number that they make is. Assumes nothing.
use Prim.Native.Nat.{ℕ, zero, suc, ◌+◌, ◌*◌, ◌/◌, ◌%◌}
use borrow.Author.Tests.{eq-eqb, ne_eqb}
use lib.Dec.{eqb}
use mathlib.Core.Bool.{◌&&◌}
use mathlib.Core.Path.{◌≡◌}
use native.Mathlib.Omega.{arith}
use Rattle.sheet.proofs.given.has_no_edge.Goals as goal

zeros : (a b d e m : ℕ) → m ≡ a + 256 * b + 65536 * d + 16777216 * e → eqb m 0 ≡ eqb a 0 && eqb b 0 && eqb d 0 && eqb e 0
zeros zero zero zero zero m k = eq-eqb m 0 (omega arith)
zeros zero zero zero (suc e) m k = rw (ne_eqb (suc e) 0 (λ z. omega arith)) (ne_eqb m 0 (λ z. omega arith))
zeros zero zero (suc d) e m k = rw (ne_eqb (suc d) 0 (λ z. omega arith)) (ne_eqb m 0 (λ z. omega arith))
zeros zero (suc b) d e m k = rw (ne_eqb (suc b) 0 (λ z. omega arith)) (ne_eqb m 0 (λ z. omega arith))
zeros (suc a) b d e m k = rw (ne_eqb (suc a) 0 (λ z. omega arith)) (ne_eqb m 0 (λ z. omega arith))

pub returns : goal.returns
returns c = let p = c.args.p in zeros (p % 256) (p / 256 % 256) (p / 65536 % 256) (p / 16777216 % 256) p (omega arith)
