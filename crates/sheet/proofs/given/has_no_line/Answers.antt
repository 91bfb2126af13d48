-- `has_no_line` meets its contract: three bytes are zeros where the number that they make is. Assumes nothing.
use Prim.Native.Nat.{ℕ, zero, suc, ◌+◌, ◌*◌, ◌/◌, ◌%◌}
use borrow.Author.Tests.{eq-eqb, ne_eqb}
use lib.Dec.{eqb}
use mathlib.Core.Bool.{◌&&◌}
use mathlib.Core.Path.{◌≡◌}
use native.Mathlib.Omega.{arith}
use Rattle.sheet.proofs.given.has_no_line.Goals as goal

zeros : (a b d m : ℕ) → m ≡ a + 256 * b + 65536 * d → eqb m 0 ≡ eqb a 0 && eqb b 0 && eqb d 0
zeros zero zero zero m e = eq-eqb m 0 (omega arith)
zeros zero zero (suc d) m e = rw (ne_eqb (suc d) 0 (λ z. omega arith)) (ne_eqb m 0 (λ z. omega arith))
zeros zero (suc b) d m e = rw (ne_eqb (suc b) 0 (λ z. omega arith)) (ne_eqb m 0 (λ z. omega arith))
zeros (suc a) b d m e = rw (ne_eqb (suc a) 0 (λ z. omega arith)) (ne_eqb m 0 (λ z. omega arith))

pub returns : goal.returns
returns c = let p = c.args.p in zeros (p % 256) (p / 256 % 256) (p / 65536 % 256) (p % 16777216) (omega arith)
