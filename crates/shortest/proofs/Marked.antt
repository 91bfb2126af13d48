-- How many numbers of a list are not `far`.
use mathlib.Core.Path.{◌≡◌, refl, ap}
use mathlib.Core.List.{List, [], ◌∷◌}
use mathlib.Core.Bool.{Bool, true, false}
use Prim.Native.Nat.{ℕ, zero, suc, ◌≤◌, ◌<◌}
use lib.Dec.{eqb}
use native.Mathlib.Nat.{le_of_suc-le-suc, not-suc-le-zero}
use native.Mathlib.Omega.{arith}
use borrow.Author.Tests.{eq-eqb, ne_eqb}
use lib.ListN.{length, set}
use Rattle.graph.specs.Graph.{far, at}
use Rattle.shortest.specs.Progress.{pick, marked}

pick-le : (b : Bool) (n m : ℕ) → n ≤ m → pick b n ≤ suc m
pick-le true n m h = omega arith
pick-le false n m h = omega arith

pick-lt : (b : Bool) (n m : ℕ) → n < m → pick b n < suc m
pick-lt true n m h = omega arith
pick-lt false n m h = omega arith

pub marked-le : (l : List ℕ) → marked l ≤ length l
marked-le [] = omega arith
marked-le (x ∷ l) = pick-le (eqb x far) (marked l) (length l) (marked-le l)

-- where an element is far, some are not marked
pub marked-lt : (l : List ℕ) (i : ℕ) → i < length l → at l i ≡ far → marked l < length l
marked-lt [] i h e = absurd (not-suc-le-zero h)
marked-lt (x ∷ l) zero h e = rw (eq-eqb x far e) (let k = marked-le l in omega arith)
marked-lt (x ∷ l) (suc i) h e = pick-lt (eqb x far) (marked l) (length l) (marked-lt l i (le_of_suc-le-suc h) e)

-- where all are far, none is marked
pub marked_none : (l : List ℕ) → ((i : ℕ) → i < length l → at l i ≡ far) → marked l ≡ 0
marked_none [] f = refl
marked_none (x ∷ l) f = rw (eq-eqb x far (f 0 (omega arith))) (marked_none l (λ i h. f (suc i) (omega arith)))

pick-suc : (b : Bool) (n m : ℕ) → n ≡ suc m → pick b n ≡ suc (pick b m)
pick-suc true n m e = e
pick-suc false n m e = ap suc e

-- a store over far marks one more
pub marked_set : (l : List ℕ) (i v : ℕ) → i < length l → at l i ≡ far → (v ≡ far → ⊥) → marked (set l i v) ≡ suc (marked l)
marked_set [] i v h e ne = absurd (not-suc-le-zero h)
marked_set (x ∷ l) zero v h e ne = rw (eq-eqb x far e, ne_eqb v far ne)
marked_set (x ∷ l) (suc i) v h e ne = pick-suc (eqb x far) _ _ (marked_set l i v (le_of_suc-le-suc h) e ne)
