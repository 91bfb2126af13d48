-- The states with a step into a mask: one target state more, none, and as the states beside an entry.
use Prim.Native.Nat.{ℕ, ◌+◌, ◌^◌, ◌≤◌, ◌<◌}
use native.Mathlib.Omega.{arith}
use mathlib.Core.Path.{◌≡◌, refl, sym, subst, ap, ◌∙◌}
use mathlib.Core.Logic.{◌⊎◌, inl, inr}
use mathlib.Core.Bool.{Bool, true, false, true≢false}
use mathlib.Core.List.{List}
use lib.Bits.{bit_or, or_lt}
use lib.Dec.{eqb, ltb}
use borrow.Author.Tests.{eqb-true, eqb-false, ltb-true, ltb-false}
use Rattle.aldlf.specs.Constants.{state_limit}
use Rattle.aldlf.specs.Sheet.{bit}
use Rattle.aldlf.proofs.Bools.{bool_cases}
use Rattle.reach.specs.Marks.{at, pick}
use Rattle.reach.specs.Columns.{Pulled}
use Rattle.reach.specs.Steps.{Beside}
use Rattle.reach.proofs.Masks.{bit_high}
use Rattle.reach.proofs.Bits.{bit-zero, in_left, in_right, in_either}

no_bit : (s : ℕ) → bit 0 s ≡ true → ⊥
no_bit s b = true≢false (sym b ∙ bit-zero s)

pub pulled_none : (C : List ℕ) (p mask : ℕ) → Pulled C p mask 0 0
pulled_none C p mask = record { fits = omega arith; all = λ s t l. absurd (omega arith); sound = λ s b. absurd (no_bit s b) }

-- no step leads into an empty mask
pub pulled_empty : (C : List ℕ) (p mask n : ℕ) → mask ≡ 0 → Pulled C p mask n 0
pulled_empty C p mask n e = record { fits = omega arith; all = λ s t l m. absurd (no_bit t (ap (λ (z : ℕ). bit z t) (sym e) ∙ m)); sound = λ s b. absurd (no_bit s b) }

pub pulled_next : (C : List ℕ) (p mask n r v : ℕ) → at C (p + n) < 2 ^ state_limit → Pulled C p mask n r → v ≡ pick (bit mask n) (bit_or r (at C (p + n))) r → Pulled C p mask (n + 1) v
pulled_next C p mask n r v small R e = subst (Pulled C p mask (n + 1)) (sym e) (go (bit mask n) refl)
  where
    go : (b : Bool) → bit mask n ≡ b → Pulled C p mask (n + 1) (pick b (bit_or r (at C (p + n))) r)
    go true m = record { fits = or_lt state_limit r (at C (p + n)) R.fits small; all = λ s t l b c. all' s t l b c (bool_cases (eqb t n)); sound = λ s b. sound' s (in_either r (at C (p + n)) s b) }
      where
        all' : (s t : ℕ) → t < n + 1 → bit mask t ≡ true → bit (at C (p + t)) s ≡ true → (eqb t n ≡ true) ⊎ (eqb t n ≡ false) → bit (bit_or r (at C (p + n))) s ≡ true
        all' s t l b c (inl q) = in_right r (at C (p + n)) s (subst (λ (z : ℕ). bit (at C (p + z)) s ≡ true) (eqb-true t n q) c)
        all' s t l b c (inr q) = let ne = eqb-false t n q in in_left r (at C (p + n)) s (R.all s t (omega arith) b c)

        sound' : (s : ℕ) → (bit r s ≡ true) ⊎ (bit (at C (p + n)) s ≡ true) → (t : ℕ) × (t < n + 1) × (bit mask t ≡ true) × (bit (at C (p + t)) s ≡ true)
        sound' s (inl b) = let w = R.sound s b in (w.0, omega (arith, w.1), w.2, w.3)
        sound' s (inr b) = (n, omega arith, m, b)
    go false m = record { fits = R.fits; all = λ s t l b c. all' s t l b c (bool_cases (eqb t n)); sound = λ s b. let w = R.sound s b in (w.0, omega (arith, w.1), w.2, w.3) }
      where
        all' : (s t : ℕ) → t < n + 1 → bit mask t ≡ true → bit (at C (p + t)) s ≡ true → (eqb t n ≡ true) ⊎ (eqb t n ≡ false) → bit r s ≡ true
        all' s t l b c (inl q) = absurd (true≢false (sym b ∙ ap (bit mask) (eqb-true t n q) ∙ m))
        all' s t l b c (inr q) = let ne = eqb-false t n q in R.all s t (omega arith) b c

-- the first columns are enough for a mask of the first states
pub pulled_low : (C : List ℕ) (p mask n m r : ℕ) → n ≤ m → mask < 2 ^ n → Pulled C p mask n r → Pulled C p mask m r
pulled_low C p mask n m r l small R = record {
  fits = R.fits;
  all = λ s t lt b c. all' s t b c (bool_cases (ltb t n));
  sound = λ s b. let w = R.sound s b in (w.0, omega (arith, w.1), w.2, w.3);
}
  where
    all' : (s t : ℕ) → bit mask t ≡ true → bit (at C (p + t)) s ≡ true → (ltb t n ≡ true) ⊎ (ltb t n ≡ false) → bit r s ≡ true
    all' s t b c (inl q) = R.all s t (ltb-true t n q) b c
    all' s t b c (inr q) = absurd (true≢false (sym b ∙ bit_high n mask t small (ltb-false t n q)))

pub beside_on : (on : Bool) (C : List ℕ) (p mask r : ℕ) → on ≡ true → Pulled C p mask state_limit r → Beside on C p mask r
beside_on on C p mask r e R = record { fits = R.fits; none = λ off. absurd (true≢false (sym e ∙ off)); all = λ _. R.all; sound = R.sound }

pub beside_off : (on : Bool) (C : List ℕ) (p mask : ℕ) → on ≡ false → Beside on C p mask 0
beside_off on C p mask off = record { fits = omega arith; none = λ _. refl; all = λ e. absurd (true≢false (sym e ∙ off)); sound = λ s b. absurd (no_bit s b) }
