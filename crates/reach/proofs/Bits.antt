-- Bits of joined and of common masks, and one bit alone.
use Prim.Native.Nat.{ℕ, zero, suc, ◌+◌, ◌^◌, ◌/◌, ◌%◌, ◌≤◌, ◌<◌}
use native.Mathlib.Omega.{arith}
use native.Mathlib.Nat.{mod-lt}
use mathlib.Core.Path.{◌≡◌, refl, sym, subst, ap, ◌∙◌}
use mathlib.Core.Logic.{◌⊎◌, inl, inr}
use mathlib.Core.List.{List}
use mathlib.Core.Bool.{Bool, true, false, ◌&&◌, ◌||◌}
use lib.Bits.{bit_and, bit_or, and_shr, or_shr, and_mod, or_mod, or_add_and, and_le_r}
use lib.Dec.{eqb}
use lib.ListN.{length, set}
use lib.Seq.{get_or-set_same, get_or-set_other}
use borrow.Author.Tests.{eq-eqb, eqb-true, eqb-false}
use Rattle.aldlf.specs.Sheet.{bit}
use Rattle.reach.specs.Marks.{at}
use Rattle.aldlf.proofs.Bools.{bool_cases, or_left, or_right, or_cases}
use Rattle.reach.proofs.Masks.{bit_high, bit-add}

-- two digits
or_digit : (x y : ℕ) → x < 2 → y < 2 → eqb (bit_or x y) 1 ≡ eqb x 1 || eqb y 1
or_digit zero zero a b = refl
or_digit zero (suc zero) a b = refl
or_digit (suc zero) zero a b = refl
or_digit (suc zero) (suc zero) a b = refl
or_digit (suc (suc x)) y a b = absurd (omega arith)
or_digit zero (suc (suc y)) a b = absurd (omega arith)
or_digit (suc zero) (suc (suc y)) a b = absurd (omega arith)

and_digit : (x y : ℕ) → x < 2 → y < 2 → eqb (bit_and x y) 1 ≡ eqb x 1 && eqb y 1
and_digit zero zero a b = refl
and_digit zero (suc zero) a b = refl
and_digit (suc zero) zero a b = refl
and_digit (suc zero) (suc zero) a b = refl
and_digit (suc (suc x)) y a b = absurd (omega arith)
and_digit zero (suc (suc y)) a b = absurd (omega arith)
and_digit (suc zero) (suc (suc y)) a b = absurd (omega arith)

pub bit-or : (a b k : ℕ) → bit (bit_or a b) k ≡ bit a k || bit b k
bit-or a b k = ap (λ (z : ℕ). eqb (z % 2) 1) (or_shr a b k) ∙ ap (λ (z : ℕ). eqb z 1) (or_mod (a / 2 ^ k) (b / 2 ^ k) 1)
    ∙ or_digit (a / 2 ^ k % 2) (b / 2 ^ k % 2) (mod-lt (a / 2 ^ k) {m = 2} (omega arith)) (mod-lt (b / 2 ^ k) {m = 2} (omega arith))

pub bit-and : (a b k : ℕ) → bit (bit_and a b) k ≡ bit a k && bit b k
bit-and a b k = ap (λ (z : ℕ). eqb (z % 2) 1) (and_shr a b k) ∙ ap (λ (z : ℕ). eqb z 1) (and_mod (a / 2 ^ k) (b / 2 ^ k) 1)
    ∙ and_digit (a / 2 ^ k % 2) (b / 2 ^ k % 2) (mod-lt (a / 2 ^ k) {m = 2} (omega arith)) (mod-lt (b / 2 ^ k) {m = 2} (omega arith))

pub le_or : (a b : ℕ) → a ≤ bit_or a b
le_or a b = omega (arith, or_add_and a b, and_le_r a b)

pub bit-zero : (k : ℕ) → bit 0 k ≡ false
bit-zero k = bit_high 0 0 k (omega arith) (omega arith)

-- what an or has
pub in_left : (a b s : ℕ) → bit a s ≡ true → bit (bit_or a b) s ≡ true
in_left a b s p = bit-or a b s ∙ or_left (bit b s) p

pub in_right : (a b s : ℕ) → bit b s ≡ true → bit (bit_or a b) s ≡ true
in_right a b s p = bit-or a b s ∙ or_right (bit a s) p

pub in_either : (a b s : ℕ) → bit (bit_or a b) s ≡ true → (bit a s ≡ true) ⊎ (bit b s ≡ true)
in_either a b s p = or_cases (bit a s) (bit b s) (sym (bit-or a b s) ∙ p)

-- the mask of one bit
pub bit_one : (q s u : ℕ) → s < q → u < q → bit (2 ^ s) u ≡ eqb u s
bit_one q s u ls lu = go (eqb u s) (bit-zero u) (subst (λ (z : ℕ). bit z u ≡ eqb u s || bit 0 u) (omega arith) (bit-add q 0 s (omega (arith, lib.Pow.pow_pos q)) ls (bit-zero s) u lu))
  where
    go : (b : Bool) → bit 0 u ≡ false → bit (2 ^ s) u ≡ b || bit 0 u → bit (2 ^ s) u ≡ b
    go true z e = e
    go false z e = e ∙ z

pub one_self : (q s : ℕ) → s < q → bit (2 ^ s) s ≡ true
one_self q s l = bit_one q s s l l ∙ eq-eqb s s refl

-- words that agree where a mask has bits have the same bits there
pub bit_agree : (a b mask k : ℕ) → bit_and a mask ≡ bit_and b mask → bit mask k ≡ true → bit a k ≡ bit b k
bit_agree a b mask k e m = sym (with-true (bit a k) (bit mask k) m) ∙ sym (bit-and a mask k) ∙ ap (λ (z : ℕ). bit z k) e ∙ bit-and b mask k ∙ with-true (bit b k) (bit mask k) m
  where
    with-true : (x y : Bool) → y ≡ true → x && y ≡ x
    with-true true y e = e
    with-true false y e = refl

-- what holds of the first c places of those that f tells apart, and of the number stored at the next
pub stored : (f : ℕ → ℕ) (l : List ℕ) (c v : ℕ) (P : ℕ → ℕ → Type 0) → ((d : ℕ) → f d ≡ f c → d ≡ c) → f c < length l → P c v → ((d : ℕ) → d < c → P d (at l (f d)))
    → (d : ℕ) → d < c + 1 → P d (at (set l (f c) v) (f d))
stored f l c v P apart h q old d ld = go (bool_cases (eqb d c))
  where
    go : (eqb d c ≡ true) ⊎ (eqb d c ≡ false) → P d (at (set l (f c) v) (f d))
    go (inl e) = subst (λ (k : ℕ). P k (at (set l (f c) v) (f k))) (sym (eqb-true d c e)) (subst (P c) (sym (get_or-set_same l (f c) v 0 h)) q)
    go (inr e) = let ne = eqb-false d c e in subst (P d) (sym (get_or-set_other l (f c) (f d) v 0 (λ z. ne (apart d z)))) (old d (omega arith))
