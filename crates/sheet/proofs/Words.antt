-- Words of bits: which are below a power of two, and what stays so with one bit more.
use Prim.Native.Nat.{ℕ, suc, ◌+◌, ◌*◌, ◌-◌, ◌/◌, ◌%◌, ◌^◌, ◌≤◌, ◌<◌}
use mathlib.Core.Path.{◌≡◌, ap, ◌∙◌}
use mathlib.Core.Bool.{false}
use mathlib.Core.Logic.{◌⊎◌, inl, inr}
use native.Mathlib.Nat.{div-eq_of_lt, div-lt_iff_lt-mul, mul-le-mul_right, add-mul, pow-suc}
use native.Mathlib.Omega.{arith}
use lib.Pow.{pow_pos, pow-add}
use lib.Dec.{eqb, ltb}
use borrow.Author.Tests.{lt-ltb, le-ltb, ne_eqb, eqb-false}
use Rattle.aldlf.specs.Sheet.{bit}
use Rattle.sheet.proofs.Bools.{split}

-- a word is below 2 ^ q where nothing is left of it without its q lowest bits
pub shifted_out : (w q : ℕ) → eqb (w / 2 ^ q) 0 ≡ ltb w (2 ^ q)
shifted_out w q = go (split (2 ^ q) w)
  where
    go : (2 ^ q ≤ w) ⊎ (w < 2 ^ q) → eqb (w / 2 ^ q) 0 ≡ ltb w (2 ^ q)
    go (inl h) = rw (le-ltb w (2 ^ q) h) (ne_eqb (w / 2 ^ q) 0 (λ e. let k : w / 2 ^ q < 1 = omega arith in omega (arith, (div-lt_iff_lt-mul (pow_pos q)).0 k)))
    go (inr h) = rw (div-eq_of_lt h, lt-ltb w (2 ^ q) h)

-- a bit more on a word that lacks it
pub clear_fits : (n w a : ℕ) → a < n → w < 2 ^ n → bit w a ≡ false → w + 2 ^ a < 2 ^ n
clear_fits n w a h k e =
    let d = n - suc a in
    let q = w / 2 ^ a in
    let en : n ≡ suc d + a = omega arith in
    let e1 : 2 ^ n ≡ 2 ^ suc d * 2 ^ a = ap (λ (m : ℕ). 2 ^ m) en ∙ pow-add 2 (suc d) a in
    let e2 : 2 ^ suc d ≡ 2 ^ d * 2 = pow-suc 2 d in
    let w1 : w < 2 ^ suc d * 2 ^ a = omega arith in
    let h1 : q < 2 ^ suc d = (div-lt_iff_lt-mul (pow_pos a)).1 w1 in
    let odd : q % 2 ≡ 1 → ⊥ = eqb-false (q % 2) 1 e in
    let h3 : q + 2 ≤ 2 ^ suc d = omega arith in
    let s1 : q < q + 1 = omega arith in
    let h4 : w < (q + 1) * 2 ^ a = (div-lt_iff_lt-mul (pow_pos a)).0 s1 in
    let h5 : (q + 2) * 2 ^ a ≤ 2 ^ suc d * 2 ^ a = mul-le-mul_right (2 ^ a) h3 in
    omega (arith, add-mul q 2 (2 ^ a), add-mul q 1 (2 ^ a))
