-- A configuration's entry and state without a division: the product with the reciprocal exceeds 262,144 times the entry by less than 262,144.
use Prim.Native.Nat.{ℕ, suc, ◌+◌, ◌*◌, ◌-◌, ◌/◌, ◌%◌, ◌≤◌, ◌<◌}
use native.Mathlib.Nat.{div-add-mod', div-le_self, mod-lt, mul-add, add-mul, mul_assoc, mul_comm, suc-mul, mul-le-mul, mul-le-mul_left, mul-le-mul_right, div-eq_of_lt-le}
use native.Mathlib.Omega.{arith}
use mathlib.Core.Path.{◌≡◌, ap, sym, ◌∙◌}
use mathlib.Core.Logic.{⊎_elim}
use Rattle.aldlf.proofs.Bools.{lt-or-le}
use Rattle.graph.specs.Configurations.{reciprocal_of}

module _ (c s m : ℕ) (l : c < 8192) (some : 0 < s) (few : s ≤ 16) (is : m ≡ reciprocal_of s) where
  abbrev k : ℕ
  k = 262144 / s

  abbrev a : ℕ
  a = c / s

  abbrev r : ℕ
  r = 262144 % s

  whole : k * s + r ≡ 262144
  whole = div-add-mod' 262144 s

  -- c times k is 262,144 times the entry and the state's part, less what the rounding takes
  parts : c * k + a * r ≡ a * 262144 + c % s * k
  parts =
      let x : c * k ≡ a * s * k + c % s * k = ap (λ (y : ℕ). y * k) (sym (div-add-mod' c s)) ∙ add-mul (a * s) (c % s) k in
      let y : a * s * k ≡ a * (k * s) = mul_assoc a s k ∙ ap (λ (z : ℕ). a * z) (mul_comm s k) in
      let z : a * 262144 ≡ a * (k * s) + a * r = ap (λ (y : ℕ). a * y) (sym whole) ∙ mul-add a (k * s) r in
      omega arith

  large : 8191 < k
  large =
      ⊎_elim (λ x. x)
      (λ x. absurd (let y = mul-le-mul {n₁ = k} {m₁ = s} {n₂ = 8191} {m₂ = 16} x few in omega (arith, whole, mod-lt 262144 some)))
      (lt-or-le 8191 k)

  by_reciprocal : c * (k + 1) / 262144 ≡ a
  by_reciprocal =
      let p = mul-add c k 1 in
      let u = mul-le-mul_left {m = r} {n = s} a (omega (arith, mod-lt 262144 some)) in
      let v = mul-le-mul_right {m = suc (c % s)} {n = s} k (mod-lt c some) in
      let w = suc-mul (c % s) k in
      div-eq_of_lt-le 262144 (omega (arith, parts, div-add-mod' c s)) (omega (arith, parts, large, whole, mul_comm s k))

  pub entry_is : c * m / 262144 ≡ c / s
  entry_is = ap (λ (x : ℕ). c * x / 262144) is ∙ by_reciprocal

  pub product_fits : c * m < 4294967296
  product_fits = let x = mul-le-mul {n₁ = c} {m₁ = m} {n₂ = 8191} {m₂ = 262145} (omega arith) (omega (arith, is, div-le_self 262144 s)) in omega arith

  pub state_left : c - c * m / 262144 * s ≡ c % s
  state_left = ap (λ (x : ℕ). c - x * s) entry_is ∙ (let y = div-add-mod' c s in omega arith)

  pub below : (c * m / 262144 ≤ c) × (c * m / 262144 * s ≤ c) × (c % s < 16)
  below =
      let y : c * m / 262144 * s ≡ a * s = ap (λ (x : ℕ). x * s) entry_is in
      (omega (arith, entry_is, div-le_self c s), omega (arith, div-add-mod' c s), omega (arith, mod-lt c some))
