-- Laws of Bools, of orders by tests, and of tests over the numbers below a bound.
use Prim.Native.Nat.{ℕ, zero, suc, ◌+◌, ◌≤◌, ◌<◌}
use native.Mathlib.Omega.{arith}
use mathlib.Core.Path.{◌≡◌, refl, sym, subst, ap₂, ◌∙◌}
use mathlib.Core.Logic.{◌⊎◌, inl, inr, ◌↔◌}
use mathlib.Core.Bool.{Bool, true, false, not, ◌&&◌, ◌||◌, false≢true, not-not}
use lib.Dec.{eqb, ltb}
use borrow.Author.Tests.{eqb-true, eqb-false, ltb-true, ltb-false}
use Rattle.aldlf.specs.Stands.{any_below}
use Rattle.aldlf.specs.Verdict.{facing}
use Rattle.aldlf.specs.Outcomes.{one, count_below}

pub and_intro : {a b : Bool} → a ≡ true → b ≡ true → a && b ≡ true
and_intro {a = true} {b} p q = q
and_intro {a = false} {b} p q = p

pub and_left : (a b : Bool) → a && b ≡ true → a ≡ true
and_left true b p = refl
and_left false b p = p

pub and_right : (a b : Bool) → a && b ≡ true → b ≡ true
and_right true b p = p
and_right false b p = absurd (false≢true p)

pub or_left : {a : Bool} (b : Bool) → a ≡ true → a || b ≡ true
or_left {a = true} b p = refl
or_left {a = false} b p = absurd (false≢true p)

pub or_right : (a : Bool) {b : Bool} → b ≡ true → a || b ≡ true
or_right true p = refl
or_right false p = p

pub or_cases : (a b : Bool) → a || b ≡ true → (a ≡ true) ⊎ (b ≡ true)
or_cases true b p = inl refl
or_cases false b p = inr p

pub bool_cases : (a : Bool) → (a ≡ true) ⊎ (a ≡ false)
bool_cases true = inl refl
bool_cases false = inr refl

pub not_intro : (b : Bool) → ¬ (b ≡ true) → not b ≡ true
not_intro true z = absurd (z refl)
not_intro false z = refl

-- two Bools are equal where each is true when the other is
pub bool_ext : (a b : Bool) → (a ≡ true → b ≡ true) → (b ≡ true → a ≡ true) → a ≡ b
bool_ext true b f g = sym (f refl)
bool_ext false true f g = g refl
bool_ext false false f g = refl

pub eq_iff : (a b : Bool) → a ≡ b → (a ≡ true) ↔ (b ≡ true)
eq_iff a b e = (λ p. sym e ∙ p, λ p. e ∙ p)

-- the right side of a conjunction matters only where the left one is true
pub and_same : (a b c : Bool) → (a ≡ true → b ≡ c) → a && b ≡ a && c
and_same true b c f = f refl
and_same false b c f = refl

-- turned round twice
pub facing_twice : (want b : Bool) → facing want (facing want b) ≡ b
facing_twice true b = refl
facing_twice false b = not-not b

pub lt-or-le : (a b : ℕ) → (a < b) ⊎ (b ≤ a)
lt-or-le a b = go (bool_cases (ltb a b))
  where
    go : (ltb a b ≡ true) ⊎ (ltb a b ≡ false) → (a < b) ⊎ (b ≤ a)
    go (inl e) = inl (ltb-true a b e)
    go (inr e) = inr (ltb-false a b e)

pub any_intro : (n : ℕ) (p : ℕ → Bool) (c : ℕ) → c < n → p c ≡ true → any_below n p ≡ true
any_intro zero p c h q = absurd (omega arith)
any_intro (suc n) p c h q = go (bool_cases (eqb c n)) (λ l. any_intro n p c l q)
  where
    go : (eqb c n ≡ true) ⊎ (eqb c n ≡ false) → (c < n → any_below n p ≡ true) → any_below (suc n) p ≡ true
    go (inl e) rec = or_left (any_below n p) (subst (λ (y : ℕ). p y ≡ true) (eqb-true c n e) q)
    go (inr e) rec = let ne : ¬ (c ≡ n) = eqb-false c n e in or_right (p n) (rec (omega arith))

pub any_elim : (n : ℕ) (p : ℕ → Bool) → any_below n p ≡ true → (c : ℕ) × (c < n) × (p c ≡ true)
any_elim zero p q = absurd (false≢true q)
any_elim (suc n) p q = go (or_cases (p n) (any_below n p) q) (any_elim n p)
  where
    go : (p n ≡ true) ⊎ (any_below n p ≡ true) → (any_below n p ≡ true → (c : ℕ) × (c < n) × (p c ≡ true)) → (c : ℕ) × (c < suc n) × (p c ≡ true)
    go (inl e) rec = (n, omega arith, e)
    go (inr e) rec = let r : (c : ℕ) × (c < n) × (p c ≡ true) = rec e in (r.0, omega arith, r.2)

one_le : (b : Bool) → one b ≤ 1
one_le true = omega arith
one_le false = omega arith

pub count_le : (n : ℕ) (p : ℕ → Bool) → count_below n p ≤ n
count_le zero p = omega arith
count_le (suc n) p = omega (arith, one_le (p n), count_le n p)

pub count_cong : (n : ℕ) (p q : ℕ → Bool) → ((i : ℕ) → i < n → p i ≡ q i) → count_below n p ≡ count_below n q
count_cong zero p q e = refl
count_cong (suc n) p q e = ap₂ (λ (b : Bool) (x : ℕ). one b + x) (e n (omega arith)) (count_cong n p q (λ i l. e i (omega arith)))
