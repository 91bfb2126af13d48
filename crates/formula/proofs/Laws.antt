-- Laws of lists and of bits that the other files cite: some and all elements, stores in a row, the bits of a power of two.
use Prim.Native.Nat.{ℕ, zero, suc, ◌+◌, ◌-◌, ◌^◌, ◌≤◌, ◌<◌}
use native.Mathlib.Omega.{arith}
use native.Mathlib.Nat.{eq-or-lt_of_le, div_self, div-eq_of_lt, one-mul}
use mathlib.Core.Path.{◌≡◌, refl, sym, subst, ◌∙◌}
use mathlib.Core.Logic.{◌⊎◌, inl, inr, ⊎_elim}
use mathlib.Core.Bool.{false}
use mathlib.Core.List.{List, [], ◌∷◌, ◌++◌}
use lib.Dec.{eqb}
use lib.ListN.{get_or, length, set, length-set}
use lib.Seq.{get_or-set_same, get_or-set_other, sets}
use lib.Pow.{pow_pos, pow-lt, pow-add, shl-shr}
use lib.Bits.{shifted_even}
use borrow.Author.Tests.{eq-eqb, ne_eqb}
use Rattle.aldlf.specs.Sheet.{bit}
use Rattle.sheet.proofs.Bools.{split}

-- some element of a list has Q
abbrev pub Some : {A : Type 0} → (A → Type 0) → List A → Type 0
Some Q [] = ⊥
Some Q (x ∷ xs) = Q x ⊎ Some Q xs

-- all elements have it
abbrev pub All : {A : Type 0} → (A → Type 0) → List A → Type 0
All Q [] = Unit {0}
All Q (x ∷ xs) = Q x × All Q xs

module _ {A : Type 0} (Q : A → Type 0) where
  pub some_append : (xs ys : List A) → Some Q (xs ++ ys) → Some Q xs ⊎ Some Q ys
  some_append [] ys h = inr h
  some_append (x ∷ xs) ys (inl h) = inl (inl h)
  some_append (x ∷ xs) ys (inr h) = ⊎_elim (λ z. inl (inr z)) (λ z. inr z) (some_append xs ys h)

  pub some_left : (xs ys : List A) → Some Q xs → Some Q (xs ++ ys)
  some_left [] ys h = elim h [ ]
  some_left (x ∷ xs) ys (inl h) = inl h
  some_left (x ∷ xs) ys (inr h) = inr (some_left xs ys h)

  pub some_right : (xs ys : List A) → Some Q ys → Some Q (xs ++ ys)
  some_right [] ys h = h
  some_right (x ∷ xs) ys h = inr (some_right xs ys h)

  pub some_at : (d : A) (l : List A) (x : ℕ) → x < length l → Q (get_or l x d) → Some Q l
  some_at d [] x h q = absurd (omega arith)
  some_at d (y ∷ l) zero h q = inl q
  some_at d (y ∷ l) (suc x) h q = inr (some_at d l x (omega arith) q)

  pub at_some : (d : A) (l : List A) → Some Q l → (x : ℕ) × (x < length l) × Q (get_or l x d)
  at_some d [] q = elim q [ ]
  at_some d (y ∷ l) (inl q) = (0, omega arith, q)
  at_some d (y ∷ l) (inr q) = let r = at_some d l q in (suc r.0, (let h = r.1 in omega arith), r.2)

  pub all_append : (xs ys : List A) → All Q xs → All Q ys → All Q (xs ++ ys)
  all_append [] ys h k = k
  all_append (x ∷ xs) ys h k = (h.0, all_append xs ys h.1 k)

-- stores in a row, from place i on: what stands before them, and what they put
pub sets_before : {A : Type 0} (vs l : List A) (i j : ℕ) (d : A) → j < i → get_or (sets l i vs) j d ≡ get_or l j d
sets_before [] l i j d h = refl
sets_before (v ∷ vs) l i j d h = sets_before vs (set l i v) (suc i) j d (omega arith) ∙ get_or-set_other l i j v d (λ e. omega arith)

pub sets_at : {A : Type 0} (vs l : List A) (i x : ℕ) (d : A) → x < length vs → i + length vs ≤ length l → get_or (sets l i vs) (i + x) d ≡ get_or vs x d
sets_at [] l i x d h r = absurd (omega arith)
sets_at (v ∷ vs) l i zero d h r =
    let e : i + 0 ≡ i = omega arith in
    rw e (sets_before vs (set l i v) (suc i) i d (omega arith) ∙ get_or-set_same l i v d (omega arith))
sets_at (v ∷ vs) l i (suc x) d h r =
    let e : i + suc x ≡ suc i + x = omega arith in
    rw e (sets_at vs (set l i v) (suc i) x d (omega arith) (rw (length-set l i v) (omega arith)))

-- bit s of 2^x
pub bit_power : (x s : ℕ) → bit (2 ^ x) s ≡ eqb s x
bit_power x s = cases (split s x)
  where
    below : (j : ℕ) → bit (2 ^ (suc j + s)) s ≡ false
    below j = rw (pow-add 2 (suc j) s, shl-shr (2 ^ suc j) s, ← one-mul (2 ^ suc j), shifted_even 1 j) refl

    cases : (s ≤ x) ⊎ (x < s) → bit (2 ^ x) s ≡ eqb s x
    cases (inl l) = ⊎_elim
        (λ (e : s ≡ x). subst (λ (z : ℕ). bit (2 ^ z) s ≡ eqb s z) e (rw (div_self (pow_pos s), eq-eqb s s refl) refl))
        (λ (h : s < x). subst (λ (z : ℕ). bit (2 ^ z) s ≡ eqb s z) (let e : suc (x - suc s) + s ≡ x = omega arith in e)
        (below (x - suc s) ∙ sym (ne_eqb s (suc (x - suc s) + s) (λ e. omega arith))))
        (eq-or-lt_of_le l)
    cases (inr h) = rw (div-eq_of_lt (pow-lt h), ne_eqb s x (λ e. omega arith)) refl
