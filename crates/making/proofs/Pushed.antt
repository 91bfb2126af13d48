-- The numbers of a stack as what is kept: one more, the last one, and the rest.
use Prim.Native.Nat.{ℕ, zero, suc, ◌+◌, ◌-◌, ◌≤◌, ◌<◌}
use mathlib.Core.Path.{◌≡◌, refl, ap, ◌∙◌}
use mathlib.Core.List.{List, ◌∷◌}
use native.Mathlib.Omega.{arith}
use native.Mathlib.Numerals.{add-one}
use lib.ListN.{length, get_or, take, set}
use lib.Seq.{get_or-set_same, get_or-set_other, length-take-le}
use Rattle.std.specs.List.{slice_get}
use Rattle.std.specs.Option.{unwrap_or}
use Rattle.std.proofs.lemmas.Option.{unwrap_or-slice_get}
use Rattle.std.proofs.lemmas.List.{get_or-take}
use Rattle.making.specs.declared.stack.Kept.{Kept}
use Rattle.making.specs.Run.{last_of, rest_of}
use Rattle.making.specs.Numbers.{kept_in, kept_of}

kept_below : (xs : List ℕ) (i n p : ℕ) → n ≤ i → kept_of (set xs i p) n ≡ kept_of xs n
unfolding kept_of
kept_below xs i zero p h = refl
kept_below xs i (suc n) p h = rw (get_or-set_other xs i n p 0 (λ e. omega arith), kept_below xs i n p (omega arith))

pub pushed : (xs : List ℕ) (n p : ℕ) (k : Kept) → n < length xs → kept_in p ≡ k → kept_of (set xs n p) (n + 1) ≡ k ∷ kept_of xs n
unfolding kept_of
pushed xs n p k h e =
    rw (add-one)
    (ap (λ (z : ℕ). kept_in z ∷ kept_of (set xs n p) n) (get_or-set_same xs n p 0 h)
    ∙ ap (λ (z : Kept). z ∷ kept_of (set xs n p) n) e
    ∙ ap (λ (s : List Kept). k ∷ s) (kept_below xs n n p (omega arith)))

module _ (xs : List ℕ) where
  -- what is below the last one
  pub rest_is : (n : ℕ) → kept_of xs (n - 1) ≡ rest_of (kept_of xs n)
  unfolding kept_of
  rest_is zero = refl
  rest_is (suc n) = let z : suc n - 1 ≡ n = omega arith in rw z

  -- what is last of the first n numbers, if anything is
  last_of_first : (n : ℕ) → n ≤ length xs → kept_in (get_or (take n xs) (length (take n xs) - 1) 0) ≡ last_of (kept_of xs n)
  unfolding kept_of
  last_of_first zero h = refl
  last_of_first (suc n) h =
      let z : length (take (suc n) xs) - 1 ≡ n = omega (arith, length-take-le (suc n) xs h) in
      rw (z, get_or-take (suc n) xs n 0 (omega arith))

  pub last_is : (n : ℕ) → n ≤ length xs → kept_in (unwrap_or (slice_get (take n xs) (length (take n xs) - 1)) 0) ≡ last_of (kept_of xs n)
  last_is n h = ap kept_in (unwrap_or-slice_get (take n xs) (length (take n xs) - 1) 0) ∙ last_of_first n h
