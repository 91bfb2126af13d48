-- Lists by their elements: f 0, f 1, .. listed, and tests that all of a list pass.
use Prim.Native.Nat.{ℕ, zero, suc, ◌<◌}
use mathlib.Core.Path.{◌≡◌, refl, ap, sym, ◌∙◌}
use mathlib.Core.Bool.{Bool, true, ◌&&◌, and_assoc}
use mathlib.Core.List.{List, [], ◌∷◌, ◌++◌}
use native.Mathlib.Omega.{arith}
use lib.ListN.{length, get_or}
use Rattle.crossing.specs.Numbers.{listed, all_of}

module _ {X : Type 0} where
  -- one more at the end
  pub listed_suc : (n : ℕ) (f : ℕ → X) → listed (suc n) f ≡ listed n f ++ (f n ∷ [])
  unfolding listed
  listed_suc zero f = refl
  listed_suc (suc n) f = ap (λ (l : List X). f zero ∷ l) (listed_suc n (λ i. f (suc i)))

  pub listed-length : (n : ℕ) (f : ℕ → X) → length (listed n f) ≡ n
  unfolding listed
  listed-length zero f = refl
  listed-length (suc n) f = ap suc (listed-length n (λ i. f (suc i)))

  pub listed_at : (n : ℕ) (f : ℕ → X) (k : ℕ) (d : X) → k < n → get_or (listed n f) k d ≡ f k
  unfolding listed
  listed_at zero f k d h = absurd (omega arith)
  listed_at (suc n) f zero d h = refl
  listed_at (suc n) f (suc k) d h = listed_at n (λ i. f (suc i)) k d (omega arith)

  pub listed_same : (n : ℕ) (f g : ℕ → X) → ((i : ℕ) → i < n → f i ≡ g i) → listed n f ≡ listed n g
  unfolding listed
  listed_same zero f g h = refl
  listed_same (suc n) f g h =
      let first : f zero ≡ g zero = h zero (omega arith) in
      let rest : listed n (λ i. f (suc i)) ≡ listed n (λ i. g (suc i)) = listed_same n (λ i. f (suc i)) (λ i. g (suc i)) (λ i p. h (suc i) (omega arith)) in
      cc

  -- a list is its own elements, listed
  pub listed_elements : (xs : List X) (d : X) → listed (length xs) (λ i. get_or xs i d) ≡ xs
  unfolding listed
  listed_elements [] d = refl
  listed_elements (x ∷ xs) d = ap (λ (l : List X). x ∷ l) (listed_elements xs d)

  pub all_append : (p : X → Bool) (xs ys : List X) → all_of p (xs ++ ys) ≡ all_of p xs && all_of p ys
  unfolding all_of
  all_append p [] ys = refl
  all_append p (x ∷ xs) ys = ap (λ (b : Bool). p x && b) (all_append p xs ys) ∙ sym (and_assoc (p x) (all_of p xs) (all_of p ys))

  -- all pass where each place does
  pub all_by : (p : X → Bool) (xs : List X) (d : X) → ((k : ℕ) → k < length xs → p (get_or xs k d) ≡ true) → all_of p xs ≡ true
  unfolding all_of
  all_by p [] d h = refl
  all_by p (x ∷ xs) d h =
      let a : p x ≡ true = h zero (omega arith) in
      let b = all_by p xs d (λ k i. h (suc k) (omega arith)) in
      rw (a, b)
