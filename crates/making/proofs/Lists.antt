-- Lists that are read out of numbers: what a store, a run of stores and a part of the numbers is then. By induction over the list.
use Prim.Native.Nat.{ℕ, zero, suc, ◌+◌, ◌-◌, ◌≤◌, ◌<◌}
use mathlib.Core.Path.{◌≡◌, refl, ap, sym, ◌∙◌}
use mathlib.Core.List.{List, [], ◌∷◌, ◌++◌, map}
use native.Mathlib.Omega.{arith}
use native.Mathlib.Numerals.{add-one}
use borrow.Rule.Slice.PartMut.{put_mid}
use Rattle.std.proofs.lemmas.List.Edits.{sets-eq}
use Rattle.std.proofs.lemmas.List.{append_assoc, drop-drop}
use lib.ListN.{length, get_or, take, drop, set, length-map, get_or-map}
use lib.Seq.{sets, take-suc, take-suc-set, length-take-le, get_or-drop, take_all}

module _ {A B : Type 0} (f : A → B) where
  pub map-set : (l : List A) (i : ℕ) (a : A) → map f (set l i a) ≡ set (map f l) i (f a)
  map-set [] i a = refl
  map-set (x ∷ xs) zero a = refl
  map-set (x ∷ xs) (suc i) a = ap (λ (l : List B). f x ∷ l) (map-set xs i a)

  pub map_sets : (l : List A) (i : ℕ) (vs : List A) → map f (sets l i vs) ≡ sets (map f l) i (map f vs)
  map_sets l i [] = refl
  map_sets l i (v ∷ vs) = map_sets (set l i v) (suc i) vs ∙ ap (λ (z : List B). sets z (suc i) (map f vs)) (map-set l i v)

  pub map-take : (n : ℕ) (l : List A) → map f (take n l) ≡ take n (map f l)
  map-take zero [] = refl
  map-take zero (x ∷ xs) = refl
  map-take (suc n) [] = refl
  map-take (suc n) (x ∷ xs) = ap (λ (l : List B). f x ∷ l) (map-take n xs)

  pub map-drop : (n : ℕ) (l : List A) → map f (drop n l) ≡ drop n (map f l)
  map-drop zero [] = refl
  map-drop zero (x ∷ xs) = refl
  map-drop (suc n) [] = refl
  map-drop (suc n) (x ∷ xs) = map-drop n xs

  -- the first n, after a store at place n
  pub stored : (l : List A) (n : ℕ) (a : A) (b : B) → n < length l → f a ≡ b → take (n + 1) (map f (set l n a)) ≡ take n (map f l) ++ (b ∷ [])
  stored l n a b h e =
      let k : n < length (map f l) = rw (length-map l f) h in
      rw (add-one, map-set l n a, e) (take-suc-set (map f l) n b k)

  pub first_length : (l : List A) (n : ℕ) → n ≤ length l → length (take n (map f l)) ≡ n
  first_length l n h = length-take-le n (map f l) (rw (length-map l f) h)

  -- the first i read one by one, and the next one
  pub copied_one : (xs : List A) (r : List B) (i : ℕ) (v : B) (d : A) → i < length xs → i < length r → take i r ≡ take i (map f xs) → v ≡ f (get_or xs i d) → take (i + 1) (set r i v) ≡ take (i + 1) (map f xs)
  copied_one xs r i v d h k e g =
      let l : i < length (map f xs) = rw (length-map xs f) h in
      rw (add-one)
      (take-suc-set r i v k ∙ ap (λ (z : List B). z ++ (v ∷ [])) e ∙ ap (λ (z : B). take i (map f xs) ++ (z ∷ [])) (g ∙ sym (get_or-map f xs i d)) ∙ sym (take-suc (map f xs) i (f d) l))

  pub copied_all : (xs : List A) (r : List B) (i n : ℕ) → length xs ≡ n → length r ≡ n → n ≤ i → i ≤ n → take i r ≡ take i (map f xs) → r ≡ map f xs
  copied_all xs r i n h k l m e =
      let z = length-map xs f in
      sym (take_all i r (omega arith)) ∙ e ∙ take_all i (map f xs) (omega arith)

module _ {A : Type 0} where
  -- the part from b to n
  pub drop-take : (b n : ℕ) (l : List A) → b ≤ n → drop b (take n l) ≡ take (n - b) (drop b l)
  drop-take zero n l h = let z : n - 0 ≡ n = omega arith in rw z
  drop-take (suc b) zero l h = absurd (omega arith)
  drop-take (suc b) (suc n) [] h = sym (lib.Seq.take-nil (suc n - suc b))
  drop-take (suc b) (suc n) (x ∷ l) h = let z : suc n - suc b ≡ n - b = omega arith in rw z (drop-take b n l (omega arith))

  -- a run of stores is what is copied over a part
  pub put_sets : (l : List A) (i k : ℕ) (es : List A) → i + length es ≤ length l → k ≡ length es → put_mid i k l es ≡ sets l i es
  put_sets l i k es h e = ap (λ (z : List A). take i l ++ (es ++ z)) (drop-drop k i l ∙ ap (λ (m : ℕ). drop m l) (let z : i + k ≡ i + length es = omega arith in z)) ∙ sym (append_assoc (take i l) es (drop (i + length es) l)) ∙ sym (sets-eq es l i h)
