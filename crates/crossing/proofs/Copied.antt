-- A copy, element by element: the first k agree, then all.
use Prim.Native.Nat.{ℕ, ◌+◌, ◌<◌, ◌≤◌}
use mathlib.Core.Path.{◌≡◌, ap, sym, ◌∙◌}
use mathlib.Core.List.{List, [], ◌∷◌, ◌++◌}
use native.Mathlib.Numerals.{add-one}
use lib.ListN.{length, get_or, take, set}
use lib.Seq.{take-suc, take-suc-set, take_all}

pub copied_next : (to from : List ℕ) (k : ℕ) → k < length to → k < length from → take k to ≡ take k from
    → take (k + 1) (set to k (get_or from k 0)) ≡ take (k + 1) from
copied_next to from k h i e =
    ap (λ (n : ℕ). take n (set to k (get_or from k 0))) (add-one k)
    ∙ take-suc-set to k (get_or from k 0) h
    ∙ ap (λ (l : List ℕ). l ++ (get_or from k 0 ∷ [])) e
    ∙ sym (ap (λ (n : ℕ). take n from) (add-one k) ∙ take-suc from k 0 i)

pub copied_all : (to from : List ℕ) (k : ℕ) → length to ≤ k → length from ≤ k → take k to ≡ take k from → to ≡ from
copied_all to from k h i e = sym (take_all k to h) ∙ e ∙ take_all k from i
