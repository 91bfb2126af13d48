-- Whether a node is plain goes by the nodes up to it alone, and a place all zeros holds none.
use Prim.Native.Nat.{ℕ, suc, ◌+◌, ◌≤◌, ◌<◌}
use mathlib.Core.Path.{◌≡◌, refl, ap, sym, ◌∙◌}
use mathlib.Core.List.{List, [], ◌∷◌, ◌++◌}
use mathlib.Core.Bool.{Bool, true, false, ◌&&◌, ◌||◌}
use native.Mathlib.Omega.{arith}
use lib.ListN.{length, get_or, take, drop, set, length-set, length-drop, take-append-drop}
use lib.Seq.{get_or-drop, get_or-set_other, length-take-le, set-get_or, take-set-le}
use lib.Dec.{ltb, eqb}
use borrow.Author.Tests.{eqb-true, le-ltb}
use Rattle.aldlf.specs.Constants.{node_limit}
use Rattle.aldlf.specs.Sheet.{no_line}
use Rattle.aldlf.specs.declared.NodeLine.{NodeLine}
use Rattle.sheet.specs.Questions.{plain_node, plain_from}
use Rattle.sheet.specs.Given.{is_no_line, nodes_end}
use Rattle.sheet.proofs.Bools.{both}
use Rattle.sheet.proofs.Each.{each_at}

-- whether node k is plain goes by the nodes up to k alone
pub from_append : (xs ys : List NodeLine) (i : ℕ) (p : List Bool) → plain_from (xs ++ ys) i p ≡ plain_from ys (i + length xs) (plain_from xs i p)
unfolding plain_from
from_append [] ys i p = ap (λ (n : ℕ). plain_from ys n p) e
  where
    e : i ≡ i + 0
    e = omega arith
from_append (x ∷ xs) ys i p = from_append xs ys (i + 1) (set p i (plain_node p x)) ∙ ap (λ (n : ℕ). plain_from ys n (plain_from xs (i + 1) (set p i (plain_node p x)))) e
  where
    e : i + 1 + length xs ≡ i + suc (length xs)
    e = omega arith

-- flags below the place at hand are not written again
pub from_keep : (ys : List NodeLine) (i k : ℕ) (p : List Bool) (d : Bool) → k < i → get_or (plain_from ys i p) k d ≡ get_or p k d
unfolding plain_from
from_keep [] i k p d h = refl
from_keep (y ∷ ys) i k p d h = from_keep ys (i + 1) k (set p i (plain_node p y)) d (omega arith) ∙ get_or-set_other p i k (plain_node p y) d (omega arith)

plain_prefix : (xs : List NodeLine) (k : ℕ) (p : List Bool) → k < length xs → get_or (plain_from xs 0 p) k false ≡ get_or (plain_from (take (suc k) xs) 0 p) k false
plain_prefix xs k p h =
    let n = length-take-le (suc k) xs h in
    ap (λ (l : List NodeLine). get_or (plain_from l 0 p) k false) (sym (take-append-drop (suc k) xs))
    ∙ ap (λ (q : List Bool). get_or q k false) (from_append (take (suc k) xs) (drop (suc k) xs) 0 p)
    ∙ from_keep (drop (suc k) xs) (0 + length (take (suc k) xs)) k (plain_from (take (suc k) xs) 0 p) false (omega arith)

pub plain_set : (xs : List NodeLine) (n k : ℕ) (v : NodeLine) (p : List Bool) → k < n → n < length xs → get_or (plain_from (set xs n v) 0 p) k false ≡ get_or (plain_from xs 0 p) k false
plain_set xs n k v p h w =
    plain_prefix (set xs n v) k p (rw (length-set xs n v) (omega arith))
    ∙ ap (λ (l : List NodeLine). get_or (plain_from l 0 p) k false) (take-set-le (suc k) xs n v h)
    ∙ sym (plain_prefix xs k p (omega arith))

-- places all zeros change no flag where their flags are false already
no_plain : (p : List Bool) (x : NodeLine) → is_no_line x ≡ true → plain_node p x ≡ false
no_plain p x h =
    let a = both (eqb x.kind 0 && eqb x.a 0) (eqb x.b 0) h in
    let e = eqb-true x.kind 0 (both (eqb x.kind 0) (eqb x.a 0) a.0).0 in
    rw e

rest_same : (xs : List NodeLine) (i n : ℕ) (p : List Bool) → i + length xs ≤ n → ((k : ℕ) → k < length xs → is_no_line (get_or xs k no_line) ≡ true) → ((k : ℕ) → i ≤ k → k < n → get_or p k false ≡ false) → plain_from xs i p ≡ p
unfolding plain_from
rest_same [] i n p h z f = refl
rest_same (x ∷ xs) i n p h z f =
    ap (λ (b : Bool). plain_from xs (i + 1) (set p i b)) (no_plain p x (z 0 (omega arith)) ∙ sym (f i (omega arith) (omega arith)))
    ∙ ap (plain_from xs (i + 1)) (set-get_or p i false)
    ∙ rest_same xs (i + 1) n p (omega arith) (λ k w. z (suc k) (omega arith)) (λ k w v. f k (omega arith) v)

pub plains_rest : (xs : List NodeLine) (n i : ℕ) (p : List Bool) → length xs ≡ node_limit → nodes_end xs n ≡ true → n ≤ i → i ≤ node_limit → ((k : ℕ) → i ≤ k → k < node_limit → get_or p k false ≡ false) → plain_from (drop i xs) i p ≡ p
unfolding nodes_end
plains_rest xs n i p l e h m f = rest_same (drop i xs) i node_limit p (omega (arith, length-drop i xs)) (λ k w. ap is_no_line (get_or-drop i xs k no_line) ∙ zero-at (i + k) (omega arith) (omega (arith, length-drop i xs))) f
  where
    zero-at : (j : ℕ) → n ≤ j → j < node_limit → is_no_line (get_or xs j no_line) ≡ true
    zero-at j u w = rw (le-ltb j n u) at (each_at (λ k. ltb k n || is_no_line (get_or xs k no_line)) node_limit j e w)
