-- Pieces written one after the other: the numbers of the first k pieces stand from a place on, and a number is found again at its place.
use Prim.Native.Nat.{ℕ, zero, suc, ◌+◌, ◌*◌, ◌<◌}
use mathlib.Core.Path.{◌≡◌, refl, ap, sym, ◌∙◌}
use mathlib.Core.List.{List, [], ◌∷◌, ◌++◌, append_assoc, append-nil}
use native.Mathlib.Omega.{arith}
use native.Mathlib.Numerals.{add-one}
use native.Mathlib.Nat.{add-zero, add-suc, suc-add, mul-suc, mul-zero}
use lib.ListN.{length, get_or, take, drop, set, length-append, get_or-append}
use lib.Seq.{sets, sets-eq, take-suc, drop-length, get_or-append-add, length-take-le}
use Rattle.aldlf.specs.Constants.{node_limit, automaton_limit, edge_limit}
use Rattle.aldlf.specs.declared.Table.{Table}
use Rattle.crossing.specs.Numbers.{line_size, automaton_size, edge_size, automata_place, edges_place, used_place, table_size, line_numbers, automaton_numbers, edge_numbers, used_numbers, numbers_of, table_numbers}

-- a run of stores after another is one run
pub sets_append : (ys zs l : List ℕ) (p : ℕ) → sets (sets l p ys) (p + length ys) zs ≡ sets l p (ys ++ zs)
sets_append [] zs l p = ap (λ (k : ℕ). sets l k zs) (add-zero p)
sets_append (y ∷ ys) zs l p =
    ap (λ (k : ℕ). sets (sets (set l p y) (suc p) ys) k zs) (add-suc p (length ys) ∙ sym (suc-add p (length ys)))
    ∙ sets_append ys zs (set l p y) (suc p)

module _ {X : Type 0} (f : X → List ℕ) where
  numbers_append : (xs ys : List X) → numbers_of f (xs ++ ys) ≡ numbers_of f xs ++ numbers_of f ys
  unfolding numbers_of
  numbers_append [] ys = refl
  numbers_append (x ∷ xs) ys = ap (λ (l : List ℕ). f x ++ l) (numbers_append xs ys) ∙ sym (append_assoc (f x) (numbers_of f xs) (numbers_of f ys))

  numbers_one : (x : X) → numbers_of f (x ∷ []) ≡ f x
  unfolding numbers_of
  numbers_one x = append-nil (f x)

  pub numbers_next : (xs : List X) (k : ℕ) (d : X) → k < length xs → numbers_of f (take (k + 1) xs) ≡ numbers_of f (take k xs) ++ f (get_or xs k d)
  numbers_next xs k d h =
      ap (λ (n : ℕ). numbers_of f (take n xs)) (add-one k)
      ∙ ap (numbers_of f) (take-suc xs k d h)
      ∙ numbers_append (take k xs) (get_or xs k d ∷ [])
      ∙ ap (λ (l : List ℕ). numbers_of f (take k xs) ++ l) (numbers_one (get_or xs k d))

  module _ (w : ℕ) (size : (x : X) → length (f x) ≡ w) where
    pub numbers_length : (xs : List X) → length (numbers_of f xs) ≡ w * length xs
    unfolding numbers_of
    numbers_length [] = omega (arith, mul-zero w)
    numbers_length (x ∷ xs) =
        length-append (f x) (numbers_of f xs)
        ∙ (omega (arith, size x, numbers_length xs, mul-suc w (length xs)))

    -- pieces written so far, and one more
    pub put_next : (o out out' : List ℕ) (xs : List X) (p k : ℕ) (d : X) → k < length xs
        → out ≡ sets o p (numbers_of f (take k xs))
        → out' ≡ sets out (p + w * k) (f (get_or xs k d))
        → out' ≡ sets o p (numbers_of f (take (k + 1) xs))
    put_next o out out' xs p k d h e e' =
        let n : length (numbers_of f (take k xs)) ≡ w * k = numbers_length (take k xs) ∙ ap (λ (m : ℕ). w * m) (length-take-le k xs (omega arith)) in
        e'
        ∙ ap (λ (l : List ℕ). sets l (p + w * k) (f (get_or xs k d))) e
        ∙ ap (λ (m : ℕ). sets (sets o p (numbers_of f (take k xs))) (p + m) (f (get_or xs k d))) (sym n)
        ∙ sets_append (numbers_of f (take k xs)) (f (get_or xs k d)) o p
        ∙ ap (sets o p) (sym (numbers_next xs k d h))

    -- number j of piece k, with any numbers after the pieces
    pub number_at : (xs : List X) (rest : List ℕ) (k j : ℕ) (d : X) → k < length xs → j < w → get_or (numbers_of f xs ++ rest) (w * k + j) 0 ≡ get_or (f (get_or xs k d)) j 0
    unfolding numbers_of
    number_at [] rest k j d h i = absurd (omega arith)
    number_at (x ∷ xs) rest zero j d h i =
        let s = size x in
        ap (λ (l : List ℕ). get_or l (w * zero + j) 0) (append_assoc (f x) (numbers_of f xs) rest)
        ∙ ap (λ (n : ℕ). get_or (f x ++ (numbers_of f xs ++ rest)) n 0) (omega arith)
        ∙ get_or-append (f x) (numbers_of f xs ++ rest) 0 j (omega arith)
    number_at (x ∷ xs) rest (suc k) j d h i =
        let s = size x in
        let n : w * suc k + j ≡ length (f x) + (w * k + j) = omega (arith, s, mul-suc w k) in
        ap (λ (l : List ℕ). get_or l (w * suc k + j) 0) (append_assoc (f x) (numbers_of f xs) rest)
        ∙ ap (λ (n : ℕ). get_or (f x ++ (numbers_of f xs ++ rest)) n 0) n
        ∙ get_or-append-add (f x) (numbers_of f xs ++ rest) (w * k + j) 0
        ∙ number_at xs rest k j d (omega arith) i

-- a run of stores that takes the whole list
pub sets_all : (ys l : List ℕ) → length ys ≡ length l → sets l 0 ys ≡ ys
sets_all ys l h =
    let n : 0 + length ys ≡ length l = omega arith in
    sets-eq ys l 0 (omega arith) ∙ ap (λ (m : ℕ). ys ++ drop m l) n ∙ ap (λ (r : List ℕ). ys ++ r) (drop-length l) ∙ append-nil ys

-- the places after p, as the code counts them and as a run of stores does
pub record Places (p : ℕ) : Type 0 where
  pub one : p + 1 ≡ suc p
  pub two : p + 2 ≡ suc (suc p)
  pub three : p + 3 ≡ suc (suc (suc p))
  pub four : p + 4 ≡ suc (suc (suc (suc p)))
  pub five : p + 5 ≡ suc (suc (suc (suc (suc p))))

pub places : (p : ℕ) → Places p
places p = record { one = omega arith; two = omega arith; three = omega arith; four = omega arith; five = omega arith }

-- a run of stores after those from place 0 on
after : (ys zs o : List ℕ) (p : ℕ) → length ys ≡ p → sets (sets o 0 ys) p zs ≡ sets o 0 (ys ++ zs)
after ys zs o p h =
    let n : p ≡ 0 + length ys = omega arith in
    ap (λ (m : ℕ). sets (sets o 0 ys) m zs) n ∙ sets_append ys zs o 0

-- the arrays of a table are as long as their types say
pub record Sized (t : Table) : Type 0 where
  pub nodes : length t.nodes ≡ node_limit
  pub automata : length t.automata ≡ automaton_limit
  pub edges : length t.edges ≡ edge_limit

module _ (t : Table) (s : Sized t) where
  abbrev lines : List ℕ
  lines = numbers_of line_numbers t.nodes

  abbrev automata : List ℕ
  automata = numbers_of automaton_numbers t.automata

  abbrev edges : List ℕ
  edges = numbers_of edge_numbers t.edges

  pub lines-length : length lines ≡ automata_place
  lines-length = omega (arith, numbers_length line_numbers line_size (λ x. refl) t.nodes, s.nodes)

  pub automata_length : length (lines ++ automata) ≡ edges_place
  automata_length =
      length-append lines automata
      ∙ (omega (arith, lines-length, numbers_length automaton_numbers automaton_size (λ x. refl) t.automata, s.automata))

  pub edges_length : length (lines ++ automata ++ edges) ≡ used_place
  edges_length =
      length-append (lines ++ automata) edges
      ∙ (omega (arith, automata_length, numbers_length edge_numbers edge_size (λ x. refl) t.edges, s.edges))

  pub numbers_size : length (table_numbers t) ≡ table_size
  unfolding table_numbers
  numbers_size = length-append (lines ++ automata ++ edges) (used_numbers t.used) ∙ (omega (arith, edges_length))

  -- the four runs of stores that write a table
  pub put_whole : (o o₁ o₂ o₃ o₄ : List ℕ) → length o ≡ table_size
      → o₁ ≡ sets o 0 lines → o₂ ≡ sets o₁ automata_place automata → o₃ ≡ sets o₂ edges_place edges → o₄ ≡ sets o₃ used_place (used_numbers t.used)
      → o₄ ≡ table_numbers t
  unfolding table_numbers
  put_whole o o₁ o₂ o₃ o₄ h e₁ e₂ e₃ e₄ =
      let f₂ : o₂ ≡ sets o 0 (lines ++ automata) = e₂ ∙ ap (λ (l : List ℕ). sets l automata_place automata) e₁ ∙ after lines automata o automata_place lines-length in
      let f₃ : o₃ ≡ sets o 0 (lines ++ automata ++ edges) = e₃ ∙ ap (λ (l : List ℕ). sets l edges_place edges) f₂ ∙ after (lines ++ automata) edges o edges_place automata_length in
      e₄
      ∙ ap (λ (l : List ℕ). sets l used_place (used_numbers t.used)) f₃
      ∙ after (lines ++ automata ++ edges) (used_numbers t.used) o used_place edges_length
      ∙ sets_all (table_numbers t) o (numbers_size ∙ sym h)
