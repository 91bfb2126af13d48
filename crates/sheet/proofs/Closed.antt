-- Questions 10 and 11 in the terms of the code's loops and branches.
use Prim.Native.Nat.{ℕ, zero, suc, ◌+◌, ◌-◌, ◌≤◌, ◌<◌}
use mathlib.Core.Path.{◌≡◌, refl, ap, sym, ◌∙◌}
use mathlib.Core.List.{List, [], ◌∷◌}
use mathlib.Core.Bool.{true, false, ◌||◌}
use native.Mathlib.Numerals.{add-one}
use native.Mathlib.Omega.{arith}
use lib.ListN.{length, get_or, take, drop, drop_of_length-le}
use lib.Seq.{drop-cons, take-nil}
use borrow.Author.Tests.{lt-ltb, le-ltb}
use Rattle.aldlf.specs.Sheet.{no_edge, no_automaton}
use Rattle.aldlf.specs.declared.Edge.{Edge}
use Rattle.aldlf.specs.declared.Automaton.{Automaton}
use Rattle.sheet.specs.declared.build.Reading.{Reading}
use Rattle.sheet.specs.Questions.{stands_on, some_edge, edges_of, each_state, whole, whole_of, finish, refused, accepted}

-- a part of a list, one element on
part_on : {A : Type 0} (n i : ℕ) (l : List A) (d : A) → 0 < n → i < length l → take n (drop i l) ≡ get_or l i d ∷ take (n - 1) (drop (i + 1) l)
part_on zero i l d h k = absurd (omega arith)
part_on (suc n) i l d h k = rw (drop-cons l i d k) (ap (λ (m : ℕ). get_or l i d ∷ take m (drop (suc i) l)) (sym e) ∙ ap (λ (j : ℕ). get_or l i d ∷ take (suc n - 1) (drop j l)) (sym (add-one i)))
  where
    e : suc n - 1 ≡ n
    e = omega arith

part_out : {A : Type 0} (n i : ℕ) (l : List A) → length l ≤ i → take n (drop i l) ≡ []
part_out n i l h = rw (drop_of_length-le l h) (take-nil n)

pub edge_on : (s n i : ℕ) (l : List Edge) → 0 < n → i < length l → some_edge s (take n (drop i l)) ≡ (stands_on s (get_or l i no_edge) || some_edge s (take (n - 1) (drop (i + 1) l)))
unfolding some_edge
edge_on s n i l h k = rw (part_on n i l no_edge h k)

-- the same where the edges end before number k
pub edge_next : (s k i : ℕ) (l : List Edge) → i < k → i < length l → some_edge s (take (k - i) (drop i l)) ≡ (stands_on s (get_or l i no_edge) || some_edge s (take (k - (i + 1)) (drop (i + 1) l)))
edge_next s k i l h w = edge_on s (k - i) i l (omega arith) w ∙ ap (λ (n : ℕ). stands_on s (get_or l i no_edge) || some_edge s (take n (drop (i + 1) l))) e
  where
    e : k - i - 1 ≡ k - (i + 1)
    e = omega arith

pub edge_out : (s n i : ℕ) (l : List Edge) → length l ≤ i → false ≡ some_edge s (take n (drop i l))
unfolding some_edge
edge_out s n i l h = rw (part_out n i l h)

pub edge_end : (s n i : ℕ) (l : List Edge) → n ≤ 0 → false ≡ some_edge s (take n (drop i l))
unfolding some_edge
edge_end s zero i l h = refl
edge_end s (suc n) i l h = absurd (omega arith)

-- the automata from number m on
module _ (es : List Edge) (l : List Automaton) (m : ℕ) where
  pub whole_on : m < length l → each_state (edges_of es (get_or l m no_automaton)) (get_or l m no_automaton).states ≡ true → whole es (drop m l) ≡ suc (whole es (drop (m + 1) l))
  unfolding whole
  whole_on h e = rw (add-one, drop-cons l m no_automaton h, e)

  pub whole_here : m < length l → each_state (edges_of es (get_or l m no_automaton)) (get_or l m no_automaton).states ≡ false → whole es (drop m l) ≡ 0
  unfolding whole
  whole_here h e = rw (drop-cons l m no_automaton h, e)

  pub whole_end : length l ≤ m → whole es (drop m l) ≡ 0
  unfolding whole
  whole_end h = rw (drop_of_length-le l h)

module _ (r : Reading) (k w : ℕ) (e : w ≡ whole_of r.table) where
  pub finish_10 : w < r.table.used.automata → refused 10 (get_or r.mlines w 0) ≡ finish r k
  unfolding finish
  finish_10 h = rw (← e, lt-ltb w r.table.used.automata h)

  pub finish_11 : r.table.used.automata ≤ w → r.inside ≡ true → refused 11 k ≡ finish r k
  unfolding finish
  finish_11 h i = rw (← e, le-ltb w r.table.used.automata h, i)

  pub finish_0 : r.table.used.automata ≤ w → r.inside ≡ false → accepted r.table ≡ finish r k
  unfolding finish
  finish_0 h i = rw (← e, le-ltb w r.table.used.automata h, i)
