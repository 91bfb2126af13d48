-- Nothing is lost at the boundary: a table's numbers give the table again.
use Prim.Native.Nat.{ℕ, ◌+◌, ◌*◌, ◌<◌}
use mathlib.Core.Path.{◌≡◌, refl, ap, sym, ◌∙◌}
use mathlib.Core.Bool.{true}
use mathlib.Core.List.{List, [], ◌++◌, append_assoc}
use native.Mathlib.Omega.{arith}
use native.Mathlib.Nat.{zero-add, add-zero}
use lib.ListN.{length, get_or}
use lib.Seq.{get_or-append-add}
use borrow.Author.Tests.{eq-eqb}
use Rattle.aldlf.specs.Constants.{node_limit, automaton_limit, edge_limit}
use Rattle.aldlf.specs.Sheet.{no_line, no_edge, no_automaton}
use Rattle.aldlf.specs.declared.NodeLine.{NodeLine}
use Rattle.aldlf.specs.declared.Automaton.{Automaton}
use Rattle.aldlf.specs.declared.Edge.{Edge}
use Rattle.aldlf.specs.declared.Used.{Used}
use Rattle.aldlf.specs.declared.Table.{Table}
use Rattle.crossing.specs.Numbers.{line_size, automaton_size, edge_size, automata_place, edges_place, used_place, table_size, line_numbers, automaton_numbers, edge_numbers, used_numbers, numbers_of, table_numbers, line_at, automaton_at, edge_at, used_at, listed, lines_in, automata_in, edges_in, table_fits, fields_in, table_of}
use Rattle.crossing.proofs.Listed.{listed_same, listed_elements}
use Rattle.crossing.proofs.Packed.{number_at, Sized, lines-length, automata_length, edges_length, numbers_size}

-- the numbers of ns stand in xs from place p on
abbrev Stand : List ℕ → List ℕ → ℕ → Type 0
Stand ns xs p = (j : ℕ) → j < length ns → get_or xs (p + j) 0 ≡ get_or ns j 0

-- a piece is read from where its numbers stand
first : (ns xs : List ℕ) (p : ℕ) → 0 < length ns → Stand ns xs p → get_or xs p 0 ≡ get_or ns 0 0
first ns xs p h s = ap (λ (n : ℕ). get_or xs n 0) (sym (add-zero p)) ∙ s 0 h

line_again : (x : NodeLine) (xs : List ℕ) (p : ℕ) → Stand (line_numbers x) xs p → line_at xs p ≡ x
line_again x xs p s =
    let a = first (line_numbers x) xs p (omega arith) s in
    let b = s 1 (omega arith) in
    let c = s 2 (omega arith) in
    rw (a, b, c)

automaton_again : (x : Automaton) (xs : List ℕ) (p : ℕ) → Stand (automaton_numbers x) xs p → automaton_at xs p ≡ x
automaton_again x xs p s =
    let a = first (automaton_numbers x) xs p (omega arith) s in
    let b = s 1 (omega arith) in
    let c = s 2 (omega arith) in
    let d = s 3 (omega arith) in
    let e = s 4 (omega arith) in
    let f = s 5 (omega arith) in
    rw (a, b, c, d, e, f)

edge_again : (x : Edge) (xs : List ℕ) (p : ℕ) → Stand (edge_numbers x) xs p → edge_at xs p ≡ x
edge_again x xs p s =
    let a = first (edge_numbers x) xs p (omega arith) s in
    let b = s 1 (omega arith) in
    let c = s 2 (omega arith) in
    let d = s 3 (omega arith) in
    rw (a, b, c, d)

used_again : (x : Used) (xs : List ℕ) (p : ℕ) → Stand (used_numbers x) xs p → used_at xs p ≡ x
used_again x xs p s =
    let a = first (used_numbers x) xs p (omega arith) s in
    let b = s 1 (omega arith) in
    let c = s 2 (omega arith) in
    rw (a, b, c)

-- pieces of one kind, with numbers before and after them
module _ {X : Type 0} (f : X → List ℕ) (g : List ℕ → ℕ → X) (w : ℕ) (d : X) (size : (x : X) → length (f x) ≡ w)
    (again : (x : X) (xs : List ℕ) (p : ℕ) → Stand (f x) xs p → g xs p ≡ x) where
  piece_stands : (xs : List X) (before after : List ℕ) (p k : ℕ) → length before ≡ p → k < length xs
      → Stand (f (get_or xs k d)) (before ++ (numbers_of f xs ++ after)) (p + w * k)
  piece_stands xs before after p k h i j l =
      let s = size (get_or xs k d) in
      let n : p + w * k + j ≡ length before + (w * k + j) = omega arith in
      ap (λ (m : ℕ). get_or (before ++ (numbers_of f xs ++ after)) m 0) n
      ∙ get_or-append-add before (numbers_of f xs ++ after) (w * k + j) 0
      ∙ number_at f w size xs after k j d i (omega arith)

  pieces_again : (xs : List X) (before after : List ℕ) (p n : ℕ) → length before ≡ p → length xs ≡ n
      → listed n (λ k. g (before ++ (numbers_of f xs ++ after)) (p + w * k)) ≡ xs
  pieces_again xs before after p n h e =
      listed_same n (λ k. g (before ++ (numbers_of f xs ++ after)) (p + w * k)) (λ k. get_or xs k d)
      (λ k i. again (get_or xs k d) (before ++ (numbers_of f xs ++ after)) (p + w * k) (piece_stands xs before after p k h (omega arith)))
      ∙ ap (λ (m : ℕ). listed m (λ k. get_or xs k d)) (sym e)
      ∙ listed_elements xs d

module _ (t : Table) (s : Sized t) where
  abbrev l : List ℕ
  l = numbers_of line_numbers t.nodes

  abbrev a : List ℕ
  a = numbers_of automaton_numbers t.automata

  abbrev e : List ℕ
  e = numbers_of edge_numbers t.edges

  abbrev u : List ℕ
  u = used_numbers t.used

  -- the numbers, cut before each kind of piece
  at_lines : table_numbers t ≡ [] ++ (l ++ (a ++ (e ++ u)))
  unfolding table_numbers
  at_lines = append_assoc (l ++ a) e u ∙ append_assoc l a (e ++ u)

  at_automata : table_numbers t ≡ l ++ (a ++ (e ++ u))
  at_automata = at_lines

  at_edges : table_numbers t ≡ l ++ a ++ (e ++ u)
  unfolding table_numbers
  at_edges = append_assoc (l ++ a) e u

  lines_again : lines_in (table_numbers t) ≡ t.nodes
  lines_again =
      ap lines_in at_lines
      ∙ listed_same node_limit (λ k. line_at ([] ++ (l ++ (a ++ (e ++ u)))) (line_size * k)) (λ k. line_at ([] ++ (l ++ (a ++ (e ++ u)))) (0 + line_size * k))
      (λ k i. ap (line_at ([] ++ (l ++ (a ++ (e ++ u))))) (sym (zero-add (line_size * k))))
      ∙ pieces_again line_numbers line_at line_size no_line (λ x. refl) line_again t.nodes [] (a ++ (e ++ u)) 0 node_limit refl s.nodes

  automata_again : automata_in (table_numbers t) ≡ t.automata
  automata_again =
      ap automata_in at_automata
      ∙ pieces_again automaton_numbers automaton_at automaton_size no_automaton (λ x. refl) automaton_again t.automata l (e ++ u) automata_place automaton_limit (lines-length t s) s.automata

  edges_again : edges_in (table_numbers t) ≡ t.edges
  edges_again =
      ap edges_in at_edges
      ∙ pieces_again edge_numbers edge_at edge_size no_edge (λ x. refl) edge_again t.edges (l ++ a) u edges_place edge_limit (automata_length t s) s.edges

  counts_again : used_at (table_numbers t) used_place ≡ t.used
  unfolding table_numbers
  counts_again =
      used_again t.used (l ++ a ++ e ++ u) used_place
      (λ j i.
      let n : used_place + j ≡ length (l ++ a ++ e) + j = omega (arith, edges_length t s) in
      ap (λ (m : ℕ). get_or (l ++ a ++ e ++ u) m 0) n ∙ get_or-append-add (l ++ a ++ e) u j 0)

  fields_again : fields_in (table_numbers t) ≡ t
  fields_again =
      let x = lines_again in
      let y = automata_again in
      let z = edges_again in
      let w = counts_again in
      rw (x, y, z, w)

  -- a table whose fields fit their types is the table that its numbers give
  pub crosses : table_fits t ≡ true → table_of (table_numbers t) ≡ t
  unfolding table_of
  crosses f = rw (eq-eqb (length (table_numbers t)) table_size (numbers_size t s), fields_again, f)
