-- The table made of a formula: how its nodes, automata, states and edges are numbered.
use Rattle.std.specs.Prelude.{ℕ, suc, ◌+◌, ◌-◌, ◌^◌, List, [], ◌∷◌, ◌++◌, set}
use Rattle.std.proofs.lemmas.List.Edits.{sets}
use Rattle.aldlf.specs.Constants.{letter_t, letter_p, letter_n, letter_a, letter_o, letter_d, letter_b}
use Rattle.aldlf.specs.Sheet.{Dir, ahead, back, stay}
use Rattle.aldlf.specs.declared.Edge.{Edge}
use Rattle.aldlf.specs.declared.Automaton.{Automaton}
use Rattle.aldlf.specs.declared.Used.{Used}
use Rattle.aldlf.specs.declared.Table.{Table}
use Rattle.sheet.specs.Questions.{arity, with_node, empty_table}
use Rattle.formula.specs.Formula.{Formula, always, fact, neg, both, either, some, every, Path, step, seq, alt, many}

abbrev mutual
  -- How many nodes a formula has below its own.
  pub under : Formula → ℕ
  under always = 0
  under (fact f) = 0
  under (neg a) = suc (under a)
  under (both a b) = suc (under a) + suc (under b)
  under (either a b) = suc (under a) + suc (under b)
  under (some p a) = within p + suc (under a)
  under (every p a) = within p + suc (under a)

  -- How many nodes the formulas of a path have.
  pub within : Path → ℕ
  within (step d a) = suc (under a)
  within (seq p q) = within p + within q
  within (alt p q) = within p + within q
  within (many p) = within p

-- How many states a path has: two for a step, two more for `+` and `*`.
abbrev pub states : Path → ℕ
states (step d a) = 2
states (seq p q) = states p + states q
states (alt p q) = suc (suc (states p + states q))
states (many p) = suc (suc (states p))

-- How many edges a path has of its own: one for a step, one more for `;`, four more for `+` and `*`.
abbrev pub own : Path → ℕ
own (step d a) = 1
own (seq p q) = own p + (own q + 1)
own (alt p q) = own p + (own q + 4)
own (many p) = own p + 4

-- The state where a path starts whose first state is b. States are numbered as they are made: left side, right side, then the two of `+` or `*`, start and end.
abbrev pub entry : ℕ → Path → ℕ
entry b (step d a) = b
entry b (seq p q) = entry b p
entry b (alt p q) = b + (states p + states q)
entry b (many p) = b + states p

-- The state where it ends.
abbrev pub exit : ℕ → Path → ℕ
exit b (step d a) = suc b
exit b (seq p q) = exit (b + states p) q
exit b (alt p q) = suc (b + (states p + states q))
exit b (many p) = suc (b + states p)

-- A direction as the table has it.
abbrev pub dir_number : Dir → ℕ
dir_number stay = 0
dir_number ahead = 1
dir_number back = 2

-- An edge of the table by its numbers: from state s, direction d, node a tested, to state t.
abbrev pub edge_of : (s d a t : ℕ) → Edge
edge_of s d a t = record { from = record { 0 = s }; dir = d; test = record { 0 = a }; to = record { 0 = t } }

-- An edge that only joins: a test of node 0, which is T.
abbrev pub link : ℕ → ℕ → Edge
link s t = edge_of s 0 0 t

-- The edge that `;` adds: from the end of p to the start of q.
abbrev pub seq_links : ℕ → Path → Path → List Edge
seq_links b p q = link (exit b p) (entry (b + states p) q) ∷ []

-- The edges that `+` adds: from its start to those of p and q, from their ends to its own.
abbrev pub alt_links : ℕ → Path → Path → List Edge
alt_links b p q =
    let s = entry b (alt p q) in
    let e = exit b (alt p q) in
    link s (entry b p) ∷ link s (entry (b + states p) q) ∷ link (exit b p) e ∷ link (exit (b + states p) q) e ∷ []

-- The edges that `*` adds: from its start into p, from p's end into p again, from p's end to its own, and past p.
abbrev pub many_links : ℕ → Path → List Edge
many_links b p =
    let s = entry b (many p) in
    let e = exit b (many p) in
    link s (entry b p) ∷ link (exit b p) (entry b p) ∷ link (exit b p) e ∷ link s e ∷ []

-- The edges of a path whose formulas' first node is k and whose first state is b: those of its left side, of its right side, then those that join them.
abbrev pub edges : ℕ → ℕ → Path → List Edge
edges k b (step d a) = edge_of b (dir_number d) (k + under a) (suc b) ∷ []
edges k b (seq p q) = edges k b p ++ (edges (k + within p) (b + states p) q ++ seq_links b p q)
edges k b (alt p q) = edges k b p ++ (edges (k + within p) (b + states p) q ++ alt_links b p q)
edges k b (many p) = edges k b p ++ many_links b p

-- The table with one node line more, of a letter and two numbers.
abbrev pub with_letter : Table → ℕ → ℕ → ℕ → Table
with_letter t letter a b = with_node t (record { letter = letter; count = arity letter; a = a; b = b; c = 0; d = 0 })

-- The last node of a table so far.
abbrev pub newest : Table → ℕ
newest t = t.used.nodes - 1

-- The automaton of a path, in a table where so many places are in use: its end is the one state that accepts.
abbrev pub automaton_of : Used → Path → Automaton
automaton_of u p = record { states = states p; start = record { 0 = entry 0 p }; accepting = 2 ^ exit 0 p; first = u.edges; count = own p; before = u.nodes }

-- The table with a path's M, G and E lines more, where its formulas' first node is k.
abbrev pub with_path : Table → ℕ → Path → Table
with_path t k p =
    record {
      nodes = t.nodes;
      automata = set t.automata t.used.automata (automaton_of t.used p);
      edges = sets t.edges t.used.edges (edges k 0 p);
      used = record { nodes = t.used.nodes; automata = t.used.automata + 1; edges = t.used.edges + own p };
    }

unfoldable mutual
  -- The table with a formula's lines more: all that it needs, left side first, then its own node.
  pub made : Formula → Table → Table
  made always t = with_letter t letter_t 0 0
  made (fact f) t = with_letter t letter_p f 0
  made (neg a) t = let u = made a t in with_letter u letter_n (newest u) 0
  made (both a b) t = let u = made a t in let v = made b u in with_letter v letter_a (newest u) (newest v)
  made (either a b) t = let u = made a t in let v = made b u in with_letter v letter_o (newest u) (newest v)
  made (some p a) t =
      let u = made_in p t in
      let v = made a (with_path u t.used.nodes p) in
      with_letter v letter_d u.used.automata (newest v)
  made (every p a) t =
      let u = made_in p t in
      let v = made a (with_path u t.used.nodes p) in
      with_letter v letter_b u.used.automata (newest v)

  -- The table with the lines of a path's formulas more.
  pub made_in : Path → Table → Table
  made_in (step d a) t = made a t
  made_in (seq p q) t = made_in q (made_in p t)
  made_in (alt p q) t = made_in q (made_in p t)
  made_in (many p) t = made_in p t

-- A table whose node 0 is T, and no more.
abbrev pub first_table : Table
first_table = with_letter empty_table letter_t 0 0

-- The table made of a formula.
unfoldable pub table_of : Formula → Table
table_of a = made a first_table
