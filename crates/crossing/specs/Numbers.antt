-- A table as it crosses the boundary: 1,507 numbers, and the table that numbers give; a row as 128 numbers.
use Rattle.std.specs.Prelude.{ℕ, zero, suc, ◌+◌, ◌*◌, Bool, true, cond, ◌&&◌, List, [], ◌∷◌, ◌++◌, eqb, ltb, length, get_or}
use Rattle.aldlf.specs.Constants.{node_limit, automaton_limit, edge_limit}
use Rattle.aldlf.specs.declared.NodeLine.{NodeLine}
use Rattle.aldlf.specs.declared.Automaton.{Automaton}
use Rattle.aldlf.specs.declared.Edge.{Edge}
use Rattle.aldlf.specs.declared.Used.{Used}
use Rattle.aldlf.specs.declared.Table.{Table}
use Rattle.aldlf.specs.declared.Row.{Row}
use Rattle.sheet.specs.Questions.{empty_table}

-- how many numbers a node line, an automaton, an edge and the counts take
abbrev pub line_size : ℕ
line_size = 3

abbrev pub automaton_size : ℕ
automaton_size = 6

abbrev pub edge_size : ℕ
edge_size = 4

abbrev pub used_size : ℕ
used_size = 3

-- where the automata, the edges and the counts start, and how many numbers a table takes
abbrev pub automata_place : ℕ
automata_place = line_size * node_limit

abbrev pub edges_place : ℕ
edges_place = automata_place + automaton_size * automaton_limit

abbrev pub used_place : ℕ
used_place = edges_place + edge_size * edge_limit

abbrev pub table_size : ℕ
table_size = used_place + used_size

-- the numbers of a node line, of an automaton, of an edge and of the counts, in the order of their fields
abbrev pub line_numbers : NodeLine → List ℕ
line_numbers x = x.kind ∷ x.a ∷ x.b ∷ []

abbrev pub automaton_numbers : Automaton → List ℕ
automaton_numbers x = x.states ∷ x.start.0 ∷ x.accepting ∷ x.first ∷ x.count ∷ x.before ∷ []

abbrev pub edge_numbers : Edge → List ℕ
edge_numbers e = e.from.0 ∷ e.dir ∷ e.test.0 ∷ e.to.0 ∷ []

abbrev pub used_numbers : Used → List ℕ
used_numbers u = u.nodes ∷ u.automata ∷ u.edges ∷ []

-- the numbers of each one of a list, one after the other
unfoldable pub numbers_of : {X : Type 0} → (X → List ℕ) → List X → List ℕ
numbers_of f [] = []
numbers_of f (x ∷ xs) = f x ++ numbers_of f xs

-- the numbers of a table
unfoldable pub table_numbers : Table → List ℕ
table_numbers t =
    numbers_of line_numbers t.nodes ++ numbers_of automaton_numbers t.automata ++ numbers_of edge_numbers t.edges ++ used_numbers t.used

-- the node line, the automaton, the edge and the counts whose numbers start at place p
abbrev pub line_at : List ℕ → ℕ → NodeLine
line_at xs p = record { kind = get_or xs p 0; a = get_or xs (p + 1) 0; b = get_or xs (p + 2) 0 }

abbrev pub automaton_at : List ℕ → ℕ → Automaton
automaton_at xs p =
    record {
      states = get_or xs p 0;
      start = record { 0 = get_or xs (p + 1) 0 };
      accepting = get_or xs (p + 2) 0;
      first = get_or xs (p + 3) 0;
      count = get_or xs (p + 4) 0;
      before = get_or xs (p + 5) 0;
    }

abbrev pub edge_at : List ℕ → ℕ → Edge
edge_at xs p =
    record { from = record { 0 = get_or xs p 0 }; dir = get_or xs (p + 1) 0; test = record { 0 = get_or xs (p + 2) 0 }; to = record { 0 = get_or xs (p + 3) 0 } }

abbrev pub used_at : List ℕ → ℕ → Used
used_at xs p = record { nodes = get_or xs p 0; automata = get_or xs (p + 1) 0; edges = get_or xs (p + 2) 0 }

-- f 0, f 1, .., f (n - 1)
unfoldable pub listed : {X : Type 0} → ℕ → (ℕ → X) → List X
listed zero f = []
listed (suc n) f = f zero ∷ listed n (λ i. f (suc i))

-- the node lines, the automata and the edges that stand in the numbers
abbrev pub lines_in : List ℕ → List NodeLine
lines_in xs = listed node_limit (λ k. line_at xs (line_size * k))

abbrev pub automata_in : List ℕ → List Automaton
automata_in xs = listed automaton_limit (λ m. automaton_at xs (automata_place + automaton_size * m))

abbrev pub edges_in : List ℕ → List Edge
edges_in xs = listed edge_limit (λ e. edge_at xs (edges_place + edge_size * e))

-- a number that fits a field of one byte
abbrev pub is_byte : ℕ → Bool
is_byte x = ltb x 256

-- the fields of one byte hold bytes (every other field has a number's own 16 bits)
abbrev pub line_fits : NodeLine → Bool
line_fits x = is_byte x.kind && is_byte x.a && is_byte x.b

abbrev pub automaton_fits : Automaton → Bool
automaton_fits x = is_byte x.states && is_byte x.start.0 && is_byte x.before

abbrev pub edge_fits : Edge → Bool
edge_fits e = is_byte e.from.0 && is_byte e.dir && is_byte e.test.0 && is_byte e.to.0

abbrev pub used_fits : Used → Bool
used_fits u = is_byte u.nodes && is_byte u.automata

-- each one of a list passes the test
unfoldable pub all_of : {X : Type 0} → (X → Bool) → List X → Bool
all_of p [] = true
all_of p (x ∷ xs) = p x && all_of p xs

-- every field of a table of one byte holds a byte
unfoldable pub table_fits : Table → Bool
table_fits t = all_of line_fits t.nodes && all_of automaton_fits t.automata && all_of edge_fits t.edges && used_fits t.used

-- the fields that stand in the numbers
abbrev pub fields_in : List ℕ → Table
fields_in xs = record { nodes = lines_in xs; automata = automata_in xs; edges = edges_in xs; used = used_at xs used_place }

-- the table that the numbers give; the table all zeros where they are not as many as a table's, or one is too large for its field
unfoldable pub table_of : List ℕ → Table
table_of xs = cond (eqb (length xs) table_size && table_fits (fields_in xs)) (fields_in xs) empty_table

-- the row that 128 numbers are
abbrev pub row_of : List ℕ → Row
row_of xs = record { bits = xs }
