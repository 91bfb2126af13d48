-- Question 31: which tables some sheet gives, and the same as a check of the table's own fields.
use Rattle.std.specs.Prelude.{ℕ, zero, suc, ◌+◌, ◌^◌, ◌≡◌, List, [], ◌∷◌, Bool, true, false, cond, ◌&&◌, ◌||◌, length, get_or, ltb, leb, eqb}
use Rattle.aldlf.specs.Constants.{node_limit, automaton_limit, state_limit, edge_limit, fact_limit, letter_t, letter_f, letter_p, letter_n, letter_a, letter_o, letter_d, letter_b}
use Rattle.aldlf.specs.Sheet.{no_line, no_edge, no_automaton}
use Rattle.aldlf.specs.declared.NodeLine.{NodeLine}
use Rattle.aldlf.specs.declared.Edge.{Edge}
use Rattle.aldlf.specs.declared.Automaton.{Automaton}
use Rattle.aldlf.specs.declared.Used.{Used}
use Rattle.aldlf.specs.declared.Table.{Table}
use Rattle.sheet.specs.Questions.{read_sheet, accepted, plains, each, whole_of}

-- Whether each number of a text is a byte.
unfoldable pub bytes : List ℕ → Bool
bytes [] = true
bytes (b ∷ bs) = ltb b 256 && bytes bs

-- Some sheet gives the table.
unfoldable pub Given : Table → Type 0
Given t = (text : List ℕ) × (bytes text ≡ true) × (read_sheet text ≡ accepted t)

-- The edges that stand on lines before the M line of automaton m.
abbrev pub edges_before : List Automaton → ℕ → ℕ
edges_before ms zero = 0
edges_before ms (suc m) = (get_or ms m no_automaton).first + (get_or ms m no_automaton).count

-- The nodes that stand above the M line before that of automaton m.
abbrev pub nodes_before : List Automaton → ℕ → ℕ
nodes_before ms zero = 0
nodes_before ms (suc m) = (get_or ms m no_automaton).before

-- A line for node i, with so many automata in the table and `before` nodes above the automaton that it names if it is D or B:
-- it names only facts, and nodes and automata on earlier lines, and has 0 where its letter has no number.
unfoldable pub node_fits : (automata before i : ℕ) → NodeLine → Bool
node_fits automata before i x =
    cond (eqb x.kind letter_t || eqb x.kind letter_f) (eqb x.a 0 && eqb x.b 0)
    (cond (eqb x.kind letter_p) (ltb x.a fact_limit && eqb x.b 0)
    (cond (eqb x.kind letter_n) (ltb x.a i && eqb x.b 0)
    (cond (eqb x.kind letter_a || eqb x.kind letter_o) (ltb x.a i && ltb x.b i)
    (cond (eqb x.kind letter_d || eqb x.kind letter_b) (ltb x.a automata && leb before i && ltb x.b i)
    false))))

-- An edge of the automaton x: its numbers are in range, its node stands above the M line, and is plain where the edge is no test edge.
unfoldable pub edge_fits : List Bool → Automaton → Edge → Bool
edge_fits plain x e =
    ltb e.from.0 x.states
    && ltb e.dir 3
    && ltb e.test.0 x.before
    && ltb e.to.0 x.states
    && (eqb e.dir 0 || get_or plain e.test.0 false)

-- The M line and the G lines of the automaton x, with so many edges and nodes before it:
-- its numbers are in range, its edges follow those of the automaton before it, its M line stands below that one's and above some node.
unfoldable pub head_fits : Used → (edges nodes : ℕ) → Automaton → Bool
head_fits u edges nodes x =
    leb 1 x.states
    && leb x.states state_limit
    && ltb x.start.0 x.states
    && ltb x.accepting (2 ^ x.states)
    && eqb x.first edges
    && leb (x.first + x.count) u.edges
    && leb nodes x.before
    && ltb x.before u.nodes

-- The edges of the automaton x.
unfoldable pub edges_fit : List Edge → List Bool → Automaton → Bool
edges_fit es plain x = each (λ j. edge_fits plain x (get_or es (x.first + j) no_edge)) x.count

-- Places not in use are all zeros.
abbrev pub is_no_line : NodeLine → Bool
is_no_line x = eqb x.kind 0 && eqb x.a 0 && eqb x.b 0

abbrev pub is_no_edge : Edge → Bool
is_no_edge e = eqb e.from.0 0 && eqb e.dir 0 && eqb e.test.0 0 && eqb e.to.0 0

abbrev pub is_no_automaton : Automaton → Bool
is_no_automaton x = eqb x.states 0 && eqb x.start.0 0 && eqb x.accepting 0 && eqb x.first 0 && eqb x.count 0 && eqb x.before 0

-- The arrays are as long as their types say.
abbrev pub sized : Table → Bool
sized t = eqb (length t.nodes) node_limit && eqb (length t.automata) automaton_limit && eqb (length t.edges) edge_limit

-- The counts are within the limits, and there is a node.
unfoldable pub used_fits : Used → Bool
used_fits u = leb 1 u.nodes && leb u.nodes node_limit && leb u.automata automaton_limit && leb u.edges edge_limit

-- Node i of a table, and all that are in use.
abbrev pub node_ok : Table → ℕ → Bool
node_ok t i =
    let x = get_or t.nodes i no_line in
    node_fits t.used.automata (get_or t.automata x.a no_automaton).before i x

unfoldable pub nodes_fit : Table → Bool
nodes_fit t = each (node_ok t) t.used.nodes

-- Automaton m of a table with its edges, and all that are in use.
abbrev pub automaton_ok : Table → ℕ → Bool
automaton_ok t m =
    let x = get_or t.automata m no_automaton in
    head_fits t.used (edges_before t.automata m) (nodes_before t.automata m) x && edges_fit t.edges (plains t.nodes) x

unfoldable pub automata_fit : Table → Bool
automata_fit t = each (automaton_ok t) t.used.automata

-- The places from number n on.
unfoldable pub nodes_end : List NodeLine → ℕ → Bool
nodes_end xs n = each (λ i. ltb i n || is_no_line (get_or xs i no_line)) node_limit

unfoldable pub automata_end : List Automaton → ℕ → Bool
automata_end xs n = each (λ i. ltb i n || is_no_automaton (get_or xs i no_automaton)) automaton_limit

unfoldable pub edges_end : List Edge → ℕ → Bool
edges_end xs n = each (λ i. ltb i n || is_no_edge (get_or xs i no_edge)) edge_limit

-- Each edge in use belongs to an automaton.
abbrev pub all_owned : Table → Bool
all_owned t = eqb t.used.edges (edges_before t.automata t.used.automata)

-- Question 31, field by field; the last one is question 10: each state stands on an edge of its automaton.
unfoldable pub well_formed : Table → Bool
well_formed t =
    sized t
    && used_fits t.used
    && nodes_fit t
    && automata_fit t
    && (nodes_end t.nodes t.used.nodes && automata_end t.automata t.used.automata && edges_end t.edges t.used.edges)
    && all_owned t
    && leb t.used.automata (whole_of t)
