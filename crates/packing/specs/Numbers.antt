-- An edge, a node line, an automaton and the counts in use as numbers of 32 bits, and where they stand in a table's numbers.
use Rattle.std.specs.Prelude.{ℕ, ◌+◌, ◌*◌, ◌/◌, ◌%◌, List, get_or}
use Rattle.aldlf.specs.Constants.{node_limit, automaton_limit, edge_limit}
use Rattle.aldlf.specs.declared.NodeLine.{NodeLine}
use Rattle.aldlf.specs.declared.Automaton.{Automaton}
use Rattle.aldlf.specs.declared.Edge.{Edge}
use Rattle.aldlf.specs.declared.Used.{Used}

-- Where the node lines start: after the edges.
abbrev pub lines_place : ℕ
lines_place = edge_limit

-- Where the automata's three columns start, one after the other: states, start and accepting states; edges; nodes above.
abbrev pub heads_place : ℕ
heads_place = lines_place + node_limit

abbrev pub ranges_place : ℕ
ranges_place = heads_place + automaton_limit

abbrev pub before_place : ℕ
before_place = ranges_place + automaton_limit

-- Where the three counts in use start.
abbrev pub counts_place : ℕ
counts_place = before_place + automaton_limit

-- How many numbers a table takes.
abbrev pub places : ℕ
places = counts_place + 3

-- An edge as one number, a byte for each field; the edge that is packed into the lowest 32 bits of a number.
abbrev pub packed_of : Edge → ℕ
packed_of e = e.from.0 + 256 * e.dir + 65536 * e.test.0 + 16777216 * e.to.0

abbrev pub edge_in : ℕ → Edge
edge_in p = record { from = record { 0 = p % 256 }; dir = p / 256 % 256; test = record { 0 = p / 65536 % 256 }; to = record { 0 = p / 16777216 % 256 } }

-- The node line that is packed into a number.
abbrev pub line_in : ℕ → NodeLine
line_in p = record { kind = p % 256; a = p / 256 % 256; b = p / 65536 % 256 }

-- The automaton that is packed into three numbers.
abbrev pub automaton_in : (head range before : ℕ) → Automaton
automaton_in h r b =
    record { states = h % 256; start = record { 0 = h / 256 % 256 }; accepting = h / 65536 % 65536; first = r % 65536; count = r / 65536 % 65536; before = b % 256 }

-- What a table's numbers have at their places: edge e, node line k, automaton m, the counts in use.
abbrev pub lent_edge : List ℕ → ℕ → Edge
lent_edge numbers e = edge_in (get_or numbers e 0)

abbrev pub lent_line : List ℕ → ℕ → NodeLine
lent_line numbers k = line_in (get_or numbers (lines_place + k) 0)

abbrev pub lent_automaton : List ℕ → ℕ → Automaton
lent_automaton numbers m = automaton_in (get_or numbers (heads_place + m) 0) (get_or numbers (ranges_place + m) 0) (get_or numbers (before_place + m) 0)

abbrev pub lent_used : List ℕ → Used
lent_used numbers = record { nodes = get_or numbers counts_place 0 % 256; automata = get_or numbers (counts_place + 1) 0 % 256; edges = get_or numbers (counts_place + 2) 0 % 65536 }
