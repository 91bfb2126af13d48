-- Only for the contracts of the code's own functions: what stands in the numbers, with each field of one byte cut to its low byte.
use Rattle.std.specs.Prelude.{ℕ, ◌+◌, ◌*◌, ◌%◌, ◌≤◌, ◌<◌, ◌≡◌, List, length, get_or}
use Rattle.aldlf.specs.Constants.{node_limit, automaton_limit, edge_limit}
use Rattle.aldlf.specs.declared.NodeLine.{NodeLine}
use Rattle.aldlf.specs.declared.Automaton.{Automaton}
use Rattle.aldlf.specs.declared.Edge.{Edge}
use Rattle.aldlf.specs.declared.Used.{Used}
use Rattle.aldlf.specs.declared.Table.{Table}
use Rattle.crossing.specs.Numbers.{line_size, automaton_size, edge_size, automata_place, edges_place, used_place, line_at, automaton_at, edge_at, used_at, listed}

-- a node line, an automaton, an edge and the counts, cut
abbrev pub line_cut : NodeLine → NodeLine
line_cut x = record { kind = x.kind % 256; a = x.a % 256; b = x.b % 256 }

abbrev pub automaton_cut : Automaton → Automaton
automaton_cut x =
    record { states = x.states % 256; start = record { 0 = x.start.0 % 256 }; accepting = x.accepting; first = x.first; count = x.count; before = x.before % 256 }

abbrev pub edge_cut : Edge → Edge
edge_cut e = record { from = record { 0 = e.from.0 % 256 }; dir = e.dir % 256; test = record { 0 = e.test.0 % 256 }; to = record { 0 = e.to.0 % 256 } }

abbrev pub used_cut : Used → Used
used_cut u = record { nodes = u.nodes % 256; automata = u.automata % 256; edges = u.edges }

-- the fields that stand in the numbers, cut
abbrev pub cut_in : List ℕ → Table
cut_in xs =
    record {
      nodes = listed node_limit (λ k. line_cut (line_at xs (line_size * k)));
      automata = listed automaton_limit (λ m. automaton_cut (automaton_at xs (automata_place + automaton_size * m)));
      edges = listed edge_limit (λ e. edge_cut (edge_at xs (edges_place + edge_size * e)));
      used = used_cut (used_at xs used_place);
    }

-- how many bytes the edges take
abbrev pub edge_bytes : ℕ
edge_bytes = edge_size * edge_limit

-- the bytes are those of the edges, cut, one edge after the other
pub record EdgesCut (xs bytes : List ℕ) : Type 0 where
  pub size : length bytes ≡ edge_bytes
  pub edge_is : (k : ℕ) → k < edge_limit → edge_at bytes (edge_size * k) ≡ edge_cut (edge_at xs (edges_place + edge_size * k))

-- the first n node lines that stand in the numbers
abbrev pub first_lines : List ℕ → ℕ → List NodeLine
first_lines xs n = listed n (λ k. line_at xs (line_size * k))

-- the numbers of the node lines from n on are all zeros
abbrev pub NoLinesFrom : List ℕ → ℕ → Type 0
NoLinesFrom xs n = (i : ℕ) → line_size * n ≤ i → i < automata_place → get_or xs i 0 ≡ 0
