-- Numbers that are a table's, and what is known on the way while they are written.
use Rattle.std.specs.Prelude.{ℕ, ◌+◌, ◌≤◌, ◌<◌, ◌≡◌, List, length, get_or}
use Rattle.aldlf.specs.Constants.{node_limit, automaton_limit, edge_limit}
use Rattle.aldlf.specs.Sheet.{no_line, no_edge, no_automaton}
use Rattle.aldlf.specs.declared.Automaton.{Automaton}
use Rattle.aldlf.specs.declared.Used.{Used}
use Rattle.aldlf.specs.declared.Table.{Table}
use Rattle.packing.specs.Numbers.{heads_place, ranges_place, before_place, counts_place, places, lent_edge, lent_line, lent_automaton, lent_used}

-- The numbers are the table's: each place, in use or not, and the counts.
pub record Packed (t : Table) (numbers : List ℕ) : Type 0 where
  pub size : length numbers ≡ places
  pub nodes_length : length t.nodes ≡ node_limit
  pub automata_length : length t.automata ≡ automaton_limit
  pub edges_length : length t.edges ≡ edge_limit
  pub line_is : (k : ℕ) → k < node_limit → lent_line numbers k ≡ get_or t.nodes k no_line
  pub automaton_is : (m : ℕ) → m < automaton_limit → lent_automaton numbers m ≡ get_or t.automata m no_automaton
  pub edge_is : (e : ℕ) → e < edge_limit → lent_edge numbers e ≡ get_or t.edges e no_edge
  pub used_is : lent_used numbers ≡ t.used

-- n numbers were written from a place on, number k as P says; the others are as before.
pub record Put (P : ℕ → ℕ → Type 0) (place n : ℕ) (before after : List ℕ) : Type 0 where
  pub same : length after ≡ length before
  pub done : (k : ℕ) → k < n → P k (get_or after (place + k) 0)
  pub low : (i : ℕ) → i < place → get_or after i 0 ≡ get_or before i 0
  pub high : (i : ℕ) → place + n ≤ i → get_or after i 0 ≡ get_or before i 0

-- Automaton m was written at its three places.
pub record HeadPut (x : Automaton) (m : ℕ) (before after : List ℕ) : Type 0 where
  pub same : length after ≡ length before
  pub here : lent_automaton after m ≡ x
  pub others : (i : ℕ) → ¬ (i ≡ heads_place + m) → ¬ (i ≡ ranges_place + m) → ¬ (i ≡ before_place + m) → get_or after i 0 ≡ get_or before i 0

-- So were the first n automata.
pub record HeadsPut (automata : List Automaton) (n : ℕ) (before after : List ℕ) : Type 0 where
  pub same : length after ≡ length before
  pub done : (m : ℕ) → m < n → lent_automaton after m ≡ get_or automata m no_automaton
  pub low : (i : ℕ) → i < heads_place → get_or after i 0 ≡ get_or before i 0
  pub high : (i : ℕ) → counts_place ≤ i → get_or after i 0 ≡ get_or before i 0

-- The counts were written at their three places.
pub record UsedPut (u : Used) (before after : List ℕ) : Type 0 where
  pub same : length after ≡ length before
  pub here : lent_used after ≡ u
  pub low : (i : ℕ) → i < counts_place → get_or after i 0 ≡ get_or before i 0
