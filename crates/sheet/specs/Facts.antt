-- What judging may rely on in a table that some sheet gives: the record `TableFacts`, and `Lent` of such a table's numbers. It defines nothing new; the theorem that gives the facts is in proofs/.
use Rattle.std.specs.Prelude.{ℕ, ◌+◌, ◌^◌, ◌≤◌, ◌<◌, ◌≡◌, ◌⊎◌, List, length, get_or}
use Rattle.aldlf.specs.Constants.{node_limit, automaton_limit, state_limit, edge_limit, fact_limit, letter_p, letter_n, letter_a, letter_o, letter_d, letter_b}
use Rattle.aldlf.specs.Sheet.{no_line, no_edge, no_automaton}
use Rattle.aldlf.specs.declared.NodeLine.{NodeLine}
use Rattle.aldlf.specs.declared.Edge.{Edge}
use Rattle.aldlf.specs.declared.Automaton.{Automaton}
use Rattle.aldlf.specs.declared.Table.{Table}
use Rattle.packing.specs.Packed.{Packed}

-- The node line, the automaton and the edge at a number of a table.
abbrev pub node_at : Table → ℕ → NodeLine
node_at t k = get_or t.nodes k no_line

abbrev pub automaton_at : Table → ℕ → Automaton
automaton_at t m = get_or t.automata m no_automaton

abbrev pub edge_at : Table → ℕ → Edge
edge_at t e = get_or t.edges e no_edge

-- What a D or B line of node k names: an automaton whose M line stands above, and an earlier node.
pub record ModalFacts (t : Table) (k : ℕ) : Type 0 where
  pub automaton< : (node_at t k).a < t.used.automata
  pub before≤ : (automaton_at t (node_at t k).a).before ≤ k
  pub node< : (node_at t k).b < k

-- The line of node k.
pub record NodeFacts (t : Table) (k : ℕ) : Type 0 where
  pub fact< : (node_at t k).kind ≡ letter_p → (node_at t k).a < fact_limit
  pub not< : (node_at t k).kind ≡ letter_n → (node_at t k).a < k
  pub both< : ((node_at t k).kind ≡ letter_a) ⊎ ((node_at t k).kind ≡ letter_o) → ((node_at t k).a < k) × ((node_at t k).b < k)
  pub modal : ((node_at t k).kind ≡ letter_d) ⊎ ((node_at t k).kind ≡ letter_b) → ModalFacts t k

-- An edge of the automaton x.
pub record EdgeFacts (x : Automaton) (e : Edge) : Type 0 where
  pub from< : e.from.0 < x.states
  pub dir≤ : e.dir ≤ 2
  pub test< : e.test.0 < x.before
  pub to< : e.to.0 < x.states

-- Automaton m.
pub record AutomatonFacts (t : Table) (m : ℕ) : Type 0 where
  pub some_state : 1 ≤ (automaton_at t m).states
  pub states≤ : (automaton_at t m).states ≤ state_limit
  pub start< : (automaton_at t m).start.0 < (automaton_at t m).states
  pub accepting< : (automaton_at t m).accepting < 2 ^ (automaton_at t m).states
  pub edges≤ : (automaton_at t m).first + (automaton_at t m).count ≤ t.used.edges
  pub before< : (automaton_at t m).before < t.used.nodes
  pub edge : (e : ℕ) → (automaton_at t m).first ≤ e → e < (automaton_at t m).first + (automaton_at t m).count → EdgeFacts (automaton_at t m) (edge_at t e)

-- A table that some sheet gives.
pub record TableFacts (t : Table) : Type 0 where
  pub nodes_length : length t.nodes ≡ node_limit
  pub automata_length : length t.automata ≡ automaton_limit
  pub edges_length : length t.edges ≡ edge_limit
  pub some_node : 1 ≤ t.used.nodes
  pub nodes≤ : t.used.nodes ≤ node_limit
  pub automata≤ : t.used.automata ≤ automaton_limit
  pub edges≤ : t.used.edges ≤ edge_limit
  pub node : (k : ℕ) → k < t.used.nodes → NodeFacts t k
  pub automaton : (m : ℕ) → m < t.used.automata → AutomatonFacts t m
  pub no_node : (k : ℕ) → t.used.nodes ≤ k → node_at t k ≡ no_line
  pub no_automaton_past : (m : ℕ) → t.used.automata ≤ m → automaton_at t m ≡ no_automaton
  pub no_edge_past : (e : ℕ) → t.used.edges ≤ e → edge_at t e ≡ no_edge

-- A table that some sheet gives, lent as numbers.
pub record Lent (t : Table) (numbers : List ℕ) : Type 0 where
  pub facts : TableFacts t
  pub packed : Packed t numbers
