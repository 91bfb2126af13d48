-- Only for the proofs of the code: the graph of configurations, each numbered entry times states plus state.
use Rattle.std.specs.Prelude.{ℕ, ◌+◌, ◌-◌, ◌*◌, ◌/◌, ◌%◌, ◌≤◌, ◌<◌, ◌≡◌, ◌⊎◌, Bool, true, false, List, eqb, ltb, length, Option, Some, None}
use Rattle.aldlf.specs.Constants.{node_limit, state_limit, edge_limit, entry_limit}
use Rattle.aldlf.specs.Sheet.{bit}
use Rattle.aldlf.specs.declared.Edge.{Edge}
use Rattle.aldlf.specs.declared.Entry.{Entry}
use Rattle.aldlf.specs.declared.Automaton.{Automaton}
use Rattle.graph.specs.Graph.{Graph, far, at}
use Rattle.graph.specs.Arcs.{unpacked_of, IntoChain, OutChain}

-- The first of two numbers, or the second.
abbrev pub pick_nat : Bool → ℕ → ℕ → ℕ
pick_nat true a b = a
pick_nat false a b = b

-- The number of the entry that a call answers; far where it answers none.
abbrev pub entry_or_far : Option Entry → ℕ
entry_or_far (Some i) = i.0
entry_or_far None = far

-- The entry that an edge of direction d leaves to arrive at entry j of n, or far.
abbrev pub entry_before : ℕ → ℕ → ℕ → ℕ
entry_before d j n =
    pick_nat (eqb d 0) j (pick_nat (eqb d 1) (pick_nat (eqb j 0) far (j - 1)) (pick_nat (ltb (j + 1) n) (j + 1) far))

-- The edge's state at entry i, where its test holds there, or far.
abbrev pub leaving : List ℕ → Edge → ℕ → ℕ → ℕ
leaving words e states i =
    pick_nat (eqb i far) far (pick_nat (bit (at words i) e.test.0) (i * states + e.from.0) far)

-- The configuration from which e leads to state s at entry j, or far.
unfoldable pub prior_of : List ℕ → Edge → ℕ → ℕ → ℕ → ℕ
prior_of words e states s j =
    pick_nat (eqb e.to.0 s) (leaving words e states (entry_before e.dir j (length words))) far

-- The graph of configurations of so many states, with the edges from number `first` on below `last`.
abbrev pub span_graph : List ℕ → (states first last : ℕ) → List ℕ → Graph
span_graph arcs states first last words =
    record {
      size = length words * states;
      first = first;
      last = last;
      pre = λ e c. prior_of words (unpacked_of (at arcs e)) states (c % states) (c / states);
    }

-- The graph of an automaton's configurations.
abbrev pub graph_of : List ℕ → Automaton → List ℕ → Graph
graph_of arcs q words = span_graph arcs q.states q.first (q.first + q.count) words

-- The configuration in which the walks from entry i start.
abbrev pub start_of : Automaton → ℕ → ℕ
start_of q i = i * q.states + q.start.0

-- What the search needs of an edge.
pub record EdgeFits (states : ℕ) (e : Edge) : Type 0 where
  pub from_fits : e.from.0 < states
  pub to_fits : e.to.0 < states
  pub test_fits : e.test.0 < node_limit
  pub dir_fits : e.dir ≤ 2

-- What the search needs of the chained edges, the automaton and the entries' numbers.
pub record Ready (arcs : List ℕ) (q : Automaton) (words : List ℕ) : Type 0 where
  pub some_state : 0 < q.states
  pub few_states : q.states ≤ state_limit
  pub few_words : length words ≤ entry_limit
  pub few_edges : q.first + q.count ≤ edge_limit
  pub room : 288 ≤ length arcs
  pub each : (e : ℕ) → q.first ≤ e → e < q.first + q.count → EdgeFits q.states (unpacked_of (at arcs e))
  pub into : IntoChain arcs q.first (q.first + q.count)
  pub out : OutChain arcs q.first (q.first + q.count)

-- An edge of direction d leads from entry i to entry j.
abbrev pub Goes : ℕ → ℕ → ℕ → Type 0
Goes d i j = ((d ≡ 0) × (i ≡ j)) ⊎ (((d ≡ 1) × (j ≡ i + 1)) ⊎ ((d ≡ 2) × (i ≡ j + 1)))

-- The edge leads from configuration p to q: its test holds at the entry that it leaves.
pub record Moves (words : List ℕ) (e : Edge) (states p q : ℕ) : Type 0 where
  pub from_state : e.from.0 ≡ p % states
  pub to_state : e.to.0 ≡ q % states
  pub test_holds : bit (at words (p / states)) e.test.0 ≡ true
  pub goes : Goes e.dir (p / states) (q / states)

-- Ahead for back, and back for ahead.
abbrev pub turned_of : ℕ → ℕ
turned_of d = pick_nat (eqb d 0) 0 (3 - d)

-- The entry at which e arrives from entry i, or far.
unfoldable pub arrival_of : List ℕ → Edge → ℕ → ℕ
arrival_of words e i = pick_nat (bit (at words i) e.test.0) (entry_before (turned_of e.dir) i (length words)) far

-- A division by the count of states as a multiplication by this number and a division by 262,144.
abbrev pub reciprocal_of : ℕ → ℕ
reciprocal_of states = 262144 / states + 1
