-- Helper definitions that only the proofs of the code need: nodes marked, and the automata whose tests are marked already.
use Rattle.std.specs.Prelude.{ℕ, ◌+◌, ◌≤◌, ◌<◌, ◌≡◌, ◌⊎◌, Bool, true, false, cond, List, get_or, length}
use Rattle.aldlf.specs.Constants.{node_limit, edge_limit, letter_n, letter_a, letter_o, letter_d, letter_b}
use Rattle.aldlf.specs.Sheet.{Sheet}
use Rattle.aldlf.specs.Stands.{Tests, mark_line}
use Rattle.aldlf.specs.declared.Automaton.{Automaton}
use Rattle.aldlf.specs.declared.NodeLine.{NodeLine}
use Rattle.packing.specs.Numbers.{places, lent_edge}

-- Of each automaton that is taken, every node that its edges test is marked.
abbrev pub Taken : Sheet → List Bool → List Bool → Type 0
Taken S flags taken = (m : ℕ) → get_or taken m false ≡ true → (x : ℕ) → Tests S m x → get_or flags x false ≡ true

-- The flags are as they should be, and the tests of the automata that are taken are marked.
pub record Marked (S : Sheet) (wanted flags taken : List Bool) : Type 0 where
  pub flags_are : flags ≡ wanted
  pub taken_are : Taken S flags taken

-- A turn of the pass: what node k names is marked, where node k is.
abbrev pub turned : Sheet → ℕ → List Bool → List Bool
turned S k flags = cond (get_or flags k false) (mark_line S (S.line k) flags) flags

-- The edges of an automaton are among the numbers, and test nodes within the limit.
pub record TestsIn (numbers : List ℕ) (x : Automaton) : Type 0 where
  pub size : length numbers ≡ places
  pub edges≤ : x.first + x.count ≤ edge_limit
  pub test< : (e : ℕ) → x.first ≤ e → e < x.first + x.count → (lent_edge numbers e).test.0 < node_limit

-- What a line names is within the limits: nodes, and of so many automata the one of a D or B.
pub record LineIn (automata : ℕ) (x : NodeLine) : Type 0 where
  pub one_node : x.kind ≡ letter_n → x.a < node_limit
  pub two_nodes : (x.kind ≡ letter_a) ⊎ (x.kind ≡ letter_o) → (x.a < node_limit) × (x.b < node_limit)
  pub modal : (x.kind ≡ letter_d) ⊎ (x.kind ≡ letter_b) → (x.a < automata) × (x.b < node_limit)
