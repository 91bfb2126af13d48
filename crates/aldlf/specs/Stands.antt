-- THE NODES THAT A SHEET'S RULE STANDS ON, through nodes, edges and tests, itself included; which ways the rule looks; and the sheet in which every other node is false.
use Rattle.std.specs.Prelude.{ℕ, zero, suc, ◌+◌, ◌-◌, ◌≤◌, ◌<◌, ◌≡◌, ◌⊎◌, Bool, true, false, cond, ◌&&◌, ◌||◌, List, get_or, set, replicate}
use Rattle.aldlf.specs.Constants.{node_limit}
use Rattle.aldlf.specs.Sheet.{Sheet, Line, T, F, P, N, A, O, D, B, by_mode, Dir, ahead, back, stay}

-- Edge e is one of automaton m's.
abbrev pub EdgeOf : Sheet → (m e : ℕ) → Type 0
EdgeOf S m e = ((S.automaton m).first ≤ e) × (e < (S.automaton m).first + (S.automaton m).count)

-- Some edge of automaton m tests node x.
abbrev pub Tests : Sheet → (m x : ℕ) → Type 0
Tests S m x = (e : ℕ) × EdgeOf S m e × ((S.edge e).test ≡ x)

-- A line names node x: as an operand, or, of a D or B, by an edge of its automaton.
abbrev pub Names : Sheet → Line → ℕ → Type 0
Names S T x = ⊥
Names S F x = ⊥
Names S (P f) x = ⊥
Names S (N a) x = a ≡ x
Names S (A a b) x = (a ≡ x) ⊎ (b ≡ x)
Names S (O a b) x = (a ≡ x) ⊎ (b ≡ x)
Names S (D m a) x = (a ≡ x) ⊎ Tests S m x
Names S (B m a) x = (a ≡ x) ⊎ Tests S m x

-- The rule, the last node, stands on itself, and on every node that is named by the line of one that it stands on.
pub data StandsOn (S : Sheet) : ℕ → Type 0 where
  rule : {k : ℕ} → suc k ≡ S.nodes → StandsOn S k
  named : {k x : ℕ} → StandsOn S k → Names S (S.line k) x → StandsOn S x

-- The rule stands on edge e: it stands on a D or B whose automaton has that edge.
abbrev pub StandsOnEdge : Sheet → ℕ → Type 0
StandsOnEdge S e = (k : ℕ) × StandsOn S k × by_mode (λ m a. EdgeOf S m e) (λ m a. EdgeOf S m e) ⊥ (S.line k)

-- The same as flags, one per node, by one pass from the last node down: a line names only earlier nodes.

-- Node x is marked.
abbrev pub mark : ℕ → List Bool → List Bool
mark x p = set p x true

-- The nodes that the first c edges from number f on test are marked.
abbrev pub mark_tests : Sheet → (f c : ℕ) → List Bool → List Bool
mark_tests S f zero p = p
mark_tests S f (suc c) p = mark (S.edge (f + c)).test (mark_tests S f c p)

-- The nodes that a D or B line names are marked.
abbrev pub mark_modal : Sheet → (m a : ℕ) → List Bool → List Bool
mark_modal S m a p = mark_tests S (S.automaton m).first (S.automaton m).count (mark a p)

-- The nodes that a line names are marked.
abbrev pub mark_line : Sheet → Line → List Bool → List Bool
mark_line S T p = p
mark_line S F p = p
mark_line S (P f) p = p
mark_line S (N a) p = mark a p
mark_line S (A a b) p = mark b (mark a p)
mark_line S (O a b) p = mark b (mark a p)
mark_line S (D m a) p = mark_modal S m a p
mark_line S (B m a) p = mark_modal S m a p

-- From node n - 1 down, the nodes that a marked node's line names are marked.
abbrev pub stands_from : Sheet → (n : ℕ) → List Bool → List Bool
stands_from S zero p = p
stands_from S (suc n) p = stands_from S n (cond (get_or p n false) (mark_line S (S.line n) p) p)

-- The flags of all nodes: the rule is marked first.
unfoldable pub stands_of : Sheet → List Bool
stands_of S = stands_from S S.nodes (mark (S.nodes - 1) (replicate node_limit false))

-- The rule stands on node k.
abbrev pub stands : Sheet → ℕ → Bool
stands S k = get_or (stands_of S) k false

-- Some number below n passes the test.
abbrev pub any_below : ℕ → (ℕ → Bool) → Bool
any_below zero p = false
any_below (suc n) p = p n || any_below n p

-- Two directions are the same.
abbrev pub same_dir : Dir → Dir → Bool
same_dir ahead ahead = true
same_dir ahead back = false
same_dir ahead stay = false
same_dir back ahead = false
same_dir back back = true
same_dir back stay = false
same_dir stay ahead = false
same_dir stay back = false
same_dir stay stay = true

-- Automaton m has an edge of this direction.
abbrev pub has_dir : Sheet → Dir → ℕ → Bool
has_dir S d m = any_below (S.automaton m).count (λ c. same_dir (S.edge ((S.automaton m).first + c)).dir d)

-- A D or B line whose automaton has an edge of this direction.
abbrev pub line_has : Sheet → Dir → Line → Bool
line_has S d l = by_mode (λ m a. has_dir S d m) (λ m a. has_dir S d m) false l

-- The rule stands on an edge of this direction: one of an automaton that a D or B line which it stands on names.
unfoldable pub stands_on_dir : Sheet → Dir → Bool
stands_on_dir S d = any_below S.nodes (λ k. stands S k && line_has S d (S.line k))

-- The sheet as parts are judged: nodes that the rule does not stand on are false, so that their bits are 0 and no row has a bit for them.
unfoldable pub rule_sheet : Sheet → Sheet
rule_sheet S =
    let flags = stands_of S in
    record {
      nodes = S.nodes;
      edges = S.edges;
      line = λ k. cond (get_or flags k false) (S.line k) F;
      automaton = S.automaton;
      edge = S.edge;
    }
