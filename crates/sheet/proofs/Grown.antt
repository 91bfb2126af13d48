-- What holds of every table that lines have built.
use Prim.Native.Nat.{ℕ, zero, suc, ◌+◌, ◌^◌, ◌≤◌, ◌<◌}
use mathlib.Core.Path.{◌≡◌}
use mathlib.Core.List.{List}
use mathlib.Core.Bool.{Bool, true, false}
use mathlib.Core.Logic.{⊎_elim}
use native.Mathlib.Nat.{eq-or-lt_of_le}
use native.Mathlib.Omega.{arith}
use lib.ListN.{length, get_or}
use Rattle.aldlf.specs.Constants.{node_limit, letter_t, letter_f, letter_p, letter_n, letter_a, letter_o, letter_d, letter_b}
use Rattle.aldlf.specs.Sheet.{no_line, no_edge, no_automaton}
use Rattle.aldlf.specs.declared.NodeLine.{NodeLine}
use Rattle.aldlf.specs.declared.Edge.{Edge}
use Rattle.aldlf.specs.declared.Automaton.{Automaton}
use Rattle.aldlf.specs.declared.Table.{Table}
use Rattle.sheet.specs.Questions.{plains}
use Rattle.sheet.specs.Given.{edges_before, nodes_before}

-- what holds of every table that lines have built; b says whether the last line is M, G or E
pub data NodeOk (ac : ℕ) (ms : List Automaton) (i : ℕ) (x : NodeLine) : Type 0 where
  ok_t : x.kind ≡ letter_t → x.a ≡ 0 → x.b ≡ 0 → NodeOk ac ms i x
  ok_f : x.kind ≡ letter_f → x.a ≡ 0 → x.b ≡ 0 → NodeOk ac ms i x
  ok_p : x.kind ≡ letter_p → x.a < 32 → x.b ≡ 0 → NodeOk ac ms i x
  ok_n : x.kind ≡ letter_n → x.a < i → x.b ≡ 0 → NodeOk ac ms i x
  ok_a : x.kind ≡ letter_a → x.a < i → x.b < i → NodeOk ac ms i x
  ok_o : x.kind ≡ letter_o → x.a < i → x.b < i → NodeOk ac ms i x
  ok_d : x.kind ≡ letter_d → x.a < ac → (get_or ms x.a no_automaton).before ≤ i → x.b < i → NodeOk ac ms i x
  ok_b : x.kind ≡ letter_b → x.a < ac → (get_or ms x.a no_automaton).before ≤ i → x.b < i → NodeOk ac ms i x

pub record AutoOk (nc first above : ℕ) (x : Automaton) : Type 0 where
  pub some_state : 1 ≤ x.states
  pub states≤ : x.states ≤ 16
  pub start< : x.start.0 < x.states
  pub accepting< : x.accepting < 2 ^ x.states
  pub first≡ : x.first ≡ first
  pub mono : above ≤ x.before
  pub before≤ : x.before ≤ nc

pub record EdgeOk (ns : List NodeLine) (x : Automaton) (e : Edge) : Type 0 where
  pub from< : e.from.0 < x.states
  pub dir< : e.dir < 3
  pub test< : e.test.0 < x.before
  pub to< : e.to.0 < x.states
  pub plain_test : (e.dir ≡ 0 → ⊥) → get_or (plains ns) e.test.0 false ≡ true

abbrev pub node : Table → ℕ → NodeLine
node t i = get_or t.nodes i no_line

abbrev pub auto : Table → ℕ → Automaton
auto t m = get_or t.automata m no_automaton

abbrev pub edge : Table → ℕ → Edge
edge t e = get_or t.edges e no_edge

pub record Grown (t : Table) (b : Bool) : Type 0 where
  pub nodes_long : length t.nodes ≡ node_limit
  pub automata_long : length t.automata ≡ 16
  pub edges_long : length t.edges ≡ 256
  pub nodes≤ : t.used.nodes ≤ node_limit
  pub automata≤ : t.used.automata ≤ 16
  pub edges≤ : t.used.edges ≤ 256
  pub nodes : (i : ℕ) → i < t.used.nodes → NodeOk t.used.automata t.automata i (node t i)
  pub no_nodes : (i : ℕ) → t.used.nodes ≤ i → node t i ≡ no_line
  pub automata : (m : ℕ) → m < t.used.automata → AutoOk t.used.nodes (edges_before t.automata m) (nodes_before t.automata m) (auto t m)
  pub no_automata : (m : ℕ) → t.used.automata ≤ m → auto t m ≡ no_automaton
  pub edges : (m : ℕ) → m < t.used.automata → (e : ℕ) → (auto t m).first ≤ e → e < (auto t m).first + (auto t m).count → EdgeOk t.nodes (auto t m) (edge t e)
  pub no_edges : (e : ℕ) → t.used.edges ≤ e → edge t e ≡ no_edge
  pub total : edges_before t.automata t.used.automata ≡ t.used.edges
  pub inside : b ≡ true → (1 ≤ t.used.automata) × (nodes_before t.automata t.used.automata ≡ t.used.nodes)
  pub outside : b ≡ false → (m : ℕ) → m < t.used.automata → (auto t m).before < t.used.nodes

-- a table of its parts
abbrev pub mk : List NodeLine → List Automaton → List Edge → ℕ → ℕ → ℕ → Table
mk ns ms es n m e = record { nodes = ns; automata = ms; edges = es; used = record { nodes = n; automata = m; edges = e } }

-- automata stand in the order of their M lines, and so do their edges
pub mono_of : (t : Table) (b : Bool) → Grown t b → (m m' : ℕ) → m ≤ m' → m' < t.used.automata → (auto t m).before ≤ (auto t m').before
mono_of t b g m zero h w = let e : m ≡ 0 = omega arith in rw e (omega arith)
mono_of t b g m (suc m') h w =
    ⊎_elim (λ (e : m ≡ suc m'). rw e (omega arith))
    (λ (k : m < suc m'). omega (arith, mono_of t b g m m' (omega arith) (omega arith), (g.automata (suc m') w).mono))
    (eq-or-lt_of_le h)

pub before_mono : (t : Table) (b : Bool) → Grown t b → (m m' : ℕ) → m < m' → m' < t.used.automata → (auto t m).first + (auto t m).count ≤ (auto t m').first
before_mono t b g m zero h w = absurd (omega arith)
before_mono t b g m (suc m') h w =
    let f = (g.automata (suc m') w).first≡ in
    ⊎_elim (λ (e : m ≡ m'). rw e (omega arith))
    (λ (k : m < m'). omega (arith, before_mono t b g m m' k (omega arith)))
    (eq-or-lt_of_le {n = m} {m = m'} (omega arith))

-- a change of one automaton that keeps its nodes_before
pub node_move : (ac : ℕ) (ms ms' : List Automaton) (i : ℕ) (x : NodeLine) → ((m : ℕ) → m < ac → (get_or ms' m no_automaton).before ≡ (get_or ms m no_automaton).before) → NodeOk ac ms i x → NodeOk ac ms' i x
node_move ac ms ms' i x f (ok_t e p q) = ok_t e p q
node_move ac ms ms' i x f (ok_f e p q) = ok_f e p q
node_move ac ms ms' i x f (ok_p e p q) = ok_p e p q
node_move ac ms ms' i x f (ok_n e p q) = ok_n e p q
node_move ac ms ms' i x f (ok_a e p q) = ok_a e p q
node_move ac ms ms' i x f (ok_o e p q) = ok_o e p q
node_move ac ms ms' i x f (ok_d e p n q) = ok_d e p (omega (arith, f x.a p)) q
node_move ac ms ms' i x f (ok_b e p n q) = ok_b e p (omega (arith, f x.a p)) q
