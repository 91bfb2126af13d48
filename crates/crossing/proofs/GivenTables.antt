-- Every table that some sheet gives crosses the boundary whole; the table all zeros is none of them.
use Prim.Native.Nat.{ℕ, zero, suc, ◌≤◌, ◌<◌}
use mathlib.Core.Path.{◌≡◌, refl, ap}
use mathlib.Core.Bool.{Bool, true, false}
use mathlib.Core.Logic.{◌⊎◌, inl, inr}
use mathlib.Core.List.{List}
use native.Mathlib.Omega.{arith}
use lib.ListN.{length}
use borrow.Author.Tests.{lt-ltb}
use Rattle.aldlf.specs.Constants.{node_limit}
use Rattle.aldlf.specs.Sheet.{no_line, no_edge, no_automaton}
use Rattle.aldlf.specs.declared.NodeLine.{NodeLine}
use Rattle.aldlf.specs.declared.Automaton.{Automaton}
use Rattle.aldlf.specs.declared.Edge.{Edge}
use Rattle.aldlf.specs.declared.Table.{Table}
use Rattle.aldlf.proofs.Bools.{lt-or-le}
use Rattle.sheet.specs.Questions.{empty_table}
use Rattle.sheet.specs.Given.{Given, well_formed, used_fits, edges_before}
use Rattle.sheet.proofs.Grown.{NodeOk, ok_t, ok_f, ok_p, ok_n, ok_a, ok_o, ok_d, ok_b, Grown, node, auto, edge}
use Rattle.sheet.proofs.Decided.{wf_yes}
use Rattle.sheet.proofs.Question31.{well_formed_iff}
use Rattle.crossing.specs.Numbers.{line_fits, automaton_fits, edge_fits, table_fits, table_numbers, table_of}
use Rattle.crossing.proofs.Listed.{all_by}
use Rattle.crossing.proofs.Packed.{Sized}
use Rattle.crossing.proofs.Crossing.{crosses}

line_small : (x : NodeLine) → x.kind < 256 → x.a < 256 → x.b < 256 → line_fits x ≡ true
line_small x p q r = rw (lt-ltb x.kind 256 p, lt-ltb x.a 256 q, lt-ltb x.b 256 r)

node_small : (ac i : ℕ) (ms : List Automaton) (x : NodeLine) → ac ≤ 16 → i < node_limit → NodeOk ac ms i x → line_fits x ≡ true
node_small ac i ms x h l (ok_t e p q) = line_small x (omega arith) (omega arith) (omega arith)
node_small ac i ms x h l (ok_f e p q) = line_small x (omega arith) (omega arith) (omega arith)
node_small ac i ms x h l (ok_p e p q) = line_small x (omega arith) (omega arith) (omega arith)
node_small ac i ms x h l (ok_n e p q) = line_small x (omega arith) (omega arith) (omega arith)
node_small ac i ms x h l (ok_a e p q) = line_small x (omega arith) (omega arith) (omega arith)
node_small ac i ms x h l (ok_o e p q) = line_small x (omega arith) (omega arith) (omega arith)
node_small ac i ms x h l (ok_d e p n q) = line_small x (omega arith) (omega arith) (omega arith)
node_small ac i ms x h l (ok_b e p n q) = line_small x (omega arith) (omega arith) (omega arith)

automaton_small : (x : Automaton) → x.states < 256 → x.start.0 < 256 → x.before < 256 → automaton_fits x ≡ true
automaton_small x p q r = rw (lt-ltb x.states 256 p, lt-ltb x.start.0 256 q, lt-ltb x.before 256 r)

edge_small : (e : Edge) → e.from.0 < 256 → e.dir < 256 → e.test.0 < 256 → e.to.0 < 256 → edge_fits e ≡ true
edge_small e p q r s = rw (lt-ltb e.from.0 256 p, lt-ltb e.dir 256 q, lt-ltb e.test.0 256 r, lt-ltb e.to.0 256 s)

module _ (t : Table) (b : Bool) (g : Grown t b) where
  lines_fit : (k : ℕ) → k < length t.nodes → line_fits (node t k) ≡ true
  lines_fit k h = go (lt-or-le k t.used.nodes)
    where
      go : (k < t.used.nodes) ⊎ (t.used.nodes ≤ k) → line_fits (node t k) ≡ true
      go (inl l) = node_small t.used.automata k t.automata (node t k) g.automata≤ (omega (arith, g.nodes≤)) (g.nodes k l)
      go (inr l) = ap line_fits (g.no_nodes k l)

  automata_fit : (m : ℕ) → m < length t.automata → automaton_fits (auto t m) ≡ true
  automata_fit m h = go (lt-or-le m t.used.automata)
    where
      go : (m < t.used.automata) ⊎ (t.used.automata ≤ m) → automaton_fits (auto t m) ≡ true
      go (inl l) =
          let o = g.automata m l in
          automaton_small (auto t m) (omega (arith, o.states≤)) (omega (arith, o.states≤, o.start<)) (omega (arith, o.before≤, g.nodes≤))
      go (inr l) = ap automaton_fits (g.no_automata m l)

  -- an edge in use belongs to an automaton
  edge_of : (n e : ℕ) → n ≤ t.used.automata → e < edges_before t.automata n → edge_fits (edge t e) ≡ true
  edge_of zero e h l = absurd (omega arith)
  edge_of (suc m) e h l = go (λ i. edge_of m e (omega arith) i) (lt-or-le e (edges_before t.automata m))
    where
      go : (e < edges_before t.automata m → edge_fits (edge t e) ≡ true) → (e < edges_before t.automata m) ⊎ (edges_before t.automata m ≤ e) → edge_fits (edge t e) ≡ true
      go below (inl i) = below i
      go below (inr i) =
          let o = g.automata m (omega arith) in
          let k = g.edges m (omega arith) e (omega (arith, o.first≡)) l in
          edge_small (edge t e) (omega (arith, k.from<, o.states≤)) (omega (arith, k.dir<)) (omega (arith, k.test<, o.before≤, g.nodes≤)) (omega (arith, k.to<, o.states≤))

  edges_fit : (e : ℕ) → e < length t.edges → edge_fits (edge t e) ≡ true
  edges_fit e h = go (lt-or-le e t.used.edges)
    where
      go : (e < t.used.edges) ⊎ (t.used.edges ≤ e) → edge_fits (edge t e) ≡ true
      go (inl l) = edge_of t.used.automata e (omega arith) (omega (arith, g.total))
      go (inr l) = ap edge_fits (g.no_edges e l)

  grown_fits : table_fits t ≡ true
  unfolding table_fits
  grown_fits =
      rw
      (all_by line_fits t.nodes no_line lines_fit, all_by automaton_fits t.automata no_automaton automata_fit, all_by edge_fits t.edges no_edge edges_fit, lt-ltb t.used.nodes 256 (omega (arith, g.nodes≤)), lt-ltb t.used.automata 256 (omega (arith, g.automata≤)))

  grown_sized : Sized t
  grown_sized = record { nodes = g.nodes_long; automata = g.automata_long; edges = g.edges_long }

well_formed_crosses : (t : Table) → well_formed t ≡ true → table_of (table_numbers t) ≡ t
well_formed_crosses t h =
    let g = (wf_yes t h).grown in
    crosses t (grown_sized t false g) (grown_fits t false g)

-- the table of every sheet crosses whole
pub given_crosses : (t : Table) → Given t → table_of (table_numbers t) ≡ t
given_crosses t s = well_formed_crosses t ((well_formed_iff t).1 s)

-- what is no table's numbers is refused by question 31
pub no_sheet : well_formed empty_table ≡ false
unfolding well_formed used_fits
no_sheet = refl
