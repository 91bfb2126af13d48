-- What judging may rely on in a table that the checks accept.
use Prim.Native.Nat.{ℕ, ◌+◌, ◌≤◌, ◌<◌}
use mathlib.Core.Path.{◌≡◌, refl}
use mathlib.Core.Bool.{true, false}
use mathlib.Core.Logic.{⊎_elim}
use native.Mathlib.Omega.{arith}
use Rattle.aldlf.specs.declared.Table.{Table}
use Rattle.sheet.specs.Given.{well_formed}
use Rattle.sheet.specs.Facts.{node_at, automaton_at, edge_at, ModalFacts, NodeFacts, TableFacts}
use Rattle.sheet.proofs.Grown.{NodeOk, ok_t, ok_f, ok_p, ok_n, ok_a, ok_o, ok_d, ok_b}
use Rattle.sheet.proofs.Decided.{edges-end, wf_yes}

node_facts : (t : Table) (k : ℕ) → NodeOk t.used.automata t.automata k (node_at t k) → NodeFacts t k
node_facts t k (ok_t e p q) = record { fact< = λ h. absurd (omega arith); not< = λ h. absurd (omega arith); both< = λ h. ⊎_elim (λ d. absurd (omega arith)) (λ d. absurd (omega arith)) h; modal = λ h. ⊎_elim (λ d. absurd (omega arith)) (λ d. absurd (omega arith)) h }
node_facts t k (ok_f e p q) = record { fact< = λ h. absurd (omega arith); not< = λ h. absurd (omega arith); both< = λ h. ⊎_elim (λ d. absurd (omega arith)) (λ d. absurd (omega arith)) h; modal = λ h. ⊎_elim (λ d. absurd (omega arith)) (λ d. absurd (omega arith)) h }
node_facts t k (ok_p e p q) = record { fact< = λ h. p; not< = λ h. absurd (omega arith); both< = λ h. ⊎_elim (λ d. absurd (omega arith)) (λ d. absurd (omega arith)) h; modal = λ h. ⊎_elim (λ d. absurd (omega arith)) (λ d. absurd (omega arith)) h }
node_facts t k (ok_n e p q) = record { fact< = λ h. absurd (omega arith); not< = λ h. p; both< = λ h. ⊎_elim (λ d. absurd (omega arith)) (λ d. absurd (omega arith)) h; modal = λ h. ⊎_elim (λ d. absurd (omega arith)) (λ d. absurd (omega arith)) h }
node_facts t k (ok_a e p q) = record { fact< = λ h. absurd (omega arith); not< = λ h. absurd (omega arith); both< = λ h. (p, q); modal = λ h. ⊎_elim (λ d. absurd (omega arith)) (λ d. absurd (omega arith)) h }
node_facts t k (ok_o e p q) = record { fact< = λ h. absurd (omega arith); not< = λ h. absurd (omega arith); both< = λ h. (p, q); modal = λ h. ⊎_elim (λ d. absurd (omega arith)) (λ d. absurd (omega arith)) h }
node_facts t k (ok_d e p n q) = record { fact< = λ h. absurd (omega arith); not< = λ h. absurd (omega arith); both< = λ h. ⊎_elim (λ d. absurd (omega arith)) (λ d. absurd (omega arith)) h; modal = λ h. record { automaton< = p; before≤ = n; node< = q } }
node_facts t k (ok_b e p n q) = record { fact< = λ h. absurd (omega arith); not< = λ h. absurd (omega arith); both< = λ h. ⊎_elim (λ d. absurd (omega arith)) (λ d. absurd (omega arith)) h; modal = λ h. record { automaton< = p; before≤ = n; node< = q } }

-- what judging may rely on
pub table_facts : (t : Table) → well_formed t ≡ true → TableFacts t
table_facts t h =
    let w = wf_yes t h in
    let g = w.grown in
    record {
      nodes_length = g.nodes_long;
      automata_length = g.automata_long;
      edges_length = g.edges_long;
      some_node = w.some;
      nodes≤ = g.nodes≤;
      automata≤ = g.automata≤;
      edges≤ = g.edges≤;
      node = λ k u. node_facts t k (g.nodes k u);
      automaton = λ m u.
          let o = g.automata m u in
          record {
            some_state = o.some_state;
            states≤ = o.states≤;
            start< = o.start<;
            accepting< = o.accepting<;
            edges≤ = edges-end t false g m u;
            before< = g.outside refl m u;
            edge = λ e lo hi. let k = g.edges m u e lo hi in record { from< = k.from<; dir≤ = omega (arith, k.dir<); test< = k.test<; to< = k.to< };
          };
      no_node = g.no_nodes;
      no_automaton_past = g.no_automata;
      no_edge_past = g.no_edges;
    }

-- an edge of the automaton that node k names tests a node below k
pub tests_below : (t : Table) (k e : ℕ) → TableFacts t → ModalFacts t k → (automaton_at t (node_at t k).a).first ≤ e → e < (automaton_at t (node_at t k).a).first + (automaton_at t (node_at t k).a).count → (edge_at t e).test.0 < k
tests_below t k e f m lo hi = omega (arith, ((f.automaton (node_at t k).a m.automaton<).edge e lo hi).test<, m.before≤)
