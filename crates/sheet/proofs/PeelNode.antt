-- The last line is a node: it passes, and the table without it is one that lines have built.
use Prim.Native.Nat.{ℕ, ◌+◌, ◌-◌, ◌≤◌, ◌<◌}
use mathlib.Core.Path.{◌≡◌, refl, ap, sym, ◌∙◌}
use mathlib.Core.List.{List, [], ◌∷◌, ◌++◌}
use mathlib.Core.Bool.{Bool, true, false}
use mathlib.Core.Logic.{⊎_elim}
use native.Mathlib.Nat.{eq-or-lt_of_le}
use native.Mathlib.Omega.{arith}
use lib.ListN.{length, set, replicate, length-set, length-append}
use lib.Seq.{get_or-set_same, get_or-set_other, set-set, set-get_or}
use borrow.Author.Tests.{eq-eqb, ne_eqb, lt-ltb}
use Rattle.aldlf.specs.Constants.{node_limit, letter_m, letter_g, letter_e}
use Rattle.aldlf.specs.Sheet.{no_line}
use Rattle.aldlf.specs.declared.NodeLine.{NodeLine}
use Rattle.aldlf.specs.declared.Automaton.{Automaton}
use Rattle.aldlf.specs.declared.Table.{Table}
use Rattle.text.specs.Text.{not_number, comma, lf}
use Rattle.sheet.specs.declared.line.Line.{Line}
use Rattle.sheet.specs.declared.build.Reading.{Reading}
use Rattle.sheet.specs.Ranges.{is_of_kind, kinds, first_wrong, out_of_range}
use Rattle.sheet.specs.Questions.{arity, known_line, all_numbers, room_left, belongs, last, newly_accepting, plain_step, question, with_node, added}
use Rattle.sheet.specs.Given.{nodes_before}
use Rattle.sheet.proofs.Asked.{question_passes}
use Rattle.sheet.proofs.Added.{line_node}
use Rattle.sheet.proofs.Passed.{Absent}
use Rattle.sheet.proofs.Print.{Canon}
use Rattle.sheet.proofs.Reach.{Reach, next}
use Rattle.sheet.proofs.Plain.{plain_set}
use Rattle.sheet.proofs.Grown.{NodeOk, node, auto, edge, Grown, mk, ok_t, ok_f, ok_p, ok_n, ok_a, ok_o, ok_d, ok_b}

-- a node's line
pub node_line : NodeLine → Line
node_line x = record { letter = x.kind; count = arity x.kind; a = x.a; b = x.b; c = 0; d = 0 }

module _ (ac : ℕ) (ms : List Automaton) (i : ℕ) (x : NodeLine) (ha : ac ≤ 16) (hi : i ≤ node_limit) where
  pub apart : NodeOk ac ms i x → (x.kind ≡ letter_m → ⊥) × (x.kind ≡ letter_g → ⊥) × (x.kind ≡ letter_e → ⊥) × (x.kind ≡ comma → ⊥) × (x.kind ≡ lf → ⊥) × (x.kind < 256) × (x.a < 256) × (x.b < 256)
  apart (ok_t e p q) = omega arith
  apart (ok_f e p q) = omega arith
  apart (ok_p e p q) = omega arith
  apart (ok_n e p q) = omega arith
  apart (ok_a e p q) = omega arith
  apart (ok_o e p q) = omega arith
  apart (ok_d e p n q) = omega arith
  apart (ok_b e p n q) = omega arith

  node_absent : NodeOk ac ms i x → Absent (node_line x) × ((node_line x).count ≤ 4)
  unfolding node_line
  node_absent (ok_t e p q) = let n : arity x.kind ≡ 0 = ap arity e in (record { a0 = λ h. p; b0 = λ h. q; c0 = λ h. refl; d0 = λ h. refl; few = omega arith }, omega arith)
  node_absent (ok_f e p q) = let n : arity x.kind ≡ 0 = ap arity e in (record { a0 = λ h. p; b0 = λ h. q; c0 = λ h. refl; d0 = λ h. refl; few = omega arith }, omega arith)
  node_absent (ok_p e p q) = let n : arity x.kind ≡ 1 = ap arity e in (record { a0 = λ h. absurd (omega arith); b0 = λ h. q; c0 = λ h. refl; d0 = λ h. refl; few = omega arith }, omega arith)
  node_absent (ok_n e p q) = let n : arity x.kind ≡ 1 = ap arity e in (record { a0 = λ h. absurd (omega arith); b0 = λ h. q; c0 = λ h. refl; d0 = λ h. refl; few = omega arith }, omega arith)
  node_absent (ok_a e p q) = let n : arity x.kind ≡ 2 = ap arity e in (record { a0 = λ h. absurd (omega arith); b0 = λ h. absurd (omega arith); c0 = λ h. refl; d0 = λ h. refl; few = omega arith }, omega arith)
  node_absent (ok_o e p q) = let n : arity x.kind ≡ 2 = ap arity e in (record { a0 = λ h. absurd (omega arith); b0 = λ h. absurd (omega arith); c0 = λ h. refl; d0 = λ h. refl; few = omega arith }, omega arith)
  node_absent (ok_d e p m q) = let n : arity x.kind ≡ 2 = ap arity e in (record { a0 = λ h. absurd (omega arith); b0 = λ h. absurd (omega arith); c0 = λ h. refl; d0 = λ h. refl; few = omega arith }, omega arith)
  node_absent (ok_b e p m q) = let n : arity x.kind ≡ 2 = ap arity e in (record { a0 = λ h. absurd (omega arith); b0 = λ h. absurd (omega arith); c0 = λ h. refl; d0 = λ h. refl; few = omega arith }, omega arith)

  pub node_canon : NodeOk ac ms i x → Canon (node_line x)
  unfolding node_line
  node_canon k =
      let s = apart k in
      let w = node_absent k in
      record { shape = w.0; four = w.1; a< = omega arith; b< = omega arith; c< = omega arith; d< = omega arith; parted = s.3; ended = s.4; byte = s.5 }

node_range : (t : Table) (x : NodeLine) → NodeOk t.used.automata t.automata t.used.nodes x → (out_of_range t.used (last t) (node_line x)).number ≡ 0
unfolding out_of_range kinds is_of_kind first_wrong node_line
node_range t x (ok_t e p q) = rw e
node_range t x (ok_f e p q) = rw e
node_range t x (ok_p e p q) = rw (e, lt-ltb x.a 32 p)
node_range t x (ok_n e p q) = rw (e, lt-ltb x.a t.used.nodes p)
node_range t x (ok_a e p q) = rw (e, lt-ltb x.a t.used.nodes p, lt-ltb x.b t.used.nodes q)
node_range t x (ok_o e p q) = rw (e, lt-ltb x.a t.used.nodes p, lt-ltb x.b t.used.nodes q)
node_range t x (ok_d e p n q) = rw (e, lt-ltb x.a t.used.automata p, lt-ltb x.b t.used.nodes q)
node_range t x (ok_b e p n q) = rw (e, lt-ltb x.a t.used.automata p, lt-ltb x.b t.used.nodes q)

pub node_passes : (r : Reading) (x : NodeLine) → r.table.used.automata ≤ 16 → r.table.used.nodes < node_limit → NodeOk r.table.used.automata r.table.automata r.table.used.nodes x → (question r (node_line x)).number ≡ 0
unfolding known_line all_numbers room_left belongs newly_accepting plain_step node_line
node_passes r x ha hn k =
    let t = r.table in
    let s = apart t.used.automata t.automata t.used.nodes x ha (omega arith) k in
    let nM = ne_eqb x.kind letter_m s.0 in
    let nG = ne_eqb x.kind letter_g s.1 in
    let nE = ne_eqb x.kind letter_e s.2 in
    question_passes r (node_line x)
    (eq-eqb (arity x.kind) (arity x.kind) refl)
    (rw (lt-ltb x.a not_number (omega arith), lt-ltb x.b not_number (omega arith)))
    (rw (nM, nG, nE) (lt-ltb t.used.nodes node_limit hn))
    (rw (nG, nE))
    (node_range t x k)
    (rw nG)
    (rw nE)

-- lines, at most n of them, that build the table
pub record Built (t : Table) (b : Bool) (n : ℕ) : Type 0 where
  pub ls : List Line
  pub r : Reading
  pub way : Reach ls r
  pub same : r.table ≡ t
  pub flag : r.inside ≡ b
  pub short : length ls ≤ n

pub weaken : {t : Table} {b : Bool} {n : ℕ} (m : ℕ) → n ≤ m → Built t b n → Built t b m
weaken m h u = record { ls = u.ls; r = u.r; way = u.way; same = u.same; flag = u.flag; short = omega (arith, u.short) }

-- the last line is a node
module _ (t : Table) (g : Grown t false) (h : 1 ≤ t.used.nodes) where
  n : ℕ
  n = t.used.nodes - 1

  unfoldable pub less_node : Table
  less_node = mk (set t.nodes (t.used.nodes - 1) no_line) t.automata t.edges (t.used.nodes - 1) t.used.automata t.used.edges

  x : NodeLine
  x = node t (t.used.nodes - 1)

  more_node : with_node less_node (node_line x) ≡ t
  unfolding with_node less_node node_line x
  more_node =
      let k = t.used.nodes - 1 in
      let e : k + 1 ≡ t.used.nodes = omega arith in
      ap (λ (ns : List NodeLine). mk ns t.automata t.edges (k + 1) t.used.automata t.used.edges) (set-set t.nodes k no_line (node t k) ∙ set-get_or t.nodes k no_line)
      ∙ ap (λ (c : ℕ). mk t.nodes t.automata t.edges c t.used.automata t.used.edges) e

  pub less_node_grown : (b : Bool) → (b ≡ true → (1 ≤ t.used.automata) × (nodes_before t.automata t.used.automata ≡ t.used.nodes - 1))
      → (b ≡ false → (m : ℕ) → m < t.used.automata → (auto t m).before < t.used.nodes - 1) → Grown less_node b
  unfolding less_node
  less_node_grown b fi fo =
      let k = t.used.nodes - 1 in
      record {
        nodes_long = length-set t.nodes k no_line ∙ g.nodes_long;
        automata_long = g.automata_long;
        edges_long = g.edges_long;
        nodes≤ = omega (arith, g.nodes≤);
        automata≤ = g.automata≤;
        edges≤ = g.edges≤;
        nodes = λ i w. rw (get_or-set_other t.nodes k i no_line no_line (omega arith)) (g.nodes i (omega arith));
        no_nodes = λ i w.
            ⊎_elim (λ (e : k ≡ i). rw (← e) (get_or-set_same t.nodes k no_line no_line (omega (arith, g.nodes_long, g.nodes≤))))
            (λ (q : k < i). get_or-set_other t.nodes k i no_line no_line (omega arith) ∙ g.no_nodes i (omega arith))
            (eq-or-lt_of_le w);
        automata = λ m w.
            let q = g.automata m w in
            let o = g.outside refl m w in
            record { some_state = q.some_state; states≤ = q.states≤; start< = q.start<; accepting< = q.accepting<; first≡ = q.first≡; mono = q.mono; before≤ = omega arith };
        no_automata = g.no_automata;
        edges = λ m w e f l.
            let q = g.edges m w e f l in
            let o = g.outside refl m w in
            record {
              from< = q.from<;
              dir< = q.dir<;
              test< = q.test<;
              to< = q.to<;
              plain_test = λ d. plain_set t.nodes k (edge t e).test.0 no_line (replicate node_limit false) (omega (arith, q.test<)) (omega (arith, g.nodes_long, g.nodes≤)) ∙ q.plain_test d;
            };
        no_edges = g.no_edges;
        total = g.total;
        inside = fi;
        outside = fo;
      }

  pub build_node : (b : Bool) (m : ℕ) → Built less_node b m → Built t false (m + 1)
  unfolding less_node x node_line added
  build_node b m u =
      let k = t.used.nodes - 1 in
      let ok : NodeOk t.used.automata t.automata k (node t k) = g.nodes k (omega arith) in
      let ok' : NodeOk u.r.table.used.automata u.r.table.automata u.r.table.used.nodes (node t k) = rw u.same ok in
      let s = apart t.used.automata t.automata k (node t k) g.automata≤ (omega (arith, g.nodes≤)) ok in
      let ac' : u.r.table.used.automata ≤ 16 = rw u.same g.automata≤ in
      let nc' : u.r.table.used.nodes < node_limit = rw u.same (omega (arith, g.nodes≤)) in
      record {
        ls = u.ls ++ (node_line (node t k) ∷ []);
        r = added u.r (length u.ls + 1) (node_line (node t k));
        way = next u.way (node_canon t.used.automata t.automata k (node t k) g.automata≤ (omega (arith, g.nodes≤)) ok) (node_passes u.r (node t k) ac' nc' ok');
        same = sym (line_node u.r.table (node_line (node t k)) s.0 s.1 s.2) ∙ ap (λ (y : Table). with_node y (node_line (node t k))) u.same ∙ more_node;
        flag = rw (ne_eqb (node t k).kind letter_m s.0, ne_eqb (node t k).kind letter_g s.1, ne_eqb (node t k).kind letter_e s.2);
        short = omega (arith, length-append u.ls (node_line (node t k) ∷ []), u.short);
      }
