-- The last line is an edge: it passes, and the table without it is one that lines have built.
use Prim.Native.Nat.{ℕ, zero, suc, ◌+◌, ◌-◌, ◌≤◌, ◌<◌}
use mathlib.Core.Path.{◌≡◌, refl, ap, sym, ◌∙◌}
use mathlib.Core.List.{List, [], ◌∷◌, ◌++◌}
use mathlib.Core.Bool.{true}
use mathlib.Core.Logic.{◌⊎◌, inl, inr, ⊎_elim}
use native.Mathlib.Nat.{eq-or-lt_of_le}
use native.Mathlib.Omega.{arith}
use lib.ListN.{length, get_or, set, length-set, length-append}
use lib.Seq.{get_or-set_same, get_or-set_other, set-set, set-get_or}
use borrow.Author.Tests.{ne_eqb, lt-ltb}
use Rattle.aldlf.specs.Constants.{node_limit, letter_e}
use Rattle.aldlf.specs.Sheet.{no_edge, no_automaton}
use Rattle.aldlf.specs.declared.NodeLine.{NodeLine}
use Rattle.aldlf.specs.declared.Edge.{Edge}
use Rattle.aldlf.specs.declared.Automaton.{Automaton}
use Rattle.aldlf.specs.declared.Table.{Table}
use Rattle.text.specs.Text.{not_number}
use Rattle.sheet.specs.declared.line.Line.{Line}
use Rattle.sheet.specs.declared.build.Reading.{Reading}
use Rattle.sheet.specs.Ranges.{is_of_kind, kinds, first_wrong, out_of_range}
use Rattle.sheet.specs.Questions.{known_line, all_numbers, room_left, belongs, last, newly_accepting, plain_step, question, edge_by, with_edge, added}
use Rattle.sheet.specs.Given.{edges_before, nodes_before}
use Rattle.sheet.proofs.Bools.{same}
use Rattle.sheet.proofs.Fits.{edges_last}
use Rattle.sheet.proofs.Asked.{question_passes}
use Rattle.sheet.proofs.Added.{line_E}
use Rattle.sheet.proofs.Print.{Canon}
use Rattle.sheet.proofs.Reach.{next}
use Rattle.sheet.proofs.Grown.{AutoOk, EdgeOk, node, auto, edge, Grown, mk, before_mono, node_move}
use Rattle.sheet.proofs.PeelNode.{Built}

pub edge_line : Edge → Line
edge_line e = record { letter = letter_e; count = 4; a = e.from.0; b = e.dir; c = e.test.0; d = e.to.0 }

pub edge_passes : (r : Reading) (e : Edge) → r.inside ≡ true → EdgeOk r.table.nodes (last r.table) e → (last r.table).states ≤ 16 → (last r.table).before ≤ r.table.used.nodes
    → r.table.used.nodes ≤ node_limit → r.table.used.edges < 256 → (question r (edge_line e)).number ≡ 0
unfolding known_line all_numbers room_left belongs out_of_range kinds is_of_kind first_wrong newly_accepting plain_step edge_line
edge_passes r e i k s b n c =
    let t = r.table in
    question_passes r (edge_line e)
    refl
    (rw (lt-ltb e.from.0 not_number (omega (arith, k.from<)), lt-ltb e.dir not_number (omega (arith, k.dir<)), lt-ltb e.test.0 not_number (omega (arith, k.test<)), lt-ltb e.to.0 not_number (omega (arith, k.to<))))
    (lt-ltb t.used.edges 256 c)
    i
    (simp (lt-ltb e.from.0 (last t).states k.from<, lt-ltb e.dir 3 k.dir<, lt-ltb e.test.0 t.used.nodes (omega (arith, k.test<)), lt-ltb e.to.0 (last t).states k.to<))
    refl
    (⊎_elim (λ (z : e.dir ≡ 0). rw z) (λ z. rw (ne_eqb e.dir 0 z) (k.plain_test z)) (same e.dir 0))

pub edge_canon : (ns : List NodeLine) (x : Automaton) (e : Edge) → EdgeOk ns x e → x.states ≤ 16 → x.before ≤ node_limit → Canon (edge_line e)
unfolding edge_line
edge_canon ns x e k s n =
    record {
      shape = record { a0 = λ h. absurd (omega arith); b0 = λ h. absurd (omega arith); c0 = λ h. absurd (omega arith); d0 = λ h. absurd (omega arith); few = omega arith };
      four = omega arith;
      a< = omega (arith, k.from<);
      b< = omega (arith, k.dir<);
      c< = omega (arith, k.test<);
      d< = omega (arith, k.to<);
      parted = omega arith;
      ended = omega arith;
      byte = omega arith;
    }

-- an automaton with another number of edges
abbrev pub counted : Automaton → ℕ → Automaton
counted x c = record { states = x.states; start = x.start; accepting = x.accepting; first = x.first; count = c; before = x.before }

module _ (t : Table) (g : Grown t true) (h : 1 ≤ (last t).count) where
  J : ℕ
  J = t.used.automata - 1

  some : 1 ≤ t.used.automata
  some = (g.inside refl).0

  pub x' : Automaton
  x' = counted (last t) ((last t).count - 1)

  pub ms' : List Automaton
  ms' = set t.automata (t.used.automata - 1) x'

  pub es' : List Edge
  es' = set t.edges (t.used.edges - 1) no_edge

  unfoldable pub less_edge : Table
  less_edge = mk t.nodes ms' es' t.used.nodes t.used.automata (t.used.edges - 1)

  at_last : get_or ms' (t.used.automata - 1) no_automaton ≡ x'
  unfolding ms'
  at_last = get_or-set_same t.automata (t.used.automata - 1) x' no_automaton (omega (arith, some, g.automata≤, g.automata_long))

  at_other : (m : ℕ) → (m ≡ t.used.automata - 1 → ⊥) → get_or ms' m no_automaton ≡ auto t m
  unfolding ms'
  at_other m f = get_or-set_other t.automata (t.used.automata - 1) m x' no_automaton f

  sum : (last t).first + (last t).count ≡ t.used.edges
  sum = sym (edges_last t.automata t.used.automata some) ∙ g.total

  edge_other : (e : ℕ) → (e ≡ t.used.edges - 1 → ⊥) → get_or es' e no_edge ≡ edge t e
  unfolding es'
  edge_other e f = get_or-set_other t.edges (t.used.edges - 1) e no_edge no_edge f

  nb_same : (m : ℕ) → (get_or ms' m no_automaton).before ≡ (auto t m).before
  unfolding x'
  nb_same m = ⊎_elim (λ (e : m ≡ t.used.automata - 1). rw (e, at_last)) (λ f. ap (λ (a : Automaton). a.before) (at_other m f)) (same m (t.used.automata - 1))

  below_same : (m : ℕ) → nodes_before ms' m ≡ nodes_before t.automata m
  below_same zero = refl
  below_same (suc m) = nb_same m

  before_same : (m : ℕ) → m < t.used.automata → edges_before ms' m ≡ edges_before t.automata m
  before_same zero w = refl
  before_same (suc m) w = ap (λ (a : Automaton). a.first + a.count) (at_other m (omega arith))

  more_edge : with_edge less_edge (edge_line (edge t (t.used.edges - 1))) ≡ t
  unfolding with_edge less_edge edge_line x' ms' es'
  more_edge =
      let J = t.used.automata - 1 in
      let K = t.used.edges - 1 in
      let X = last t in
      let E2 = set (set t.edges K no_edge) K (edge t K) in
      let e1 : X.count - 1 + 1 ≡ X.count = omega arith in
      let e2 : K + 1 ≡ t.used.edges = omega (arith, sum) in
      ap (λ (a : Automaton). edge_by a less_edge (edge_line (edge t K))) at_last
      ∙ ap (λ (c : ℕ). mk t.nodes (set (set t.automata J (counted X (X.count - 1))) J (counted X c)) E2 t.used.nodes t.used.automata (K + 1)) e1
      ∙ ap (λ (ms : List Automaton). mk t.nodes ms E2 t.used.nodes t.used.automata (K + 1)) (set-set t.automata J (counted X (X.count - 1)) X ∙ set-get_or t.automata J no_automaton)
      ∙ ap (λ (es : List Edge). mk t.nodes t.automata es t.used.nodes t.used.automata (K + 1)) (set-set t.edges K no_edge (edge t K) ∙ set-get_or t.edges K no_edge)
      ∙ ap (λ (c : ℕ). mk t.nodes t.automata t.edges t.used.nodes t.used.automata c) e2

  auto_ok : (m : ℕ) → m < t.used.automata → AutoOk t.used.nodes (edges_before ms' m) (nodes_before ms' m) (get_or ms' m no_automaton)
  unfolding x'
  auto_ok m w =
      rw (before_same m w, below_same m)
      (⊎_elim
      (λ (e : m ≡ t.used.automata - 1).
      let q = g.automata m w in
      rw (e, at_last) (let p = rw e at q in record { some_state = p.some_state; states≤ = p.states≤; start< = p.start<; accepting< = p.accepting<; first≡ = p.first≡; mono = p.mono; before≤ = p.before≤ }))
      (λ f. rw (at_other m f) (g.automata m w))
      (same m (t.used.automata - 1)))

  edge_ok : (m : ℕ) → m < t.used.automata → (e : ℕ) → (get_or ms' m no_automaton).first ≤ e → e < (get_or ms' m no_automaton).first + (get_or ms' m no_automaton).count → EdgeOk t.nodes (get_or ms' m no_automaton) (get_or es' e no_edge)
  unfolding x'
  edge_ok m w e lo hi = go (same m (t.used.automata - 1))
    where
      go : (m ≡ t.used.automata - 1) ⊎ (m ≡ t.used.automata - 1 → ⊥) → EdgeOk t.nodes (get_or ms' m no_automaton) (get_or es' e no_edge)
      go (inl q) =
          let at = ap (λ (k : ℕ). get_or ms' k no_automaton) q ∙ at_last in
          let a1 = ap (λ (a : Automaton). a.first) at in
          let a2 = ap (λ (a : Automaton). a.count) at in
          let k = g.edges (t.used.automata - 1) (omega arith) e (omega arith) (omega arith) in
          rw (at, edge_other e (omega (arith, sum))) (record { from< = k.from<; dir< = k.dir<; test< = k.test<; to< = k.to<; plain_test = k.plain_test })
      go (inr f) =
          let at = at_other m f in
          let a1 = ap (λ (a : Automaton). a.first) at in
          let a2 = ap (λ (a : Automaton). a.count) at in
          let mo = before_mono t true g m (t.used.automata - 1) (omega arith) (omega arith) in
          rw (at, edge_other e (omega (arith, sum, mo))) (g.edges m w e (omega arith) (omega arith))

  pub less_edge_grown : Grown less_edge true
  unfolding less_edge ms' es' x'
  less_edge_grown =
      record {
        nodes_long = g.nodes_long;
        automata_long = length-set t.automata (t.used.automata - 1) x' ∙ g.automata_long;
        edges_long = length-set t.edges (t.used.edges - 1) no_edge ∙ g.edges_long;
        nodes≤ = g.nodes≤;
        automata≤ = g.automata≤;
        edges≤ = omega (arith, g.edges≤);
        nodes = λ i w. node_move t.used.automata t.automata ms' i (node t i) (λ m p. nb_same m) (g.nodes i w);
        no_nodes = g.no_nodes;
        automata = auto_ok;
        no_automata = λ m w. at_other m (omega (arith, some)) ∙ g.no_automata m w;
        edges = edge_ok;
        no_edges = λ e w.
            ⊎_elim (λ (q : t.used.edges - 1 ≡ e). rw (← q) (get_or-set_same t.edges (t.used.edges - 1) no_edge no_edge (omega (arith, sum, g.edges≤, g.edges_long))))
            (λ (q : t.used.edges - 1 < e). edge_other e (omega arith) ∙ g.no_edges e (omega arith))
            (eq-or-lt_of_le w);
        total = edges_last ms' t.used.automata some ∙ ap (λ (a : Automaton). a.first + a.count) at_last ∙ omega (arith, sum);
        inside = λ q. (some, below_same t.used.automata ∙ (g.inside refl).1);
        outside = λ q. absurd (let y : ◌≡◌ {A = ℕ} 0 1 = cc in omega arith);
      }

  pub build_edge : (m : ℕ) → Built less_edge true m → Built t true (m + 1)
  unfolding less_edge added edge_line x'
  build_edge m u =
      let J = t.used.automata - 1 in
      let K = t.used.edges - 1 in
      let k : EdgeOk t.nodes (auto t J) (edge t K) = g.edges J (omega (arith, some)) K (omega (arith, sum)) (omega (arith, sum)) in
      let o = g.automata J (omega (arith, some)) in
      let e1 : EdgeOk t.nodes (get_or ms' J no_automaton) (edge t K) = rw at_last (record { from< = k.from<; dir< = k.dir<; test< = k.test<; to< = k.to<; plain_test = k.plain_test }) in
      let some_state : (get_or ms' J no_automaton).states ≤ 16 = rw at_last o.states≤ in
      let b1 : (get_or ms' J no_automaton).before ≤ t.used.nodes = rw at_last o.before≤ in
      record {
        ls = u.ls ++ (edge_line (edge t K) ∷ []);
        r = added u.r (length u.ls + 1) (edge_line (edge t K));
        way =
            next u.way (edge_canon t.nodes (auto t J) (edge t K) k o.states≤ (omega (arith, o.before≤, g.nodes≤)))
            (edge_passes u.r (edge t K) u.flag (rw u.same e1) (rw u.same some_state) (rw u.same b1) (rw u.same g.nodes≤) (rw u.same (omega (arith, sum, g.edges≤))));
        same = sym (line_E u.r.table (edge_line (edge t K)) refl) ∙ ap (λ (y : Table). with_edge y (edge_line (edge t K))) u.same ∙ more_edge;
        flag = refl;
        short = omega (arith, length-append u.ls (edge_line (edge t K) ∷ []), u.short);
      }
