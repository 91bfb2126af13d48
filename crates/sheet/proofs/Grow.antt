-- Each kind of line keeps what holds of a table that lines have built.
use Prim.Native.Nat.{ℕ, zero, suc, ◌+◌, ◌-◌, ◌^◌, ◌≤◌, ◌<◌}
use mathlib.Core.Path.{◌≡◌, refl, ap, sym, ◌∙◌}
use mathlib.Core.List.{List}
use mathlib.Core.Bool.{Bool, true, false}
use mathlib.Core.Logic.{inl, inr, ⊎_elim}
use native.Mathlib.Nat.{eq-or-lt_of_le}
use native.Mathlib.Omega.{arith}
use lib.ListN.{get_or, set, replicate, length-set}
use lib.Seq.{get_or-set_same, get_or-set_other}
use lib.Pow.{pow_pos}
use Rattle.aldlf.specs.Constants.{node_limit, letter_m, letter_g, letter_e}
use Rattle.aldlf.specs.Sheet.{no_line, no_edge, no_automaton}
use Rattle.aldlf.specs.declared.NodeLine.{NodeLine}
use Rattle.aldlf.specs.declared.Edge.{Edge}
use Rattle.aldlf.specs.declared.Automaton.{Automaton}
use Rattle.aldlf.specs.declared.Table.{Table}
use Rattle.sheet.specs.declared.line.Line.{Line}
use Rattle.sheet.specs.declared.build.Reading.{Reading}
use Rattle.sheet.specs.Questions.{arity, last, with_node}
use Rattle.sheet.specs.Given.{edges_before, nodes_before}
use Rattle.sheet.proofs.Bools.{same}
use Rattle.sheet.proofs.Letters.{Kind, kind_of, is_t, is_f, is_p, is_n, is_g, is_a, is_o, is_d, is_b, is_m, is_e, is_none}
use Rattle.sheet.proofs.Fits.{edges_last, nodes_last}
use Rattle.sheet.proofs.Passed.{Passed, Absent, said_count, said_room, said_P, said_N, said_two, said_walk}
use Rattle.sheet.proofs.Plain.{plain_set}
use Rattle.sheet.proofs.Grown.{NodeOk, AutoOk, EdgeOk, node, auto, edge, Grown, mk, before_mono, node_move, ok_t, ok_f, ok_p, ok_n, ok_a, ok_o, ok_d, ok_b}

module _ (r : Reading) (l : Line) (g : Grown r.table r.inside) (p : Passed r l) (z : Absent l) where
  node_of : NodeLine
  node_of = record { kind = l.letter; a = l.a; b = l.b }

  new_node : Kind l.letter → (l.letter ≡ letter_m → ⊥) → (l.letter ≡ letter_g → ⊥) → (l.letter ≡ letter_e → ⊥) → NodeOk r.table.used.automata r.table.automata r.table.used.nodes node_of
  unfolding node_of
  new_node (is_t e) m q h = let n : l.count ≡ 0 = said_count r l p ∙ ap arity e in ok_t e (z.a0 (omega arith)) (z.b0 (omega arith))
  new_node (is_f e) m q h = let n : l.count ≡ 0 = said_count r l p ∙ ap arity e in ok_f e (z.a0 (omega arith)) (z.b0 (omega arith))
  new_node (is_p e) m q h = let n : l.count ≡ 1 = said_count r l p ∙ ap arity e in ok_p e (said_P r l p e) (z.b0 (omega arith))
  new_node (is_n e) m q h = let n : l.count ≡ 1 = said_count r l p ∙ ap arity e in ok_n e (said_N r l p e) (z.b0 (omega arith))
  new_node (is_g e) m q h = absurd (q e)
  new_node (is_a e) m q h = let s = said_two r l p (inl e) in ok_a e s.0 s.1
  new_node (is_o e) m q h = let s = said_two r l p (inr e) in ok_o e s.0 s.1
  new_node (is_d e) m q h = let s = said_walk r l p (inl e) in ok_d e s.0 (g.automata l.a s.0).before≤ s.1
  new_node (is_b e) m q h = let s = said_walk r l p (inr e) in ok_b e s.0 (g.automata l.a s.0).before≤ s.1
  new_node (is_m e) m q h = absurd (m e)
  new_node (is_e e) m q h = absurd (h e)
  new_node (is_none e) m q h = let n : l.count ≡ 9 = said_count r l p ∙ e in absurd (omega (arith, z.few))

  pub grow_node : (l.letter ≡ letter_m → ⊥) → (l.letter ≡ letter_g → ⊥) → (l.letter ≡ letter_e → ⊥) → Grown (with_node r.table l) false
  unfolding with_node node_of
  grow_node m q h =
      let t = r.table in
      let n = t.used.nodes in
      let w64 = said_room r l p m q h in
      let k = new_node (kind_of l.letter) m q h in
      record {
        nodes_long = length-set t.nodes n node_of ∙ g.nodes_long;
        automata_long = g.automata_long;
        edges_long = g.edges_long;
        nodes≤ = omega arith;
        automata≤ = g.automata≤;
        edges≤ = g.edges≤;
        nodes = λ i w.
            ⊎_elim (λ (e : i ≡ n). rw (e, get_or-set_same t.nodes n node_of no_line (omega (arith, g.nodes_long))) k)
            (λ (u : i < n). rw (get_or-set_other t.nodes n i node_of no_line (omega arith)) (g.nodes i u))
            (eq-or-lt_of_le {n = i} {m = n} (omega arith));
        no_nodes = λ i w. get_or-set_other t.nodes n i node_of no_line (omega arith) ∙ g.no_nodes i (omega arith);
        automata = λ i w.
            let q = g.automata i w in
            record { some_state = q.some_state; states≤ = q.states≤; start< = q.start<; accepting< = q.accepting<; first≡ = q.first≡; mono = q.mono; before≤ = omega (arith, q.before≤) };
        no_automata = g.no_automata;
        edges = λ i w e lo hi.
            let q = g.edges i w e lo hi in
            let o = g.automata i w in
            record {
              from< = q.from<;
              dir< = q.dir<;
              test< = q.test<;
              to< = q.to<;
              plain_test = λ d. plain_set t.nodes n (edge t e).test.0 node_of (replicate node_limit false) (omega (arith, q.test<, o.before≤)) (omega (arith, g.nodes_long)) ∙ q.plain_test d;
            };
        no_edges = g.no_edges;
        total = g.total;
        inside = λ q. absurd (let y : ◌≡◌ {A = ℕ} 0 1 = cc in omega arith);
        outside = λ q i w. omega (arith, (g.automata i w).before≤);
      }

node_more : (ac : ℕ) (ms ms' : List Automaton) (i : ℕ) (x : NodeLine) → ((m : ℕ) → m < ac → get_or ms' m no_automaton ≡ get_or ms m no_automaton) → NodeOk ac ms i x → NodeOk (ac + 1) ms' i x
node_more ac ms ms' i x f (ok_t e p q) = ok_t e p q
node_more ac ms ms' i x f (ok_f e p q) = ok_f e p q
node_more ac ms ms' i x f (ok_p e p q) = ok_p e p q
node_more ac ms ms' i x f (ok_n e p q) = ok_n e p q
node_more ac ms ms' i x f (ok_a e p q) = ok_a e p q
node_more ac ms ms' i x f (ok_o e p q) = ok_o e p q
node_more ac ms ms' i x f (ok_d e p n q) = ok_d e (omega arith) (rw (f x.a p) n) q
node_more ac ms ms' i x f (ok_b e p n q) = ok_b e (omega arith) (rw (f x.a p) n) q

below_le : (t : Table) (b : Bool) (g : Grown t b) → (n : ℕ) → n ≤ t.used.automata → nodes_before t.automata n ≤ t.used.nodes
below_le t b g zero h = omega arith
below_le t b g (suc n) h = (g.automata n h).before≤

-- a new automaton
module _ (t : Table) (b : Bool) (g : Grown t b) (q s : ℕ) (room : t.used.automata < 16) (q1 : 1 ≤ q) (q16 : q ≤ 16) (s< : s < q) where
  X : Automaton
  X = record { states = q; start = record { 0 = s }; accepting = 0; first = t.used.edges; count = 0; before = t.used.nodes }

  ms' : List Automaton
  ms' = set t.automata t.used.automata X

  at_new : get_or ms' t.used.automata no_automaton ≡ X
  unfolding ms'
  at_new = get_or-set_same t.automata t.used.automata X no_automaton (omega (arith, g.automata_long))

  at_old : (m : ℕ) → (m ≡ t.used.automata → ⊥) → get_or ms' m no_automaton ≡ auto t m
  unfolding ms'
  at_old m f = get_or-set_other t.automata t.used.automata m X no_automaton f

  before_old : (m : ℕ) → m ≤ t.used.automata → edges_before ms' m ≡ edges_before t.automata m
  before_old zero w = refl
  before_old (suc m) w = ap (λ (a : Automaton). a.first + a.count) (at_old m (omega arith))

  below_old : (m : ℕ) → m ≤ t.used.automata → nodes_before ms' m ≡ nodes_before t.automata m
  below_old zero w = refl
  below_old (suc m) w = ap (λ (a : Automaton). a.before) (at_old m (omega arith))

  new_auto : AutoOk t.used.nodes (edges_before t.automata t.used.automata) (nodes_before t.automata t.used.automata) X
  unfolding X
  new_auto = record { some_state = q1; states≤ = q16; start< = s<; accepting< = pow_pos q; first≡ = sym g.total; mono = below_le t b g t.used.automata (omega arith); before≤ = omega arith }

  pub grow_M : Grown (mk t.nodes (set t.automata t.used.automata (record { states = q; start = record { 0 = s }; accepting = 0; first = t.used.edges; count = 0; before = t.used.nodes })) t.edges t.used.nodes (t.used.automata + 1) t.used.edges) true
  unfolding ms' X
  grow_M =
      let ac = t.used.automata in
      let pr : ac + 1 - 1 ≡ ac = omega arith in
      let at : get_or ms' (ac + 1 - 1) no_automaton ≡ X = ap (λ (k : ℕ). get_or ms' k no_automaton) pr ∙ at_new in
      record {
        nodes_long = g.nodes_long;
        automata_long = length-set t.automata ac X ∙ g.automata_long;
        edges_long = g.edges_long;
        nodes≤ = g.nodes≤;
        automata≤ = omega arith;
        edges≤ = g.edges≤;
        nodes = λ i w. node_more ac t.automata ms' i (node t i) (λ m k. at_old m (omega arith)) (g.nodes i w);
        no_nodes = g.no_nodes;
        automata = λ m w.
            ⊎_elim (λ (e : m ≡ ac). rw (e, before_old ac (omega arith), below_old ac (omega arith), at_new) new_auto)
            (λ (u : m < ac). rw (before_old m (omega arith), below_old m (omega arith), at_old m (omega arith)) (g.automata m u))
            (eq-or-lt_of_le {n = m} {m = ac} (omega arith));
        no_automata = λ m w. at_old m (omega arith) ∙ g.no_automata m (omega arith);
        edges = λ m w e lo hi.
            ⊎_elim (λ (v : m ≡ ac).
            let y = ap (λ (k : ℕ). get_or ms' k no_automaton) v ∙ at_new in
            let a1 = ap (λ (a : Automaton). a.first) y in
            let a2 = ap (λ (a : Automaton). a.count) y in
            absurd (omega arith))
            (λ (u : m < ac).
            let y = at_old m (omega arith) in
            let a1 = ap (λ (a : Automaton). a.first) y in
            let a2 = ap (λ (a : Automaton). a.count) y in
            rw y (g.edges m u e (omega arith) (omega arith)))
            (eq-or-lt_of_le {n = m} {m = ac} (omega arith));
        no_edges = g.no_edges;
        total = edges_last ms' (ac + 1) (omega arith) ∙ ap (λ (a : Automaton). a.first + a.count) at ∙ omega arith;
        inside = λ k. (omega arith, nodes_last ms' (ac + 1) (omega arith) ∙ ap (λ (a : Automaton). a.before) at);
        outside = λ k. absurd (let y : ◌≡◌ {A = ℕ} 0 1 = cc in omega arith);
      }

-- the last automaton anew: what its line said stays
module _ (t : Table) (g : Grown t true) (Y : Automaton) (hs : Y.states ≡ (last t).states) (ht : Y.start.0 ≡ (last t).start.0) (hf : Y.first ≡ (last t).first) (hn : Y.before ≡ (last t).before) (ha : Y.accepting < 2 ^ Y.states) where
  one : 1 ≤ t.used.automata
  one = (g.inside refl).0

  ms'' : List Automaton
  ms'' = set t.automata (t.used.automata - 1) Y

  at_Y : get_or ms'' (t.used.automata - 1) no_automaton ≡ Y
  unfolding ms''
  at_Y = get_or-set_same t.automata (t.used.automata - 1) Y no_automaton (omega (arith, one, g.automata≤, g.automata_long))

  at_m : (m : ℕ) → (m ≡ t.used.automata - 1 → ⊥) → get_or ms'' m no_automaton ≡ auto t m
  unfolding ms''
  at_m m f = get_or-set_other t.automata (t.used.automata - 1) m Y no_automaton f

  nb_m : (m : ℕ) → (get_or ms'' m no_automaton).before ≡ (auto t m).before
  nb_m m = ⊎_elim (λ (e : m ≡ t.used.automata - 1). rw (e, at_Y) hn) (λ f. ap (λ (a : Automaton). a.before) (at_m m f)) (same m (t.used.automata - 1))

  below_m : (m : ℕ) → nodes_before ms'' m ≡ nodes_before t.automata m
  below_m zero = refl
  below_m (suc m) = nb_m m

  before_m : (m : ℕ) → m < t.used.automata → edges_before ms'' m ≡ edges_before t.automata m
  before_m zero w = refl
  before_m (suc m) w = ap (λ (a : Automaton). a.first + a.count) (at_m m (omega arith))

  auto_m : (m : ℕ) → m < t.used.automata → AutoOk t.used.nodes (edges_before ms'' m) (nodes_before ms'' m) (get_or ms'' m no_automaton)
  auto_m m w =
      rw (before_m m w, below_m m)
      (⊎_elim
      (λ (e : m ≡ t.used.automata - 1).
      let q = g.automata m w in
      rw (e, at_Y) (let p = rw e at q in record { some_state = omega (arith, p.some_state); states≤ = omega (arith, p.states≤); start< = omega (arith, p.start<); accepting< = ha; first≡ = hf ∙ p.first≡; mono = omega (arith, p.mono); before≤ = omega (arith, p.before≤) }))
      (λ f. rw (at_m m f) (g.automata m w))
      (same m (t.used.automata - 1)))

  edge_Y : (e : Edge) → EdgeOk t.nodes (last t) e → EdgeOk t.nodes Y e
  edge_Y e k = record { from< = omega (arith, k.from<); dir< = k.dir<; test< = omega (arith, k.test<); to< = omega (arith, k.to<); plain_test = k.plain_test }

  sum'' : (last t).first + (last t).count ≡ t.used.edges
  sum'' = sym (edges_last t.automata t.used.automata one) ∙ g.total

  -- a G line: as many edges as before
  pub grow_G : Y.count ≡ (last t).count → Grown (mk t.nodes (set t.automata (t.used.automata - 1) Y) t.edges t.used.nodes t.used.automata t.used.edges) true
  unfolding ms''
  grow_G hc =
      let J = t.used.automata - 1 in
      record {
        nodes_long = g.nodes_long;
        automata_long = length-set t.automata J Y ∙ g.automata_long;
        edges_long = g.edges_long;
        nodes≤ = g.nodes≤;
        automata≤ = g.automata≤;
        edges≤ = g.edges≤;
        nodes = λ i w. node_move t.used.automata t.automata ms'' i (node t i) (λ m k. nb_m m) (g.nodes i w);
        no_nodes = g.no_nodes;
        automata = auto_m;
        no_automata = λ m w. at_m m (omega (arith, one)) ∙ g.no_automata m w;
        edges = λ m w e lo hi.
            ⊎_elim (λ (v : m ≡ J).
            let y = ap (λ (k : ℕ). get_or ms'' k no_automaton) v ∙ at_Y in
            let a1 = ap (λ (a : Automaton). a.first) y in
            let a2 = ap (λ (a : Automaton). a.count) y in
            rw y (edge_Y (edge t e) (g.edges J (omega arith) e (omega arith) (omega arith))))
            (λ f.
            let y = at_m m f in
            let a1 = ap (λ (a : Automaton). a.first) y in
            let a2 = ap (λ (a : Automaton). a.count) y in
            rw y (g.edges m w e (omega arith) (omega arith)))
            (same m J);
        no_edges = g.no_edges;
        total = edges_last ms'' t.used.automata one ∙ ap (λ (a : Automaton). a.first + a.count) at_Y ∙ omega (arith, sum'');
        inside = λ k. (one, below_m t.used.automata ∙ (g.inside refl).1);
        outside = λ k. absurd (let y : ◌≡◌ {A = ℕ} 0 1 = cc in omega arith);
      }

  -- an E line: one edge more
  pub grow_E : (E : Edge) → Y.count ≡ (last t).count + 1 → t.used.edges < 256 → EdgeOk t.nodes (last t) E
      → Grown (mk t.nodes (set t.automata (t.used.automata - 1) Y) (set t.edges t.used.edges E) t.used.nodes t.used.automata (t.used.edges + 1)) true
  unfolding ms''
  grow_E E hc room ok =
      let J = t.used.automata - 1 in
      let K = t.used.edges in
      record {
        nodes_long = g.nodes_long;
        automata_long = length-set t.automata J Y ∙ g.automata_long;
        edges_long = length-set t.edges K E ∙ g.edges_long;
        nodes≤ = g.nodes≤;
        automata≤ = g.automata≤;
        edges≤ = omega arith;
        nodes = λ i w. node_move t.used.automata t.automata ms'' i (node t i) (λ m k. nb_m m) (g.nodes i w);
        no_nodes = g.no_nodes;
        automata = auto_m;
        no_automata = λ m w. at_m m (omega (arith, one)) ∙ g.no_automata m w;
        edges = λ m w e lo hi.
            ⊎_elim (λ (v : m ≡ J).
            let y = ap (λ (k : ℕ). get_or ms'' k no_automaton) v ∙ at_Y in
            let a1 = ap (λ (a : Automaton). a.first) y in
            let a2 = ap (λ (a : Automaton). a.count) y in
            ⊎_elim (λ (c : e ≡ K). rw (y, c, get_or-set_same t.edges K E no_edge (omega (arith, g.edges_long))) (edge_Y E ok))
            (λ f. rw (y, get_or-set_other t.edges K e E no_edge f) (edge_Y (edge t e) (g.edges J (omega arith) e (omega arith) (omega (arith, sum'')))))
            (same e K))
            (λ f.
            let y = at_m m f in
            let a1 = ap (λ (a : Automaton). a.first) y in
            let a2 = ap (λ (a : Automaton). a.count) y in
            let mo = before_mono t true g m J (omega arith) (omega (arith, one)) in
            rw (y, get_or-set_other t.edges K e E no_edge (omega (arith, sum'', mo))) (g.edges m w e (omega arith) (omega arith)))
            (same m J);
        no_edges = λ e w. get_or-set_other t.edges K e E no_edge (omega arith) ∙ g.no_edges e (omega arith);
        total = edges_last ms'' t.used.automata one ∙ ap (λ (a : Automaton). a.first + a.count) at_Y ∙ omega (arith, sum'');
        inside = λ k. (one, below_m t.used.automata ∙ (g.inside refl).1);
        outside = λ k. absurd (let y : ◌≡◌ {A = ℕ} 0 1 = cc in omega arith);
      }
