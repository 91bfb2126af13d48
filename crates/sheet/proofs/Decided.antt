-- The checks of question 31 decide what holds of a table that lines have built, the last of them a node.
use Prim.Native.Nat.{ℕ, ◌+◌, ◌-◌, ◌^◌, ◌≤◌, ◌<◌}
use mathlib.Core.Path.{◌≡◌, refl, ap, sym, ◌∙◌}
use mathlib.Core.List.{List}
use mathlib.Core.Bool.{Bool, true, false, ◌&&◌, ◌||◌}
use mathlib.Core.Logic.{⊎_elim}
use native.Mathlib.Omega.{arith}
use lib.ListN.{length, get_or, get_or-eq_default}
use lib.Dec.{eqb, ltb, leb}
use borrow.Author.Tests.{eq-eqb, ne_eqb, lt-ltb, le-ltb, le-leb, ltb-true, leb-true, eqb-true}
use Rattle.aldlf.specs.Constants.{node_limit, state_limit, letter_t, letter_f, letter_p, letter_n, letter_a, letter_o, letter_d, letter_b}
use Rattle.aldlf.specs.Sheet.{no_line, no_edge, no_automaton}
use Rattle.aldlf.specs.declared.NodeLine.{NodeLine}
use Rattle.aldlf.specs.declared.Edge.{Edge}
use Rattle.aldlf.specs.declared.Automaton.{Automaton}
use Rattle.aldlf.specs.declared.Table.{Table}
use Rattle.sheet.specs.Questions.{arity, plains, each, whole_of}
use Rattle.sheet.specs.Given.{edges_before, nodes_before, node_fits, edge_fits, head_fits, edges_fit, is_no_line, is_no_edge, is_no_automaton, sized, used_fits, node_ok, nodes_fit, automaton_ok, automata_fit, nodes_end, automata_end, edges_end, all_owned, well_formed}
use Rattle.sheet.proofs.Bools.{never, both, same, split}
use Rattle.sheet.proofs.Each.{each_at, each_all}
use Rattle.sheet.proofs.Letters.{Kind, kind_of, is_t, is_f, is_p, is_n, is_g, is_a, is_o, is_d, is_b, is_m, is_e, is_none}
use Rattle.sheet.proofs.Fits.{edges_last, counts_fit}
use Rattle.sheet.proofs.Grown.{NodeOk, AutoOk, EdgeOk, node, auto, edge, Grown, before_mono, ok_t, ok_f, ok_p, ok_n, ok_a, ok_o, ok_d, ok_b}

one_of : (a m b : ℕ) → (ltb a m && eqb b 0) ≡ true → (a < m) × (b ≡ 0)
one_of a m b h = let x = both (ltb a m) (eqb b 0) h in (ltb-true a m x.0, eqb-true b 0 x.1)

two_range : (a m b n : ℕ) → (ltb a m && ltb b n) ≡ true → (a < m) × (b < n)
two_range a m b n h = let x = both (ltb a m) (ltb b n) h in (ltb-true a m x.0, ltb-true b n x.1)

none_of : (a b : ℕ) → (eqb a 0 && eqb b 0) ≡ true → (a ≡ 0) × (b ≡ 0)
none_of a b h = let x = both (eqb a 0) (eqb b 0) h in (eqb-true a 0 x.0, eqb-true b 0 x.1)

walk_of : (a m c i b : ℕ) → (ltb a m && leb c i && ltb b i) ≡ true → (a < m) × (c ≤ i) × (b < i)
walk_of a m c i b h =
    let x = both (ltb a m && leb c i) (ltb b i) h in
    let y = both (ltb a m) (leb c i) x.0 in
    (ltb-true a m y.0, leb-true c i y.1, ltb-true b i x.1)

module _ (t : Table) (i : ℕ) (x : NodeLine) where
  node_yes : Kind x.kind → node_fits t.used.automata (get_or t.automata x.a no_automaton).before i x ≡ true → NodeOk t.used.automata t.automata i x
  unfolding node_fits
  node_yes (is_t e) h = let f : (eqb x.a 0 && eqb x.b 0) ≡ true = rw e at h in let s = none_of x.a x.b f in ok_t e s.0 s.1
  node_yes (is_f e) h = let f : (eqb x.a 0 && eqb x.b 0) ≡ true = rw e at h in let s = none_of x.a x.b f in ok_f e s.0 s.1
  node_yes (is_p e) h = let f : (ltb x.a 32 && eqb x.b 0) ≡ true = rw e at h in let s = one_of x.a 32 x.b f in ok_p e s.0 s.1
  node_yes (is_n e) h = let f : (ltb x.a i && eqb x.b 0) ≡ true = rw e at h in let s = one_of x.a i x.b f in ok_n e s.0 s.1
  node_yes (is_a e) h = let f : (ltb x.a i && ltb x.b i) ≡ true = rw e at h in let s = two_range x.a i x.b i f in ok_a e s.0 s.1
  node_yes (is_o e) h = let f : (ltb x.a i && ltb x.b i) ≡ true = rw e at h in let s = two_range x.a i x.b i f in ok_o e s.0 s.1
  node_yes (is_d e) h = let f : (ltb x.a t.used.automata && leb (get_or t.automata x.a no_automaton).before i && ltb x.b i) ≡ true = rw e at h in let s = walk_of x.a t.used.automata (get_or t.automata x.a no_automaton).before i x.b f in ok_d e s.0 s.1 s.2
  node_yes (is_b e) h = let f : (ltb x.a t.used.automata && leb (get_or t.automata x.a no_automaton).before i && ltb x.b i) ≡ true = rw e at h in let s = walk_of x.a t.used.automata (get_or t.automata x.a no_automaton).before i x.b f in ok_b e s.0 s.1 s.2
  node_yes (is_m e) h = never (rw e at h)
  node_yes (is_g e) h = never (rw e at h)
  node_yes (is_e e) h = never (rw e at h)
  node_yes (is_none e) h =
      let no : (k n : ℕ) → arity k ≡ n → (n ≡ 9 → ⊥) → eqb x.kind k ≡ false = λ k n a f. ne_eqb x.kind k (λ q. f (sym a ∙ ap arity (sym q) ∙ e)) in
      never (rw (no letter_t 0 refl (omega arith), no letter_f 0 refl (omega arith), no letter_p 1 refl (omega arith), no letter_n 1 refl (omega arith), no letter_a 2 refl (omega arith), no letter_o 2 refl (omega arith), no letter_d 2 refl (omega arith), no letter_b 2 refl (omega arith)) at h)

  node_no : NodeOk t.used.automata t.automata i x → node_fits t.used.automata (get_or t.automata x.a no_automaton).before i x ≡ true
  unfolding node_fits
  node_no (ok_t e p q) = rw (e, p, q)
  node_no (ok_f e p q) = rw (e, p, q)
  node_no (ok_p e p q) = rw (e, q, lt-ltb x.a 32 p)
  node_no (ok_n e p q) = rw (e, q, lt-ltb x.a i p)
  node_no (ok_a e p q) = rw (e, lt-ltb x.a i p, lt-ltb x.b i q)
  node_no (ok_o e p q) = rw (e, lt-ltb x.a i p, lt-ltb x.b i q)
  node_no (ok_d e p n q) = rw (e, lt-ltb x.a t.used.automata p, le-leb (get_or t.automata x.a no_automaton).before i n, lt-ltb x.b i q)
  node_no (ok_b e p n q) = rw (e, lt-ltb x.a t.used.automata p, le-leb (get_or t.automata x.a no_automaton).before i n, lt-ltb x.b i q)

no_line_lem : (x : NodeLine) → is_no_line x ≡ true → x ≡ no_line
no_line_lem x h =
    let a = both (eqb x.kind 0 && eqb x.a 0) (eqb x.b 0) h in
    let s = none_of x.kind x.a a.0 in
    let b = eqb-true x.b 0 a.1 in
    λ j. record { kind = s.0 j; a = s.1 j; b = b j }

no_edge_past : (e : Edge) → is_no_edge e ≡ true → e ≡ no_edge
no_edge_past e h =
    let a = both (eqb e.from.0 0 && eqb e.dir 0 && eqb e.test.0 0) (eqb e.to.0 0) h in
    let b = both (eqb e.from.0 0 && eqb e.dir 0) (eqb e.test.0 0) a.0 in
    let s = none_of e.from.0 e.dir b.0 in
    let p = eqb-true e.test.0 0 b.1 in
    let q = eqb-true e.to.0 0 a.1 in
    λ j. record { from = record { 0 = s.0 j }; dir = s.1 j; test = record { 0 = p j }; to = record { 0 = q j } }

no_automaton_past : (x : Automaton) → is_no_automaton x ≡ true → x ≡ no_automaton
no_automaton_past x h =
    let a = both (eqb x.states 0 && eqb x.start.0 0 && eqb x.accepting 0 && eqb x.first 0 && eqb x.count 0) (eqb x.before 0) h in
    let b = both (eqb x.states 0 && eqb x.start.0 0 && eqb x.accepting 0 && eqb x.first 0) (eqb x.count 0) a.0 in
    let c = both (eqb x.states 0 && eqb x.start.0 0 && eqb x.accepting 0) (eqb x.first 0) b.0 in
    let d = both (eqb x.states 0 && eqb x.start.0 0) (eqb x.accepting 0) c.0 in
    let s = none_of x.states x.start.0 d.0 in
    let u = eqb-true x.accepting 0 d.1 in
    let v = eqb-true x.first 0 c.1 in
    let w = eqb-true x.count 0 b.1 in
    let z = eqb-true x.before 0 a.1 in
    λ j. record { states = s.0 j; start = record { 0 = s.1 j }; accepting = u j; first = v j; count = w j; before = z j }

-- edges
module _ (ns : List NodeLine) (x : Automaton) (e : Edge) where
  edge_yes : edge_fits (plains ns) x e ≡ true → EdgeOk ns x e
  unfolding edge_fits
  edge_yes h =
      let P = eqb e.dir 0 || get_or (plains ns) e.test.0 false in
      let a = both (ltb e.from.0 x.states && ltb e.dir 3 && ltb e.test.0 x.before && ltb e.to.0 x.states) P h in
      let b = both (ltb e.from.0 x.states && ltb e.dir 3 && ltb e.test.0 x.before) (ltb e.to.0 x.states) a.0 in
      let c = both (ltb e.from.0 x.states && ltb e.dir 3) (ltb e.test.0 x.before) b.0 in
      let d = two_range e.from.0 x.states e.dir 3 c.0 in
      record {
        from< = d.0;
        dir< = d.1;
        test< = ltb-true _ _ c.1;
        to< = ltb-true _ _ b.1;
        plain_test = λ f. rw (ne_eqb e.dir 0 f) at a.1;
      }

  edge_no : EdgeOk ns x e → edge_fits (plains ns) x e ≡ true
  unfolding edge_fits
  edge_no k =
      let d : (eqb e.dir 0 || get_or (plains ns) e.test.0 false) ≡ true = ⊎_elim (λ (z : e.dir ≡ 0). rw (eq-eqb e.dir 0 z)) (λ f. rw (ne_eqb e.dir 0 f) (k.plain_test f)) (same e.dir 0) in
      rw (lt-ltb e.from.0 x.states k.from<, lt-ltb e.dir 3 k.dir<, lt-ltb e.test.0 x.before k.test<, lt-ltb e.to.0 x.states k.to<) d

-- an automaton with its edges
record AutomatonSays (t : Table) (m : ℕ) (x : Automaton) : Type 0 where
  ok : AutoOk t.used.nodes (edges_before t.automata m) (nodes_before t.automata m) x
  end : x.first + x.count ≤ t.used.edges
  low : x.before < t.used.nodes
  es : (j : ℕ) → j < x.count → EdgeOk t.nodes x (get_or t.edges (x.first + j) no_edge)

module _ (t : Table) (m : ℕ) (x : Automaton) where
  abbrev edge_test : ℕ → Bool
  edge_test j = edge_fits (plains t.nodes) x (get_or t.edges (x.first + j) no_edge)

  abbrev head_test : Bool
  head_test = head_fits t.used (edges_before t.automata m) (nodes_before t.automata m) x

  automaton_yes : head_test ≡ true → edges_fit t.edges (plains t.nodes) x ≡ true → AutomatonSays t m x
  unfolding head_fits edges_fit
  automaton_yes h k =
      let c₁ = leb 1 x.states in
      let c₂ = leb x.states state_limit in
      let c₃ = ltb x.start.0 x.states in
      let c₄ = ltb x.accepting (2 ^ x.states) in
      let c₅ = eqb x.first (edges_before t.automata m) in
      let c₆ = leb (x.first + x.count) t.used.edges in
      let c₇ = leb (nodes_before t.automata m) x.before in
      let a₇ = both (c₁ && c₂ && c₃ && c₄ && c₅ && c₆ && c₇) (ltb x.before t.used.nodes) h in
      let a₆ = both (c₁ && c₂ && c₃ && c₄ && c₅ && c₆) c₇ a₇.0 in
      let a₅ = both (c₁ && c₂ && c₃ && c₄ && c₅) c₆ a₆.0 in
      let a₄ = both (c₁ && c₂ && c₃ && c₄) c₅ a₅.0 in
      let a₃ = both (c₁ && c₂ && c₃) c₄ a₄.0 in
      let a₂ = both (c₁ && c₂) c₃ a₃.0 in
      let a₁ = both c₁ c₂ a₂.0 in
      let lo = ltb-true x.before t.used.nodes a₇.1 in
      record {
        ok =
            record {
              some_state = leb-true 1 x.states a₁.0;
              states≤ = leb-true x.states 16 a₁.1;
              start< = ltb-true x.start.0 x.states a₂.1;
              accepting< = ltb-true x.accepting (2 ^ x.states) a₃.1;
              first≡ = eqb-true x.first (edges_before t.automata m) a₄.1;
              mono = leb-true (nodes_before t.automata m) x.before a₆.1;
              before≤ = omega arith;
            };
        end = leb-true (x.first + x.count) t.used.edges a₅.1;
        low = lo;
        es = λ j w. edge_yes t.nodes x (get_or t.edges (x.first + j) no_edge) (each_at edge_test x.count j k w);
      }

  automaton_no : AutomatonSays t m x → (head_test && edges_fit t.edges (plains t.nodes) x) ≡ true
  unfolding head_fits edges_fit
  automaton_no s =
      let k = s.ok in
      let e : each edge_test x.count ≡ true = each_all edge_test x.count (λ j w. edge_no t.nodes x (get_or t.edges (x.first + j) no_edge) (s.es j w)) in
      rw (
        le-leb 1 x.states k.some_state,
        le-leb x.states 16 k.states≤,
        lt-ltb x.start.0 x.states k.start<,
        lt-ltb x.accepting (2 ^ x.states) k.accepting<,
        eq-eqb x.first (edges_before t.automata m) k.first≡,
        le-leb (x.first + x.count) t.used.edges s.end,
        le-leb (nodes_before t.automata m) x.before k.mono,
        lt-ltb x.before t.used.nodes s.low,
      ) e

-- places past the last one, and places not in use
beyond : {A : Type 0} (l : List A) (d : A) (n i : ℕ) → length l ≡ n → n ≤ i → get_or l i d ≡ d
beyond l d n i e h = get_or-eq_default l d (omega arith)

unused : {A : Type 0} (l : List A) (d : A) (n k : ℕ) (f : A → Bool) → length l ≡ k → ((x : A) → f x ≡ true → x ≡ d) → each (λ i. ltb i n || f (get_or l i d)) k ≡ true → (i : ℕ) → n ≤ i → get_or l i d ≡ d
unused l d n k f e g h i w =
    ⊎_elim (λ (u : k ≤ i). beyond l d k i e u)
    (λ (u : i < k). g (get_or l i d) (rw (le-ltb i n w) at (each_at (λ i. ltb i n || f (get_or l i d)) k i h u)))
    (split k i)

cleared : {A : Type 0} (l : List A) (d : A) (n k : ℕ) (f : A → Bool) → f d ≡ true → ((i : ℕ) → n ≤ i → get_or l i d ≡ d) → each (λ i. ltb i n || f (get_or l i d)) k ≡ true
cleared l d n k f e g =
    each_all (λ i. ltb i n || f (get_or l i d)) k (λ i w. ⊎_elim (λ (u : n ≤ i). rw (le-ltb i n u, g i u) e) (λ (u : i < n). rw (lt-ltb i n u)) (split n i))

-- what a well-formed table is: one that lines have built, the last of them a node, with every state on an edge
pub record Wf (t : Table) : Type 0 where
  pub grown : Grown t false
  pub some : 1 ≤ t.used.nodes
  pub all_used : t.used.automata ≤ whole_of t

-- the edges of an automaton are among those in use
pub edges-end : (t : Table) (b : Bool) → Grown t b → (m : ℕ) → m < t.used.automata → (auto t m).first + (auto t m).count ≤ t.used.edges
edges-end t b g m h =
    let last_end = sym (edges_last t.automata t.used.automata (omega arith)) ∙ g.total in
    ⊎_elim (λ (e : m ≡ t.used.automata - 1). rw e (omega arith))
    (λ f. omega (arith, before_mono t b g m (t.used.automata - 1) (omega arith) (omega arith)))
    (same m (t.used.automata - 1))

-- the checks, by a letter each: lengths, counts, the ends of nodes, automata and edges, and question 10
module _ (t : Table) where
  abbrev L : Bool
  L = sized t

  abbrev C : Bool
  C = used_fits t.used

  abbrev N : Bool
  N = nodes_end t.nodes t.used.nodes

  abbrev M : Bool
  M = automata_end t.automata t.used.automata

  abbrev E : Bool
  E = edges_end t.edges t.used.edges

  abbrev W : Bool
  W = leb t.used.automata (whole_of t)

  pub wf_yes : well_formed t ≡ true → Wf t
  unfolding well_formed nodes_fit automata_fit nodes_end automata_end edges_end
  wf_yes h =
      let x₁ = both (L && C && nodes_fit t && automata_fit t && (N && M && E) && all_owned t) W h in
      let x₂ = both (L && C && nodes_fit t && automata_fit t && (N && M && E)) (all_owned t) x₁.0 in
      let x₃ = both (L && C && nodes_fit t && automata_fit t) (N && M && E) x₂.0 in
      let x₄ = both (L && C && nodes_fit t) (automata_fit t) x₃.0 in
      let x₅ = both (L && C) (nodes_fit t) x₄.0 in
      let x₆ = both L C x₅.0 in
      let y₁ = both (N && M) E x₃.1 in
      let y₂ = both N M y₁.0 in
      let l₁ = both (eqb (length t.nodes) node_limit && eqb (length t.automata) 16) (eqb (length t.edges) 256) x₆.0 in
      let l₂ = both (eqb (length t.nodes) node_limit) (eqb (length t.automata) 16) l₁.0 in
      let nodes_long = eqb-true (length t.nodes) node_limit l₂.0 in
      let automata_long = eqb-true (length t.automata) 16 l₂.1 in
      let edges_long = eqb-true (length t.edges) 256 l₁.1 in
      let k = counts_fit t.used x₆.1 in
      let heads : (m : ℕ) → m < t.used.automata → AutomatonSays t m (auto t m) = λ m u.
      let b = both (head_test t m (auto t m)) (edges_fit t.edges (plains t.nodes) (auto t m)) (each_at (automaton_ok t) t.used.automata m x₄.1 u) in
      automaton_yes t m (auto t m) b.0 b.1 in
      record {
        grown =
            record {
              nodes_long = nodes_long;
              automata_long = automata_long;
              edges_long = edges_long;
              nodes≤ = k.nodes≤;
              automata≤ = k.automata≤;
              edges≤ = k.edges≤;
              nodes = λ i u. node_yes t i (node t i) (kind_of (node t i).kind) (each_at (node_ok t) t.used.nodes i x₅.1 u);
              no_nodes = unused t.nodes no_line t.used.nodes node_limit is_no_line nodes_long no_line_lem y₂.0;
              automata = λ m u. (heads m u).ok;
              no_automata = unused t.automata no_automaton t.used.automata 16 is_no_automaton automata_long no_automaton_past y₂.1;
              edges = λ m u e lo hi.
                  let j : (auto t m).first + (e - (auto t m).first) ≡ e = omega arith in
                  rw (ap (edge t) j) at ((heads m u).es (e - (auto t m).first) (omega arith));
              no_edges = unused t.edges no_edge t.used.edges 256 is_no_edge edges_long no_edge_past y₁.1;
              total = sym (eqb-true t.used.edges (edges_before t.automata t.used.automata) x₂.1);
              inside = λ q. never q;
              outside = λ q m u. (heads m u).low;
            };
        some = k.some;
        all_used = leb-true t.used.automata (whole_of t) x₁.1;
      }

  pub wf_no : Wf t → well_formed t ≡ true
  unfolding well_formed nodes_fit automata_fit nodes_end automata_end edges_end used_fits
  wf_no w =
      let g = w.grown in
      let l : sized t ≡ true = rw (g.nodes_long, g.automata_long, g.edges_long) in
      let n : each (node_ok t) t.used.nodes ≡ true = each_all (node_ok t) t.used.nodes (λ i h. node_no t i (node t i) (g.nodes i h)) in
      let a : each (automaton_ok t) t.used.automata ≡ true = each_all (automaton_ok t) t.used.automata (λ m k.
      automaton_no t m (auto t m) (record { ok = g.automata m k; end = edges-end t false g m k; low = g.outside refl m k; es = λ j u. g.edges m k ((auto t m).first + j) (omega arith) (omega arith) })) in
      let e₁ : N ≡ true = cleared t.nodes no_line t.used.nodes node_limit is_no_line refl g.no_nodes in
      let e₂ : M ≡ true = cleared t.automata no_automaton t.used.automata 16 is_no_automaton refl g.no_automata in
      let e₃ : E ≡ true = cleared t.edges no_edge t.used.edges 256 is_no_edge refl g.no_edges in
      let o = eq-eqb t.used.edges (edges_before t.automata t.used.automata) (sym g.total) in
      rw (l, le-leb 1 t.used.nodes w.some, le-leb t.used.nodes node_limit g.nodes≤, le-leb t.used.automata 16 g.automata≤, le-leb t.used.edges 256 g.edges≤, n, a, e₁, e₂, e₃, o) (le-leb t.used.automata (whole_of t) w.all_used)
