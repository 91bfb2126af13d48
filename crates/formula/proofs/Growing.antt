-- Making a formula keeps what holds of every table that lines have built, and each state of its automata stands on an edge. By induction over the formula, its lines put in one by one.
use Prim.Native.Nat.{ℕ, suc, ◌+◌, ◌-◌, ◌^◌, ◌≤◌, ◌<◌, max}
use native.Mathlib.Omega.{arith}
use native.Mathlib.Nat.{eq-or-lt_of_le}
use mathlib.Core.Path.{◌≡◌, refl, ap, sym, subst, ◌∙◌}
use mathlib.Core.List.{List, [], ◌∷◌}
use mathlib.Core.Bool.{Bool, true, false, ◌&&◌}
use mathlib.Core.Logic.{⊎_elim}
use lib.ListN.{length, get_or, set}
use lib.Seq.{get_or-set_same, get_or-set_other, set-set, sets}
use lib.Pow.{pow-lt}
use borrow.Author.Tests.{lt-ltb, eq-eqb, ne_eqb}
use Rattle.aldlf.specs.Constants.{node_limit, automaton_limit, state_limit, edge_limit, fact_limit, letter_t, letter_p, letter_n, letter_a, letter_o, letter_d, letter_b, letter_m, letter_g, letter_e}
use Rattle.aldlf.specs.Sheet.{Dir, ahead, back, stay, no_edge, no_automaton}
use Rattle.aldlf.specs.declared.NodeLine.{NodeLine}
use Rattle.aldlf.specs.declared.Edge.{Edge}
use Rattle.aldlf.specs.declared.Automaton.{Automaton}
use Rattle.aldlf.specs.declared.Table.{Table}
use Rattle.text.specs.Text.{not_number}
use Rattle.sheet.specs.Ranges.{is_of_kind, kinds, first_wrong, out_of_range}
use Rattle.sheet.specs.Questions.{arity, known_line, all_numbers, room_left, belongs, last, newly_accepting, plain_step, with_node}
use Rattle.sheet.proofs.Bools as bools
use Rattle.sheet.proofs.Grown.{EdgeOk, Grown, mk, auto, edge}
use Rattle.sheet.proofs.Grow.{grow_node, grow_M, grow_G, grow_E}
use Rattle.sheet.proofs.Decided.{edges-end}
use Rattle.formula.specs.Formula.{Formula, always, fact, neg, both, either, some, every, Path, step, seq, alt, many}
use Rattle.formula.specs.Numbering.{within, states, own, entry, exit, dir_number, link, edges, newest, with_letter, automaton_of, with_path, made, made_in}
use Rattle.formula.specs.Outcome.{plain, step_takes, steps_plain, steps_plain_in, widest, widest_in}
use Rattle.formula.proofs.Making.{Small, Sized}
use Rattle.formula.proofs.Counts.{made_adds, in_adds}
use Rattle.formula.proofs.Laws.{All, all_append, at_some, sets_before, sets_at}
use Rattle.formula.proofs.Graph.{entry_in, exit_in, own_length}
use Rattle.formula.proofs.Plain.{PlainAt, plain_path}
use Rattle.formula.proofs.Stands.{OnEdge, stands}

-- a line of letter l may name two earlier nodes, or an automaton and an earlier node
abbrev BothBelow : Table → ℕ → Type 0
BothBelow t l = (x y : ℕ) → x < t.used.nodes → y < t.used.nodes → Grown (with_letter t l x y) false

abbrev Modal : Table → ℕ → Type 0
Modal t l = (x y : ℕ) → x < t.used.automata → y < t.used.nodes → Grown (with_letter t l x y) false

-- A NODE LINE that passes the sheet's questions keeps what holds of a table that lines have built
module _ (t : Table) (b : Bool) (g : Grown t b) (room : t.used.nodes < node_limit) where
  grows_letter : (l x y : ℕ) → ¬ (l ≡ letter_m) → ¬ (l ≡ letter_g) → ¬ (l ≡ letter_e) → x < not_number → y < not_number
      → (out_of_range t.used (last t) (record { letter = l; count = arity l; a = x; b = y; c = 0; d = 0 })).number ≡ 0 → (arity l ≤ 0 → x ≡ 0) → (arity l ≤ 1 → y ≡ 0) → arity l ≤ 5 → Grown (with_letter t l x y) false
  unfolding known_line all_numbers room_left belongs newly_accepting plain_step
  grows_letter l x y m q h lx ly range none-a none-b few =
      grow_node (record { table = t; inside = b; mlines = [] }) _ g
      (record {
        p3 = eq-eqb (arity l) (arity l) refl;
        p4 = rw (lt-ltb x not_number lx, lt-ltb y not_number ly) refl;
        p5 = rw (ne_eqb l letter_m m, ne_eqb l letter_g q, ne_eqb l letter_e h) (lt-ltb t.used.nodes node_limit room);
        p6 = rw (ne_eqb l letter_g q, ne_eqb l letter_e h) refl;
        p7 = range;
        p8 = rw (ne_eqb l letter_g q) refl;
        p9 = rw (ne_eqb l letter_e h) refl;
      })
      (record { a0 = none-a; b0 = none-b; c0 = λ k. refl; d0 = λ k. refl; few = few }) m q h

  pub grows_T : Grown (with_letter t letter_t 0 0) false
  unfolding out_of_range kinds is_of_kind first_wrong
  grows_T = grows_letter letter_t 0 0 (omega arith) (omega arith) (omega arith) (omega arith) (omega arith) refl (λ k. refl) (λ k. refl) (omega arith)

  grows_P : (f : ℕ) → f < fact_limit → Grown (with_letter t letter_p f 0) false
  unfolding out_of_range kinds is_of_kind first_wrong
  grows_P f l = grows_letter letter_p f 0 (omega arith) (omega arith) (omega arith) (omega arith) (omega arith) (rw (lt-ltb f fact_limit l)) (λ k. absurd (omega arith)) (λ k. refl) (omega arith)

  grows_N : (x : ℕ) → x < t.used.nodes → Grown (with_letter t letter_n x 0) false
  unfolding out_of_range kinds is_of_kind first_wrong
  grows_N x l = grows_letter letter_n x 0 (omega arith) (omega arith) (omega arith) (omega arith) (omega arith) (rw (lt-ltb x t.used.nodes l)) (λ k. absurd (omega arith)) (λ k. refl) (omega arith)

  grows_A : BothBelow t letter_a
  unfolding out_of_range kinds is_of_kind first_wrong
  grows_A x y l h = grows_letter letter_a x y (omega arith) (omega arith) (omega arith) (omega arith) (omega arith) (rw (lt-ltb x t.used.nodes l, lt-ltb y t.used.nodes h) refl) (λ k. absurd (omega arith)) (λ k. absurd (omega arith)) (omega arith)

  grows_O : BothBelow t letter_o
  unfolding out_of_range kinds is_of_kind first_wrong
  grows_O x y l h = grows_letter letter_o x y (omega arith) (omega arith) (omega arith) (omega arith) (omega arith) (rw (lt-ltb x t.used.nodes l, lt-ltb y t.used.nodes h) refl) (λ k. absurd (omega arith)) (λ k. absurd (omega arith)) (omega arith)

  grows_D : Modal t letter_d
  unfolding out_of_range kinds is_of_kind first_wrong
  grows_D x y l h =
      let few = g.automata≤ in
      grows_letter letter_d x y (omega arith) (omega arith) (omega arith) (omega arith) (omega arith) (rw (lt-ltb x t.used.automata l, lt-ltb y t.used.nodes h) refl) (λ k. absurd (omega arith)) (λ k. absurd (omega arith)) (omega arith)

  grows_B : Modal t letter_b
  unfolding out_of_range kinds is_of_kind first_wrong
  grows_B x y l h =
      let few = g.automata≤ in
      grows_letter letter_b x y (omega arith) (omega arith) (omega arith) (omega arith) (omega arith) (rw (lt-ltb x t.used.automata l, lt-ltb y t.used.nodes h) refl) (λ k. absurd (omega arith)) (λ k. absurd (omega arith)) (omega arith)

-- E lines, one after the other, of the automaton that was put in last
module _ (ns : List NodeLine) (ms : List Automaton) (n m q s w first before : ℕ) where
  -- the automaton with so many edges, and the table
  abbrev Y : ℕ → Automaton
  Y c = record { states = q; start = record { 0 = s }; accepting = w; first = first; count = c; before = before }

  abbrev Tbl : List Edge → ℕ → ℕ → Table
  Tbl es e c = mk ns (set ms m (Y c)) es n (m + 1) e

  last_is : (es : List Edge) (e c : ℕ) → m < length ms → last (Tbl es e c) ≡ Y c
  last_is es e c l = ap (λ (z : ℕ). get_or (set ms m (Y c)) z no_automaton) (let z : m + 1 - 1 ≡ m = omega arith in z) ∙ get_or-set_same ms m (Y c) no_automaton l

  set_again : (x y : Automaton) → set (set ms m x) (m + 1 - 1) y ≡ set ms m y
  set_again x y = ap (λ (z : ℕ). set (set ms m x) z y) (let z : m + 1 - 1 ≡ m = omega arith in z) ∙ set-set ms m x y

  one_edge : (es : List Edge) (e c : ℕ) (E : Edge) → Grown (Tbl es e c) true → m < length ms → e < edge_limit → w < 2 ^ q → EdgeOk ns (Y 0) E → Grown (Tbl (set es e E) (e + 1) (c + 1)) true
  one_edge es e c E g l r a ok =
      let z = last_is es e c l in
      let ok' : EdgeOk ns (Y c) E = record { from< = ok.from<; dir< = ok.dir<; test< = ok.test<; to< = ok.to<; plain_test = ok.plain_test } in
      subst (λ (x : List Automaton). Grown (mk ns x (set es e E) n (m + 1) (e + 1)) true) (set_again (Y c) (Y (c + 1)))
      (grow_E (Tbl es e c) g (Y (c + 1)) (ap (λ (x : Automaton). x.states) (sym z)) (ap (λ (x : Automaton). x.start.0) (sym z)) (ap (λ (x : Automaton). x.first) (sym z)) (ap (λ (x : Automaton). x.before) (sym z)) a
      E (ap (λ (x : Automaton). x.count + 1) (sym z)) r (subst (λ (x : Automaton). EdgeOk ns x E) (sym z) ok'))

  many_edges : (xs es : List Edge) (e c : ℕ) → Grown (Tbl es e c) true → m < length ms → e + length xs ≤ edge_limit → w < 2 ^ q → All (EdgeOk ns (Y 0)) xs
      → Grown (Tbl (sets es e xs) (e + length xs) (c + length xs)) true
  many_edges [] es e c g l r a ok =
      subst (λ (z : ℕ). Grown (Tbl es z (c + 0)) true) (let z : e ≡ e + 0 = omega arith in z) (subst (λ (z : ℕ). Grown (Tbl es e z) true) (let z : c ≡ c + 0 = omega arith in z) g)
  many_edges (x ∷ xs) es e c g l r a ok =
      let y = one_edge es e c x g l (omega arith) a ok.0 in
      let y' : Grown (Tbl (set es e x) (suc e) (c + 1)) true = subst (λ (z : ℕ). Grown (Tbl (set es e x) z (c + 1)) true) (let z : e + 1 ≡ suc e = omega arith in z) y in
      let h = many_edges xs (set es e x) (suc e) (c + 1) y' l (omega arith) a ok.1 in
      subst (λ (z : ℕ). Grown (Tbl (sets (set es e x) (suc e) xs) z (c + suc (length xs))) true) (let z : suc e + length xs ≡ e + suc (length xs) = omega arith in z)
      (subst (λ (z : ℕ). Grown (Tbl (sets (set es e x) (suc e) xs) (suc e + length xs) z) true) (let z : c + 1 + length xs ≡ c + suc (length xs) = omega arith in z) h)

-- a path's edges pass the sheet's questions
dir_small : (d : Dir) → dir_number d < 3
dir_small stay = omega arith
dir_small ahead = omega arith
dir_small back = omega arith

module _ (ns : List NodeLine) (x : Automaton) (pos : 0 < x.before) where
  link_ok : (s t : ℕ) → s < x.states → t < x.states → EdgeOk ns x (link s t)
  link_ok s t l h = record { from< = l; dir< = omega arith; test< = pos; to< = h; plain_test = λ d. absurd (d refl) }

  edges_ok : (p : Path) (k b : ℕ) → PlainAt p ns k → k + within p ≤ x.before → b + states p ≤ x.states → All (EdgeOk ns x) (edges k b p)
  edges_ok (step d a) k b pl l h = (record { from< = omega arith; dir< = dir_small d; test< = omega arith; to< = omega arith; plain_test = pl }, tt)
  edges_ok (seq p q) k b pl l h =
      let i = exit_in p b in let j = entry_in q (b + states p) in
      all_append (EdgeOk ns x) (edges k b p) _ (edges_ok p k b pl.0 (omega arith) (omega arith))
      (all_append (EdgeOk ns x) (edges (k + within p) (b + states p) q) _ (edges_ok q (k + within p) (b + states p) pl.1 (omega arith) (omega arith))
      (link_ok _ _ (omega arith) (omega arith), tt))
  edges_ok (alt p q) k b pl l h =
      let i = exit_in p b in let j = entry_in q (b + states p) in let i' = exit_in q (b + states p) in let j' = entry_in p b in
      all_append (EdgeOk ns x) (edges k b p) _ (edges_ok p k b pl.0 (omega arith) (omega arith))
      (all_append (EdgeOk ns x) (edges (k + within p) (b + states p) q) _ (edges_ok q (k + within p) (b + states p) pl.1 (omega arith) (omega arith))
      (link_ok _ _ (omega arith) (omega arith), (link_ok _ _ (omega arith) (omega arith), (link_ok _ _ (omega arith) (omega arith), (link_ok _ _ (omega arith) (omega arith), tt)))))
  edges_ok (many p) k b pl l h =
      let i = exit_in p b in let j = entry_in p b in
      all_append (EdgeOk ns x) (edges k b p) _ (edges_ok p k b pl (omega arith) (omega arith))
      (link_ok _ _ (omega arith) (omega arith), (link_ok _ _ (omega arith) (omega arith), (link_ok _ _ (omega arith) (omega arith), (link_ok _ _ (omega arith) (omega arith), tt))))

some_states : (p : Path) → 2 ≤ states p
some_states (step d a) = omega arith
some_states (seq p q) = omega (arith, some_states p)
some_states (alt p q) = omega arith
some_states (many p) = omega arith

-- THE M, G AND E LINES OF A PATH keep what holds of a table that lines have built
grows_path : (u : Table) (b : Bool) (k : ℕ) (p : Path) → Grown u b → u.used.automata < automaton_limit → states p ≤ state_limit → u.used.edges + own p ≤ edge_limit
    → 0 < u.used.nodes → k + within p ≤ u.used.nodes → PlainAt p u.nodes k → Grown (with_path u k p) true
grows_path u b k p g room few fit pos low pl =
    let A = u.used.automata in
    let E = u.used.edges in
    let N = u.used.nodes in
    let e-in = entry_in p 0 in
    let x-in = exit_in p 0 in
    let two = some_states p in
    let long = g.automata_long in
    let n = own_length p k 0 in
    let g₁ : Grown (Tbl u.nodes u.automata N A (states p) (entry 0 p) 0 E N u.edges E 0) true = grow_M u b g (states p) (entry 0 p) room (omega arith) few (omega arith) in
    let z = last_is u.nodes u.automata N A (states p) (entry 0 p) 0 E N u.edges E 0 (omega arith) in
    let Y₁ = Y u.nodes u.automata N A (states p) (entry 0 p) (2 ^ exit 0 p) E N 0 in
    let up : 2 ^ exit 0 p < 2 ^ states p = pow-lt (omega arith) in
    let g₂ : Grown (Tbl u.nodes u.automata N A (states p) (entry 0 p) (2 ^ exit 0 p) E N u.edges E 0) true =
    subst (λ (x : List Automaton). Grown (mk u.nodes x u.edges N (A + 1) E) true)
    (set_again u.nodes u.automata N A (states p) (entry 0 p) 0 E N (Y u.nodes u.automata N A (states p) (entry 0 p) 0 E N 0) Y₁)
    (grow_G (Tbl u.nodes u.automata N A (states p) (entry 0 p) 0 E N u.edges E 0) g₁ Y₁ (ap (λ (x : Automaton). x.states) (sym z)) (ap (λ (x : Automaton). x.start.0) (sym z)) (ap (λ (x : Automaton). x.first) (sym z)) (ap (λ (x : Automaton). x.before) (sym z)) up
    (ap (λ (x : Automaton). x.count) (sym z))) in
    let ok = edges_ok u.nodes Y₁ pos p k 0 pl low (omega arith) in
    let g₃ = many_edges u.nodes u.automata N A (states p) (entry 0 p) (2 ^ exit 0 p) E N (edges k 0 p) u.edges E 0 g₂ (omega arith) (omega arith) up ok in
    let h : E + length (edges k 0 p) ≡ E + own p = omega arith in
    let i : 0 + length (edges k 0 p) ≡ own p = omega arith in
    subst (λ (y : ℕ). Grown (Tbl u.nodes u.automata N A (states p) (entry 0 p) (2 ^ exit 0 p) E N (sets u.edges E (edges k 0 p)) (E + own p) y) true) i
    (subst (λ (y : ℕ). Grown (Tbl u.nodes u.automata N A (states p) (entry 0 p) (2 ^ exit 0 p) E N (sets u.edges E (edges k 0 p)) y (0 + length (edges k 0 p))) true) h g₃)

-- Each state of each automaton stands on an edge of its automaton
abbrev Whole : Table → Type 0
Whole t = (m : ℕ) → m < t.used.automata → (s : ℕ) → s < (auto t m).states → (j : ℕ) × (j < (auto t m).count) × OnEdge s (edge t ((auto t m).first + j))

-- what making keeps
pub record Good (t : Table) (b : Bool) : Type 0 where
  pub grown : Grown t b
  pub all : Whole t

pub good_letter : (t : Table) (b : Bool) (l x y : ℕ) → Good t b → Grown (with_letter t l x y) false → Good (with_letter t l x y) false
unfolding with_node
good_letter t b l x y g h = record { grown = h; all = g.all }

module _ (u : Table) (b : Bool) (k : ℕ) (p : Path) (g : Good u b) (room : u.used.automata < automaton_limit) (fit : u.used.edges + own p ≤ edge_limit) where
  at_new : (m : ℕ) → m ≡ u.used.automata → auto (with_path u k p) m ≡ automaton_of u.used p
  at_new m e = ap (auto (with_path u k p)) e ∙ get_or-set_same u.automata u.used.automata (automaton_of u.used p) no_automaton (let q = g.grown.automata_long in omega arith)

  at_old : (m : ℕ) → m < u.used.automata → auto (with_path u k p) m ≡ auto u m
  at_old m l = get_or-set_other u.automata u.used.automata m (automaton_of u.used p) no_automaton (λ e. omega arith)

  -- the new automaton's states
  whole_new : (s : ℕ) → s < states p → (j : ℕ) × (j < own p) × OnEdge s (edge (with_path u k p) (u.used.edges + j))
  whole_new s l =
      let r = at_some (OnEdge s) no_edge (edges k 0 p) (stands p k 0 s (omega arith) (omega arith)) in
      let n = own_length p k 0 in
      let h = r.1 in
      let q = g.grown.edges_long in
      (r.0, omega arith, subst (λ (x : Edge). OnEdge s x) (sym (sets_at (edges k 0 p) u.edges u.used.edges r.0 no_edge h (omega arith))) r.2)

  whole_old : (m : ℕ) → m < u.used.automata → (s : ℕ) → s < (auto u m).states → (j : ℕ) × (j < (auto u m).count) × OnEdge s (edge (with_path u k p) ((auto u m).first + j))
  whole_old m l s h =
      let r = g.all m l s h in
      let e = edges-end u b g.grown m l in
      let i = r.1 in
      (r.0, i, subst (λ (x : Edge). OnEdge s x) (sym (sets_before (edges k 0 p) u.edges u.used.edges ((auto u m).first + r.0) no_edge (omega arith))) r.2)

  -- what an automaton's states need, said of the automaton
  abbrev Needs : Automaton → Type 0
  Needs x = (s : ℕ) → s < x.states → (j : ℕ) × (j < x.count) × OnEdge s (edge (with_path u k p) (x.first + j))

  whole_path : Whole (with_path u k p)
  whole_path m l =
      ⊎_elim (λ (e : m ≡ u.used.automata). subst Needs (sym (at_new m e)) whole_new)
      (λ (h : m < u.used.automata). subst Needs (sym (at_old m h)) (whole_old m h))
      (eq-or-lt_of_le {n = m} {m = u.used.automata} (omega arith))

-- every fact of a formula is one that a sheet can name
abbrev mutual
  pub FactsIn : Formula → Type 0
  FactsIn always = Unit {0}
  FactsIn (fact f) = f < fact_limit
  FactsIn (neg a) = FactsIn a
  FactsIn (both a b) = FactsIn a × FactsIn b
  FactsIn (either a b) = FactsIn a × FactsIn b
  FactsIn (some p a) = FactsOf p × FactsIn a
  FactsIn (every p a) = FactsOf p × FactsIn a

  pub FactsOf : Path → Type 0
  FactsOf (step d a) = FactsIn a
  FactsOf (seq p q) = FactsOf p × FactsOf q
  FactsOf (alt p q) = FactsOf p × FactsOf q
  FactsOf (many p) = FactsOf p

sized_of : (t : Table) (b : Bool) → Good t b → Sized t
sized_of t b g = record { nodes = g.grown.nodes_long; automata = g.grown.automata_long; edges = g.grown.edges_long }

-- a path's lines, behind those of its formulas
good_path : (p : Path) (t : Table) (b : Bool) → Good t b → 0 < t.used.nodes → steps_plain_in p ≡ true → states p ≤ state_limit → Good (made_in p t) false → Small (made_in p t) → (made_in p t).used.automata < automaton_limit
    → (made_in p t).used.edges + own p ≤ edge_limit → Good (with_path (made_in p t) t.used.nodes p) true
good_path p t b g pos e w h r room fit =
    let c = in_adds p t in
    record {
      grown = grows_path (made_in p t) false t.used.nodes p h.grown room w fit (omega arith) (omega arith) (plain_path p t e (sized_of t b g) r.0);
      all = whole_path (made_in p t) false t.used.nodes p h room fit;
    }

-- what making a formula, and the formulas of a path, keep of a table with so many nodes
abbrev Keeps : Formula → Table → Bool → Type 0
Keeps a t b = Good t b → 0 < t.used.nodes → FactsIn a → steps_plain a ≡ true → widest a ≤ state_limit → Small (made a t) → Good (made a t) false

abbrev KeepsIn : Path → Table → Bool → Type 0
KeepsIn p t b = Good t b → 0 < t.used.nodes → FactsOf p → steps_plain_in p ≡ true → widest_in p ≤ state_limit → Small (made_in p t) → Good (made_in p t) false

good_two : (x y : Formula) (t : Table) (b : Bool) (l : ℕ) → ((v : Table) (c : Bool) → Grown v c → v.used.nodes < node_limit → BothBelow v l) → Keeps x t b → Keeps y (made x t) false
    → Good t b → 0 < t.used.nodes → FactsIn x × FactsIn y → (steps_plain x && steps_plain y) ≡ true → max (widest x) (widest y) ≤ state_limit
    → Small (with_letter (made y (made x t)) l (newest (made x t)) (newest (made y (made x t)))) → Good (with_letter (made y (made x t)) l (newest (made x t)) (newest (made y (made x t)))) false
unfolding with_node
good_two x y t b l line rx ry g pos f e w r =
    let u = made x t in
    let v = made y u in
    let c = made_adds x t in
    let d = made_adds y u in
    let s = bools.both (steps_plain x) (steps_plain y) e in
    let h = rx g pos f.0 s.0 (omega arith) (omega arith) in
    let i = ry h (omega arith) f.1 s.1 (omega arith) (omega arith) in
    good_letter v false l (newest u) (newest v) i (line v false i.grown (omega arith) (newest u) (newest v) (omega arith) (omega arith))

good_modal : (p : Path) (a : Formula) (t : Table) (b : Bool) (l : ℕ) → ((v : Table) (c : Bool) → Grown v c → v.used.nodes < node_limit → Modal v l) → KeepsIn p t b → Keeps a (with_path (made_in p t) t.used.nodes p) true
    → Good t b → 0 < t.used.nodes → FactsOf p × FactsIn a → (steps_plain_in p && steps_plain a) ≡ true → max (max (states p) (widest_in p)) (widest a) ≤ state_limit
    → Small (with_letter (made a (with_path (made_in p t) t.used.nodes p)) l (made_in p t).used.automata (newest (made a (with_path (made_in p t) t.used.nodes p))))
    → Good (with_letter (made a (with_path (made_in p t) t.used.nodes p)) l (made_in p t).used.automata (newest (made a (with_path (made_in p t) t.used.nodes p)))) false
unfolding with_node
good_modal p a t b l line rp ra g pos f e w r =
    let u = made_in p t in
    let x = with_path u t.used.nodes p in
    let v = made a x in
    let c = in_adds p t in
    let d = made_adds a x in
    let s = bools.both (steps_plain_in p) (steps_plain a) e in
    let h = rp g pos f.0 s.0 (omega arith) (omega arith) in
    let i = good_path p t b g pos s.0 (omega arith) h (omega arith) (omega arith) (omega arith) in
    let j = ra i (omega arith) f.1 s.1 (omega arith) (omega arith) in
    good_letter v false l u.used.automata (newest v) j (line v false j.grown (omega arith) u.used.automata (newest v) (omega arith) (omega arith))

good_sides : (p q : Path) (t : Table) (b : Bool) → KeepsIn p t b → KeepsIn q (made_in p t) false
    → Good t b → 0 < t.used.nodes → FactsOf p × FactsOf q → (steps_plain_in p && steps_plain_in q) ≡ true → max (widest_in p) (widest_in q) ≤ state_limit → Small (made_in q (made_in p t)) → Good (made_in q (made_in p t)) false
good_sides p q t b rp rq g pos f e w r =
    let c = in_adds p t in
    let d = in_adds q (made_in p t) in
    let s = bools.both (steps_plain_in p) (steps_plain_in q) e in
    rq (rp g pos f.0 s.0 (omega arith) (omega arith)) (omega arith) f.1 s.1 (omega arith) r

mutual
  unfolding made with_node

  -- MAKING A FORMULA keeps it
  pub good_made : (a : Formula) (t : Table) (b : Bool) → Good t b → 0 < t.used.nodes → FactsIn a → steps_plain a ≡ true → widest a ≤ state_limit → Small (made a t) → Good (made a t) false
  good_made always t b g pos f e w r = good_letter t b letter_t 0 0 g (grows_T t b g.grown (omega arith))
  good_made (fact x) t b g pos f e w r = good_letter t b letter_p x 0 g (grows_P t b g.grown (omega arith) x f)
  good_made (neg a) t b g pos f e w r =
      let u = made a t in
      let c = made_adds a t in
      let h = good_made a t b g pos f e w (omega arith) in
      good_letter u false letter_n (newest u) 0 h (grows_N u false h.grown (omega arith) (newest u) (omega arith))
  good_made (both x y) t b g pos f e w r = good_two x y t b letter_a grows_A (λ g pos f e w r. good_made x t b g pos f e w r) (λ g pos f e w r. good_made y (made x t) false g pos f e w r) g pos f e w r
  good_made (either x y) t b g pos f e w r = good_two x y t b letter_o grows_O (λ g pos f e w r. good_made x t b g pos f e w r) (λ g pos f e w r. good_made y (made x t) false g pos f e w r) g pos f e w r
  good_made (some p a) t b g pos f e w r = good_modal p a t b letter_d grows_D (λ g pos f e w r. good_in p t b g pos f e w r) (λ g pos f e w r. good_made a (with_path (made_in p t) t.used.nodes p) true g pos f e w r) g pos f e w r
  good_made (every p a) t b g pos f e w r = good_modal p a t b letter_b grows_B (λ g pos f e w r. good_in p t b g pos f e w r) (λ g pos f e w r. good_made a (with_path (made_in p t) t.used.nodes p) true g pos f e w r) g pos f e w r

  good_in : (p : Path) (t : Table) (b : Bool) → Good t b → 0 < t.used.nodes → FactsOf p → steps_plain_in p ≡ true → widest_in p ≤ state_limit → Small (made_in p t) → Good (made_in p t) false
  good_in (step d a) t b g pos f e w r = good_made a t b g pos f (bools.both (step_takes d (plain a)) (steps_plain a) e).1 w r
  good_in (seq p q) t b g pos f e w r = good_sides p q t b (λ g pos f e w r. good_in p t b g pos f e w r) (λ g pos f e w r. good_in q (made_in p t) false g pos f e w r) g pos f e w r
  good_in (alt p q) t b g pos f e w r = good_sides p q t b (λ g pos f e w r. good_in p t b g pos f e w r) (λ g pos f e w r. good_in q (made_in p t) false g pos f e w r) g pos f e w r
  good_in (many p) t b g pos f e w r = good_in p t b g pos f e w r
