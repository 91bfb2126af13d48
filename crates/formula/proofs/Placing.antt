-- The sheet of the table made of a formula holds the formula: its lines, automata and edges stand where the numbering says. By induction over the formula: what is made later leaves what stands there.
use Prim.Native.Nat.{ℕ, suc, ◌+◌, ◌≤◌, ◌<◌}
use native.Mathlib.Omega.{arith}
use mathlib.Core.Path.{◌≡◌, refl, subst₂, subst₃, ap, ◌∙◌}
use lib.Dec.{eqb}
use lib.Seq.{get_or-set_same, get_or-set_other}
use Rattle.aldlf.specs.Constants.{node_limit, automaton_limit, edge_limit, letter_t, letter_p, letter_n, letter_a, letter_o, letter_d, letter_b}
use Rattle.aldlf.specs.Sheet.{Sheet, Line, T, N, A, O, D, B, bit, line_of, no_line, no_edge, no_automaton, sheet_of}
use Rattle.aldlf.specs.Sheet as sheet
use Rattle.aldlf.specs.declared.NodeLine.{NodeLine}
use Rattle.aldlf.specs.declared.Automaton.{Automaton}
use Rattle.aldlf.specs.declared.Used.{Used}
use Rattle.aldlf.specs.declared.Table.{Table}
use Rattle.sheet.specs.Questions.{with_node}
use Rattle.formula.specs.Formula.{Formula, always, fact, neg, both, either, some, every, Path, step, seq, alt, many}
use Rattle.formula.specs.Numbering.{under, within, own, exit, edges, with_letter, newest, automaton_of, with_path, made, made_in, first_table}
use Rattle.formula.proofs.Laws.{sets_before, sets_at, bit_power}
use Rattle.formula.proofs.Making.{Makes, none, letter, path, makes, makes_in, Small, Sized, sized}
use Rattle.formula.specs.Counts.{automaton_count, automaton_count_in, edge_count, edge_count_in}
use Rattle.formula.proofs.Counts.{made_adds, in_adds}
use Rattle.formula.proofs.Graph.{own_length, edge_from}
use Rattle.formula.proofs.Agree.{IsPath, Placed, PlacedIn}

-- a sheet has all that a table has so far
pub record On (t : Table) (S : Sheet) : Type 0 where
  pub lines : (k : ℕ) → k < t.used.nodes → S.line k ≡ (sheet_of t).line k
  pub automata : (m : ℕ) → m < t.used.automata → S.automaton m ≡ (sheet_of t).automaton m
  pub edges : (e : ℕ) → e < t.used.edges → S.edge e ≡ (sheet_of t).edge e

pub on_self : (t : Table) → On t (sheet_of t)
on_self t = record { lines = λ k h. refl; automata = λ m h. refl; edges = λ e h. refl }

-- a line, an automaton and an edge of a table as its sheet has them
abbrev line_from : NodeLine → Line
line_from x = line_of x.kind x.a x.b

abbrev automaton_from : Automaton → sheet.Automaton
automaton_from x = record { states = x.states; start = x.start.0; accepts = λ s. bit x.accepting s; first = x.first; count = x.count }

-- the end of a path is the one state that accepts
accepts_end : (u : Used) (p : Path) (s : ℕ) → bit (automaton_of u p).accepting s ≡ eqb s (exit 0 p)
accepts_end u p s = bit_power (exit 0 p) s

module _ (S : Sheet) where
  on_node : (t : Table) (kind a b : ℕ) → On (with_letter t kind a b) S → On t S
  unfolding sheet_of with_node
  on_node t kind a b o = record {
    lines = λ k h. o.lines k (omega arith) ∙ ap line_from (get_or-set_other t.nodes t.used.nodes k (record { kind = kind; a = a; b = b }) no_line (λ e. omega arith));
    automata = o.automata;
    edges = o.edges;
  }

  line_new : (t : Table) (kind a b : ℕ) → Sized t → t.used.nodes < node_limit → On (with_letter t kind a b) S → S.line t.used.nodes ≡ line_of kind a b
  unfolding sheet_of with_node
  line_new t kind a b z l o =
      o.lines t.used.nodes (omega arith) ∙ ap line_from (get_or-set_same t.nodes t.used.nodes (record { kind = kind; a = a; b = b }) no_line (let e = z.nodes in omega arith))

  -- node 0 is T
  pub line_first : On first_table S → S.line 0 ≡ T
  unfolding sheet_of with_node
  line_first o = o.lines 0 (omega arith)

  on_path : (t : Table) (k : ℕ) (p : Path) → On (with_path t k p) S → On t S
  unfolding sheet_of
  on_path t k p o = record {
    lines = o.lines;
    automata = λ m h. o.automata m (omega arith) ∙ ap automaton_from (get_or-set_other t.automata t.used.automata m (automaton_of t.used p) no_automaton (λ e. omega arith));
    edges = λ e h. o.edges e (omega arith) ∙ ap edge_from (sets_before (edges k 0 p) t.edges t.used.edges e no_edge h);
  }

  is_path : (t : Table) (k : ℕ) (p : Path) → Sized t → t.used.automata < automaton_limit → t.used.edges + own p ≤ edge_limit → On (with_path t k p) S
      → IsPath S k t.used.automata t.used.edges p
  unfolding sheet_of
  is_path t k p z l r o =
      let e : S.automaton t.used.automata ≡ automaton_from (automaton_of t.used p) = o.automata t.used.automata (omega arith)
      ∙ ap automaton_from (get_or-set_same t.automata t.used.automata (automaton_of t.used p) no_automaton (let s = z.automata in omega arith)) in
      record {
        start = ap (λ (q : sheet.Automaton). q.start) e;
        accepts = λ s. ap (λ (q : sheet.Automaton). q.accepts s) e ∙ accepts_end t.used p s;
        first = ap (λ (q : sheet.Automaton). q.first) e;
        count = ap (λ (q : sheet.Automaton). q.count) e;
        edges_are = λ x h.
            o.edges (t.used.edges + x) (omega arith)
            ∙ ap edge_from (sets_at (edges k 0 p) t.edges t.used.edges x no_edge (rw (own_length p k 0) h) (rw (own_length p k 0, z.edges) r));
      }

  -- what is put in later leaves what stands
  pub on_makes : {t u : Table} → Makes t u → On u S → On t S
  on_makes none o = o
  on_makes (letter r l x y) o = on_makes r (on_node _ l x y o)
  on_makes (path r k p) o = on_makes r (on_path _ k p o)

  at : (a : Formula) {k k' m m' e e' : ℕ} → k ≡ k' → m ≡ m' → e ≡ e' → Placed a S k m e → Placed a S k' m' e'
  at a p q r z = subst₃ (λ (x y w : ℕ). Placed a S x y w) p q r z

  at_in : (a : Path) {k k' m m' e e' : ℕ} → k ≡ k' → m ≡ m' → e ≡ e' → PlacedIn a S k m e → PlacedIn a S k' m' e'
  at_in a p q r z = subst₃ (λ (x y w : ℕ). PlacedIn a S x y w) p q r z

  at_path : (p : Path) (k : ℕ) {m m' e e' : ℕ} → m ≡ m' → e ≡ e' → IsPath S k m e p → IsPath S k m' e' p
  at_path p k q r z = subst₂ (λ (x y : ℕ). IsPath S k x y p) q r z

  at_line : (f : ℕ → ℕ → Line) {n n' x x' y y' : ℕ} → n ≡ n' → x ≡ x' → y ≡ y' → S.line n ≡ f x y → S.line n' ≡ f x' y'
  at_line f p q r z = cc

  -- the two sides of `&` and `|`, then their line
  module _ (kind : ℕ) (f : ℕ → ℕ → Line) (is : (x y : ℕ) → line_of kind x y ≡ f x y) where
    placed_two : (a b : Formula) (t : Table) → Sized t → Small (with_letter (made b (made a t)) kind (newest (made a t)) (newest (made b (made a t))))
        → On (with_letter (made b (made a t)) kind (newest (made a t)) (newest (made b (made a t)))) S
        → (Small (made a t) → On (made a t) S → Placed a S t.used.nodes t.used.automata t.used.edges)
        → (Small (made b (made a t)) → On (made b (made a t)) S → Placed b S (made a t).used.nodes (made a t).used.automata (made a t).used.edges)
        → Placed a S t.used.nodes t.used.automata t.used.edges
        × Placed b S (t.used.nodes + suc (under a)) (t.used.automata + automaton_count a) (t.used.edges + edge_count a)
        × (S.line (t.used.nodes + (suc (under a) + suc (under b))) ≡ f (t.used.nodes + under a) (t.used.nodes + suc (under a) + under b))
    unfolding with_node
    placed_two a b t z l o ra rb =
        let u = made a t in
        let v = made b u in
        let c = made_adds a t in
        let d = made_adds b u in
        let o' = on_node v kind (newest u) (newest v) o in (
          ra (omega arith) (on_makes (makes b u) o'),
          at b c.nodes c.automata c.edges (rb (omega arith) o'),
          at_line f (omega arith) (omega arith) (omega arith) (line_new v kind (newest u) (newest v) (sized (makes b u) (sized (makes a t) z)) (omega arith) o ∙ is (newest u) (newest v)),
        )

    -- the formulas of a path, its automaton, the formula behind it, then the line of the path mark
    placed_modal : (p : Path) (a : Formula) (t : Table) → Sized t
        → Small (with_letter (made a (with_path (made_in p t) t.used.nodes p)) kind (made_in p t).used.automata (newest (made a (with_path (made_in p t) t.used.nodes p))))
        → On (with_letter (made a (with_path (made_in p t) t.used.nodes p)) kind (made_in p t).used.automata (newest (made a (with_path (made_in p t) t.used.nodes p)))) S
        → (Small (made_in p t) → On (made_in p t) S → PlacedIn p S t.used.nodes t.used.automata t.used.edges)
        → (Small (made a (with_path (made_in p t) t.used.nodes p)) → On (made a (with_path (made_in p t) t.used.nodes p)) S
        → Placed a S (made_in p t).used.nodes ((made_in p t).used.automata + 1) ((made_in p t).used.edges + own p))
        → PlacedIn p S t.used.nodes t.used.automata t.used.edges
        × IsPath S t.used.nodes (t.used.automata + automaton_count_in p) (t.used.edges + edge_count_in p) p
        × Placed a S (t.used.nodes + within p) (t.used.automata + suc (automaton_count_in p)) (t.used.edges + (edge_count_in p + own p))
        × (S.line (t.used.nodes + (within p + suc (under a))) ≡ f (t.used.automata + automaton_count_in p) (t.used.nodes + within p + under a))
    unfolding with_node
    placed_modal p a t z l o rp ra =
        let u = made_in p t in
        let w = with_path u t.used.nodes p in
        let v = made a w in
        let c = in_adds p t in
        let d = made_adds a w in
        let zu = sized (makes_in p t) z in
        let o' = on_node v kind u.used.automata (newest v) o in
        let o'' = on_makes (makes a w) o' in (
          rp (omega arith) (on_path u t.used.nodes p o''),
          at_path p t.used.nodes c.automata c.edges (is_path u t.used.nodes p zu (omega arith) (omega arith) o''),
          at a c.nodes (omega arith) (omega arith) (ra (omega arith) o'),
          at_line f (omega arith) c.automata (omega arith)
              (line_new v kind u.used.automata (newest v) (sized (makes a w) (sized (path none t.used.nodes p) zu)) (omega arith) o ∙ is u.used.automata (newest v)),
        )

  -- the formulas of the two sides of `;` and `+`
  placed_sides : (p q : Path) (t : Table) → Small (made_in q (made_in p t)) → On (made_in q (made_in p t)) S
      → (Small (made_in p t) → On (made_in p t) S → PlacedIn p S t.used.nodes t.used.automata t.used.edges)
      → PlacedIn q S (made_in p t).used.nodes (made_in p t).used.automata (made_in p t).used.edges
      → PlacedIn p S t.used.nodes t.used.automata t.used.edges × PlacedIn q S (t.used.nodes + within p) (t.used.automata + automaton_count_in p) (t.used.edges + edge_count_in p)
  placed_sides p q t l o rp rq =
      let u = made_in p t in
      let c = in_adds p t in
      let d = in_adds q u in
      (rp (omega arith) (on_makes (makes_in q u) o), at_in q c.nodes c.automata c.edges rq)

  mutual
    unfolding made with_node

    -- THE FORMULA STANDS on every sheet that has what the table has
    pub placed : (a : Formula) (t : Table) → Sized t → Small (made a t) → On (made a t) S → Placed a S t.used.nodes t.used.automata t.used.edges
    placed always t z l o = line_new t letter_t 0 0 z (omega arith) o
    placed (fact f) t z l o = line_new t letter_p f 0 z (omega arith) o
    placed (neg a) t z l o =
        let u = made a t in
        let c = made_adds a t in (
          placed a t z (omega arith) (on_node u letter_n (newest u) 0 o),
          at_line (λ x y. N x) {y = 0} {y' = 0} c.nodes (omega arith) refl (line_new u letter_n (newest u) 0 (sized (makes a t) z) (omega arith) o),
        )
    placed (both a b) t z l o = placed_two letter_a A (λ x y. refl) a b t z l o (λ m r. placed a t z m r) (λ m r. placed b (made a t) (sized (makes a t) z) m r)
    placed (either a b) t z l o = placed_two letter_o O (λ x y. refl) a b t z l o (λ m r. placed a t z m r) (λ m r. placed b (made a t) (sized (makes a t) z) m r)
    placed (some p a) t z l o = placed_modal letter_d D (λ x y. refl) p a t z l o (λ m r. placed_in p t z m r) (λ m r. placed a _ (sized (path (makes_in p t) t.used.nodes p) z) m r)
    placed (every p a) t z l o = placed_modal letter_b B (λ x y. refl) p a t z l o (λ m r. placed_in p t z m r) (λ m r. placed a _ (sized (path (makes_in p t) t.used.nodes p) z) m r)

    placed_in : (p : Path) (t : Table) → Sized t → Small (made_in p t) → On (made_in p t) S → PlacedIn p S t.used.nodes t.used.automata t.used.edges
    placed_in (step d a) t z l o = placed a t z l o
    placed_in (seq p q) t z l o = placed_sides p q t l o (λ m r. placed_in p t z m r) (placed_in q (made_in p t) (sized (makes_in p t) z) l o)
    placed_in (alt p q) t z l o = placed_sides p q t l o (λ m r. placed_in p t z m r) (placed_in q (made_in p t) (sized (makes_in p t) z) l o)
    placed_in (many p) t z l o = placed_in p t z l o
