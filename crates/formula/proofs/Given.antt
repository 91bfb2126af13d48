-- QUESTION 31 SAYS YES TO MADE TABLES: some sheet gives the table made of a formula that is written, whose steps are plain and that is within the limits. For making keeps what lines keep, and each state stands on an edge.
use Prim.Native.Nat.{ℕ, zero, suc, ◌+◌, ◌≤◌, ◌<◌}
use native.Mathlib.Omega.{arith}
use mathlib.Core.Path.{◌≡◌, refl, ◌∙◌}
use mathlib.Core.List.{List, [], ◌∷◌}
use mathlib.Core.Bool.{true, false, or-true}
use mathlib.Core.Logic.{inl, inr}
use lib.Dec.{eqb}
use lib.ListN.{length, get_or, take, drop, length-take, length-drop}
use lib.Seq.{get_or-take, get_or-drop, length-take-le}
use borrow.Author.Tests.{eq-eqb}
use Rattle.aldlf.specs.Constants.{letter_t}
use Rattle.aldlf.specs.Sheet.{no_edge, no_automaton}
use Rattle.aldlf.specs.declared.Edge.{Edge}
use Rattle.aldlf.specs.declared.Automaton.{Automaton}
use Rattle.aldlf.specs.declared.Table.{Table}
use Rattle.sheet.specs.Questions.{stands_on, some_edge, edges_of, each_state, whole, whole_of, with_node, empty_table}
use Rattle.sheet.specs.Given.{well_formed}
use Rattle.sheet.proofs.Each.{each_all}
use Rattle.sheet.proofs.Grown.{auto, edge}
use Rattle.sheet.proofs.Grows.{start_grown}
use Rattle.sheet.proofs.Decided.{wf_no, edges-end}
use Rattle.formula.specs.Formula.{Formula}
use Rattle.formula.specs.Grammar.{Writes}
use Rattle.formula.specs.Numbering.{first_table, table_of}
use Rattle.formula.specs.Outcome.{steps_plain, fits_sheet}
use Rattle.formula.proofs.Induction.{Claims, alike, Keeps, on_disjunction}
use Rattle.formula.proofs.Counts.{made_adds, table_adds, fits_iff}
use Rattle.formula.proofs.Stands.{OnEdge}
use Rattle.formula.proofs.Growing.{Good, grows_T, good_letter, FactsIn, FactsOf, good_made}

-- the facts of a formula that is written are below the limit
abbrev claims : Claims
claims = alike (λ a u. FactsIn a) (λ p u. FactsOf p)

keeps : Keeps claims
keeps =
    record {
      d_first = λ a u h. h;
      d_next = λ a b u w h k. (h, k);
      c_first = λ a u h. h;
      c_next = λ a b u w h k. (h, k);
      atoms = λ a u h. h;
      nots = λ a u h. h;
      somes = λ p a u w h k. (h, k);
      everys = λ p a u w h k. (h, k);
      trues = tt;
      facts = λ f l. l;
      groups = λ a u h. h;
      h_first = λ p u h. h;
      h_next = λ p q u w h k. (h, k);
      s_first = λ p u h. h;
      s_next = λ p q u w h k. (h, k);
      pieces = λ p u h. h;
      stars = λ p u h. h;
      aheads = λ a u h. h;
      backs = λ a u h. h;
      tests = λ a u h. h;
      brackets = λ p u h. h;
    }

pub writes_facts : (a : Formula) (text : List ℕ) → Writes a text → FactsIn a
writes_facts a text t = on_disjunction claims keeps t

-- Question 10, as the sheet asks it
stands_yes : (s : ℕ) (e : Edge) → OnEdge s e → stands_on s e ≡ true
stands_yes s e (inl h) = rw (eq-eqb e.from.0 s h) refl
stands_yes s e (inr h) = rw (eq-eqb e.to.0 s h) (or-true (eqb e.from.0 s))

some_at : (s : ℕ) (l : List Edge) (j : ℕ) → j < length l → stands_on s (get_or l j no_edge) ≡ true → some_edge s l ≡ true
unfolding some_edge
some_at s [] j h e = absurd (omega arith)
some_at s (x ∷ l) zero h e = rw e refl
some_at s (x ∷ l) (suc j) h e = rw (some_at s l j (omega arith) e) (or-true (stands_on s x))

each_whole : (es : List Edge) (xs : List Automaton) → ((m : ℕ) → m < length xs → each_state (edges_of es (get_or xs m no_automaton)) (get_or xs m no_automaton).states ≡ true) → length xs ≤ whole es xs
unfolding whole
each_whole es [] f = omega arith
each_whole es (x ∷ xs) f = let r = each_whole es xs (λ m h. f (suc m) (omega arith)) in rw (f 0 (omega arith)) (omega arith)

module _ (t : Table) (g : Good t false) where
  automaton_whole : (m : ℕ) → m < t.used.automata → each_state (edges_of t.edges (auto t m)) (auto t m).states ≡ true
  automaton_whole m l = each_all (λ s. some_edge s (edges_of t.edges (auto t m))) (auto t m).states (λ s h. on s (g.all m l s h))
    where
      on : (s : ℕ) → (j : ℕ) × (j < (auto t m).count) × OnEdge s (edge t ((auto t m).first + j)) → some_edge s (edges_of t.edges (auto t m)) ≡ true
      on s (j, k, o) =
          let e = edges-end t false g.grown m l in
          let few = g.grown.edges≤ in
          let long = g.grown.edges_long in
          let p = length-take (auto t m).count (drop (auto t m).first t.edges) in
          let q = length-drop (auto t m).first t.edges in
          let r : get_or (edges_of t.edges (auto t m)) j no_edge ≡ edge t ((auto t m).first + j) = get_or-take (auto t m).count (drop (auto t m).first t.edges) j no_edge k ∙ get_or-drop (auto t m).first t.edges j no_edge in
          some_at s (edges_of t.edges (auto t m)) j (omega arith) (rw r (stands_yes s (edge t ((auto t m).first + j)) o))

  all_used : t.used.automata ≤ whole_of t
  all_used =
      let few = g.grown.automata≤ in
      let long = g.grown.automata_long in
      let n = length-take-le t.used.automata t.automata (omega arith) in
      let r = each_whole t.edges (take t.used.automata t.automata) (λ m h.
      rw (get_or-take t.used.automata t.automata m no_automaton (omega arith)) (automaton_whole m (omega arith))) in
      omega arith

-- node 0
first_good : Good first_table false
first_good = good_letter empty_table false letter_t 0 0 (record { grown = start_grown; all = λ m l. absurd (omega arith) }) (grows_T empty_table false start_grown (omega arith))

table_good : (a : Formula) → FactsIn a → steps_plain a ≡ true → fits_sheet a ≡ true → Good (table_of a) false
unfolding table_of with_node
table_good a f e fits =
    let w = (fits_iff a).0 fits in
    let c = made_adds a first_table in
    good_made a first_table false first_good (omega arith) f e w.widths (omega arith)

facts_given : (a : Formula) → FactsIn a → steps_plain a ≡ true → fits_sheet a ≡ true → well_formed (table_of a) ≡ true
facts_given a f e fits =
    let g = table_good a f e fits in
    let c = table_adds a in
    wf_no (table_of a) (record { grown = g.grown; some = omega arith; all_used = all_used (table_of a) g })

pub made_given : (a : Formula) (text : List ℕ) → Writes a text → steps_plain a ≡ true → fits_sheet a ≡ true → well_formed (table_of a) ≡ true
made_given a text t e fits = facts_given a (writes_facts a text t) e fits
