-- THE TABLE THAT PARTS JUDGE: its sheet is the one in which every node that the rule does not stand on is false, and it has the facts that judging relies on.
use Prim.Native.Nat.{ℕ, zero, suc, ◌+◌, ◌≤◌, ◌<◌}
use native.Mathlib.Omega.{arith}
use mathlib.Core.Path.{◌≡◌, refl, sym, subst, ap, ◌∙◌, fun_ext}
use mathlib.Core.Logic.{◌⊎◌, inl, inr}
use mathlib.Core.Bool.{Bool, true, false, cond}
use mathlib.Core.List.{List, [], ◌∷◌}
use lib.Dec.{eqb}
use lib.ListN.{length, get_or, set, length-set}
use lib.Seq.{get_or-set_same, get_or-set_other}
use borrow.Author.Tests.{eqb-true, eqb-false}
use Rattle.aldlf.specs.Constants.{node_limit, automaton_limit, fact_limit, letter_p, letter_n, letter_a, letter_o, letter_d, letter_b}
use Rattle.aldlf.specs.Sheet.{Line, F, line_of, no_line, sheet_of}
use Rattle.aldlf.specs.Stands.{stands_of, rule_sheet}
use Rattle.aldlf.specs.declared.NodeLine.{NodeLine}
use Rattle.aldlf.specs.declared.Table.{Table}
use Rattle.aldlf.proofs.Bools.{bool_cases}
use Rattle.packing.specs.Numbers.{lines_place, heads_place, ranges_place, before_place, counts_place, places, line_in, edge_in, lent_automaton, lent_used}
use Rattle.packing.specs.Packed.{Packed}
use Rattle.sheet.specs.Facts.{node_at, automaton_at, NodeFacts, AutomatonFacts, TableFacts, Lent}
use Rattle.stands.specs.Trimmed.{kept, trimmed, rule_table, Trimming}

kept-length : (p : List Bool) (xs : List NodeLine) → length (kept p xs) ≡ length xs
kept-length p [] = refl
kept-length [] (x ∷ xs) = ap suc (kept-length [] xs)
kept-length (b ∷ p) (x ∷ xs) = ap suc (kept-length p xs)

kept_at : (p : List Bool) (xs : List NodeLine) (k : ℕ) → get_or (kept p xs) k no_line ≡ cond (get_or p k false) (get_or xs k no_line) no_line
kept_at p [] k = go (get_or p k false)
  where
    go : (b : Bool) → no_line ≡ cond b no_line no_line
    go true = refl
    go false = refl
kept_at [] (x ∷ xs) zero = refl
kept_at [] (x ∷ xs) (suc k) = kept_at [] xs k
kept_at (b ∷ p) (x ∷ xs) zero = refl
kept_at (b ∷ p) (x ∷ xs) (suc k) = kept_at p xs k

-- A copy ------------------------------------------------------------------------------------------------------------------------

-- one number more is there
pub copied_next : (xs ys : List ℕ) (i : ℕ) → i < length ys → ((j : ℕ) → j < i → get_or ys j 0 ≡ get_or xs j 0) → (j : ℕ) → j < i + 1 → get_or (set ys i (get_or xs i 0)) j 0 ≡ get_or xs j 0
copied_next xs ys i l e j b = go (bool_cases (eqb j i))
  where
    go : (eqb j i ≡ true) ⊎ (eqb j i ≡ false) → get_or (set ys i (get_or xs i 0)) j 0 ≡ get_or xs j 0
    go (inl q) = let is = eqb-true j i q in ap (λ (z : ℕ). get_or (set ys i (get_or xs i 0)) z 0) is ∙ get_or-set_same ys i (get_or xs i 0) 0 l ∙ ap (λ (z : ℕ). get_or xs z 0) (sym is)
    go (inr q) = let ne : ¬ (j ≡ i) = eqb-false j i q in get_or-set_other ys i j (get_or xs i 0) 0 ne ∙ e j (omega arith)

-- The numbers ---------------------------------------------------------------------------------------------------------------------

pub trimming_none : (p : List Bool) (before : List ℕ) → length before ≡ places → Trimming p before before 0
trimming_none p before e = record { size = e; done = λ j l. absurd (omega arith); low = λ i l. refl; high = λ i l. refl }

pub trimming_next : (p : List Bool) (before after : List ℕ) (k v : ℕ) → k < node_limit → Trimming p before after k → v ≡ cond (get_or p k false) (get_or after (lines_place + k) 0) 0 → Trimming p before (set after (lines_place + k) v) (k + 1)
trimming_next p before after k v l s e =
    record {
      size = length-set after (lines_place + k) v ∙ s.size;
      done = λ j b. go j b (bool_cases (eqb j k));
      low = λ i b. get_or-set_other after (lines_place + k) i v 0 (omega arith) ∙ s.low i b;
      high = λ i b. get_or-set_other after (lines_place + k) i v 0 (omega arith) ∙ s.high i (omega arith);
    }
  where
    go : (j : ℕ) → j < k + 1 → (eqb j k ≡ true) ⊎ (eqb j k ≡ false) → get_or (set after (lines_place + k) v) (lines_place + j) 0 ≡ cond (get_or p j false) (get_or before (lines_place + j) 0) 0
    go j b (inl q) =
        let is : j ≡ k = eqb-true j k q in
        ap (λ (z : ℕ). get_or (set after (lines_place + k) v) (lines_place + z) 0) is
        ∙ get_or-set_same after (lines_place + k) v 0 (omega (arith, s.size))
        ∙ e ∙ ap (λ (z : ℕ). cond (get_or p k false) z 0) (s.high (lines_place + k) (omega arith))
        ∙ ap (λ (z : ℕ). cond (get_or p z false) (get_or before (lines_place + z) 0) 0) (sym is)
    go j b (inr q) = let ne : ¬ (j ≡ k) = eqb-false j k q in get_or-set_other after (lines_place + k) (lines_place + j) v 0 (omega arith) ∙ s.done j (omega arith)

-- the numbers are the trimmed table's
pub trimming_all : (t : Table) (p : List Bool) (before after : List ℕ) → Trimming p before after node_limit → Packed t before → Packed (trimmed t p) after
trimming_all t p before after s P =
    record {
      size = s.size;
      nodes_length = kept-length p t.nodes ∙ P.nodes_length;
      automata_length = P.automata_length;
      edges_length = P.edges_length;
      line_is = λ k l. ap line_in (s.done k l) ∙ choose (get_or p k false) (get_or before (lines_place + k) 0) ∙ ap (λ (x : NodeLine). cond (get_or p k false) x no_line) (P.line_is k l) ∙ sym (kept_at p t.nodes k);
      automaton_is = λ m l. same-automaton m l ∙ P.automaton_is m l;
      edge_is = λ e l. ap edge_in (s.low e l) ∙ P.edge_is e l;
      used_is = same-used ∙ P.used_is;
    }
  where
    choose : (b : Bool) (w : ℕ) → line_in (cond b w 0) ≡ cond b (line_in w) no_line
    choose true w = refl
    choose false w = refl

    same-automaton : (m : ℕ) → m < automaton_limit → lent_automaton after m ≡ lent_automaton before m
    same-automaton m l = rw (s.high (heads_place + m) (omega arith), s.high (ranges_place + m) (omega arith), s.high (before_place + m) (omega arith)) refl

    same-used : lent_used after ≡ lent_used before
    same-used = rw (s.high counts_place (omega arith), s.high (counts_place + 1) (omega arith), s.high (counts_place + 2) (omega arith)) refl

-- The sheet -----------------------------------------------------------------------------------------------------------------------

pub rule_table_sheet : (t : Table) → sheet_of (rule_table t) ≡ rule_sheet (sheet_of t)
unfolding sheet_of rule_sheet
rule_table_sheet t = ap (λ (l : ℕ → Line). record { nodes = (sheet_of t).nodes; edges = (sheet_of t).edges; line = l; automaton = (sheet_of t).automaton; edge = (sheet_of t).edge }) (fun_ext line)
  where
    flags : List Bool
    flags = stands_of (sheet_of t)

    read : NodeLine → Line
    read x = line_of x.kind x.a x.b

    choose : (b : Bool) (x : NodeLine) → read (cond b x no_line) ≡ cond b (read x) F
    choose true x = refl
    choose false x = refl

    line : (k : ℕ) → read (get_or (kept flags t.nodes) k no_line) ≡ cond (get_or flags k false) (read (get_or t.nodes k no_line)) F
    line k = ap read (kept_at flags t.nodes k) ∙ choose (get_or flags k false) (get_or t.nodes k no_line)

-- The facts -----------------------------------------------------------------------------------------------------------------------

module _ (t : Table) (f : TableFacts t) (p : List Bool) where
  abbrev t' : Table
  t' = trimmed t p

  line_is : (k : ℕ) (b : Bool) → get_or p k false ≡ b → node_at t' k ≡ cond b (node_at t k) no_line
  line_is k b e = kept_at p t.nodes k ∙ ap (λ (z : Bool). cond z (node_at t k) no_line) e

  kept_facts : (k : ℕ) → NodeFacts t k → node_at t' k ≡ node_at t k → NodeFacts t' k
  kept_facts k n e =
      record {
        fact< = λ q. subst (λ (x : NodeLine). x.a < fact_limit) (sym e) (n.fact< (same letter_p q));
        not< = λ q. subst (λ (x : NodeLine). x.a < k) (sym e) (n.not< (same letter_n q));
        both< = λ q. subst (λ (x : NodeLine). (x.a < k) × (x.b < k)) (sym e) (n.both< (either letter_a letter_o q));
        modal = λ q. let m = n.modal (either letter_d letter_b q) in
            record {
              automaton< = subst (λ (x : NodeLine). x.a < t.used.automata) (sym e) m.automaton<;
              before≤ = subst (λ (x : NodeLine). (automaton_at t x.a).before ≤ k) (sym e) m.before≤;
              node< = subst (λ (x : NodeLine). x.b < k) (sym e) m.node<;
            };
      }
    where
      same : (c : ℕ) → (node_at t' k).kind ≡ c → (node_at t k).kind ≡ c
      same c q = subst (λ (x : NodeLine). x.kind ≡ c) e q

      either : (c d : ℕ) → ((node_at t' k).kind ≡ c) ⊎ ((node_at t' k).kind ≡ d) → ((node_at t k).kind ≡ c) ⊎ ((node_at t k).kind ≡ d)
      either c d (inl q) = inl (same c q)
      either c d (inr q) = inr (same d q)

  gone_facts : (k : ℕ) → node_at t' k ≡ no_line → NodeFacts t' k
  gone_facts k e = record { fact< = λ q. absurd (none letter_p q (omega arith)); not< = λ q. absurd (none letter_n q (omega arith)); both< = λ q. absurd (neither letter_a letter_o q (omega arith) (omega arith)); modal = λ q. absurd (neither letter_d letter_b q (omega arith) (omega arith)) }
    where
      none : (c : ℕ) → (node_at t' k).kind ≡ c → 0 < c → ⊥
      none c q l = let z : 0 ≡ c = subst (λ (x : NodeLine). x.kind ≡ c) e q in omega arith

      neither : (c d : ℕ) → ((node_at t' k).kind ≡ c) ⊎ ((node_at t' k).kind ≡ d) → 0 < c → 0 < d → ⊥
      neither c d (inl q) l m = none c q l
      neither c d (inr q) l m = none d q m

  node_facts : (k : ℕ) → k < t.used.nodes → (get_or p k false ≡ true) ⊎ (get_or p k false ≡ false) → NodeFacts t' k
  node_facts k l (inl e) = kept_facts k (f.node k l) (line_is k true e)
  node_facts k l (inr e) = gone_facts k (line_is k false e)

  no_node : (k : ℕ) → t.used.nodes ≤ k → (get_or p k false ≡ true) ⊎ (get_or p k false ≡ false) → node_at t' k ≡ no_line
  no_node k l (inl e) = line_is k true e ∙ f.no_node k l
  no_node k l (inr e) = line_is k false e

  automaton_facts : (m : ℕ) → AutomatonFacts t m → AutomatonFacts t' m
  automaton_facts m a =
      record {
        some_state = a.some_state;
        states≤ = a.states≤;
        start< = a.start<;
        accepting< = a.accepting<;
        edges≤ = a.edges≤;
        before< = a.before<;
        edge = a.edge;
      }

  pub trimmed_facts : TableFacts t'
  trimmed_facts =
      record {
        nodes_length = kept-length p t.nodes ∙ f.nodes_length;
        automata_length = f.automata_length;
        edges_length = f.edges_length;
        some_node = f.some_node;
        nodes≤ = f.nodes≤;
        automata≤ = f.automata≤;
        edges≤ = f.edges≤;
        node = λ k l. node_facts k l (bool_cases (get_or p k false));
        automaton = λ m l. automaton_facts m (f.automaton m l);
        no_node = λ k l. no_node k l (bool_cases (get_or p k false));
        no_automaton_past = f.no_automaton_past;
        no_edge_past = f.no_edge_past;
      }

-- THE NUMBERS WITHOUT THE LINES OF THE OTHER NODES ARE A TABLE THAT JUDGING MAY RELY ON
pub rule_lent : (t : Table) (numbers copy own : List ℕ) (flags : List Bool) → Lent t numbers → copy ≡ numbers → flags ≡ stands_of (sheet_of t) → (Packed t copy → Packed (trimmed t flags) own) → Lent (rule_table t) own
rule_lent t numbers copy own flags L e f trim =
    record {
      facts = trimmed_facts t L.facts (stands_of (sheet_of t));
      packed = subst (λ (p : List Bool). Packed (trimmed t p) own) f (trim (subst (Packed t) (sym e) L.packed));
    }
