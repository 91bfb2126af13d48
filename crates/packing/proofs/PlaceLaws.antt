-- One number more in its place, one automaton more in its three, and all of a table's.
use Prim.Native.Nat.{ℕ, ◌+◌, ◌%◌, ◌<◌}
use native.Mathlib.Omega.{arith}
use mathlib.Core.Path.{◌≡◌, refl, ap, sym, subst, ◌∙◌}
use mathlib.Core.Logic.{◌⊎◌, inl, inr}
use mathlib.Core.Bool.{true, false}
use mathlib.Core.List.{List}
use lib.Dec.{eqb}
use lib.ListN.{length, get_or, set, length-set}
use lib.Seq.{get_or-set_same, get_or-set_other}
use borrow.Author.Tests.{eqb-true, eqb-false}
use Rattle.aldlf.specs.Constants.{node_limit, automaton_limit, edge_limit}
use Rattle.aldlf.specs.Sheet.{no_line, no_edge, no_automaton}
use Rattle.aldlf.specs.declared.Automaton.{Automaton}
use Rattle.aldlf.specs.declared.Used.{Used}
use Rattle.aldlf.specs.declared.Table.{Table}
use Rattle.aldlf.proofs.Bools.{bool_cases}
use Rattle.packing.specs.Numbers.{lines_place, heads_place, ranges_place, before_place, counts_place, places, edge_in, line_in, automaton_in, lent_automaton}
use Rattle.packing.specs.Packed.{Packed, Put, HeadPut, HeadsPut, UsedPut}

abbrev at : List ℕ → ℕ → ℕ
at l i = get_or l i 0

pub put_none : (P : ℕ → ℕ → Type 0) (place : ℕ) (l : List ℕ) → Put P place 0 l l
put_none P place l = record { same = refl; done = λ k h. absurd (omega arith); low = λ i h. refl; high = λ i h. refl }

pub put_next : (P : ℕ → ℕ → Type 0) (place n : ℕ) (before after : List ℕ) (v : ℕ) → Put P place n before after → place + n < length after → P n v → Put P place (n + 1) before (set after (place + n) v)
put_next P place n before after v K l p =
    record {
      same = length-set after (place + n) v ∙ K.same;
      done = λ k h. go k h (bool_cases (eqb k n));
      low = λ i h. get_or-set_other after (place + n) i v 0 (λ z. omega arith) ∙ K.low i h;
      high = λ i h. get_or-set_other after (place + n) i v 0 (λ z. omega arith) ∙ K.high i (omega arith);
    }
  where
    go : (k : ℕ) → k < n + 1 → (eqb k n ≡ true) ⊎ (eqb k n ≡ false) → P k (at (set after (place + n) v) (place + k))
    go k h (inl z) = subst (λ (j : ℕ). P j (at (set after (place + n) v) (place + j))) (sym (eqb-true k n z)) (subst (P n) (sym (get_or-set_same after (place + n) v 0 l)) p)
    go k h (inr z) = let ne = eqb-false k n z in subst (P k) (sym (get_or-set_other after (place + n) (place + k) v 0 (λ e. omega arith))) (K.done k (omega arith))

-- an automaton's three numbers in their places
module _ (x : Automaton) (m : ℕ) (before : List ℕ) (h r b : ℕ) (size : length before ≡ places) (l : m < automaton_limit) (is : automaton_in h r b ≡ x) where
  abbrev one : List ℕ
  one = set before (heads_place + m) h

  abbrev two : List ℕ
  two = set one (ranges_place + m) r

  abbrev all : List ℕ
  all = set two (before_place + m) b

  first : at all (heads_place + m) ≡ h
  first = get_or-set_other two (before_place + m) (heads_place + m) b 0 (λ e. omega arith) ∙ get_or-set_other one (ranges_place + m) (heads_place + m) r 0 (λ e. omega arith) ∙ get_or-set_same before (heads_place + m) h 0 (omega arith)

  second : at all (ranges_place + m) ≡ r
  second = get_or-set_other two (before_place + m) (ranges_place + m) b 0 (λ e. omega arith) ∙ get_or-set_same one (ranges_place + m) r 0 (omega (arith, length-set before (heads_place + m) h))

  third : at all (before_place + m) ≡ b
  third = get_or-set_same two (before_place + m) b 0 (omega (arith, length-set before (heads_place + m) h, length-set one (ranges_place + m) r))

  pub head_put : HeadPut x m before (set (set (set before (heads_place + m) h) (ranges_place + m) r) (before_place + m) b)
  head_put =
      record {
        same = length-set two (before_place + m) b ∙ length-set one (ranges_place + m) r ∙ length-set before (heads_place + m) h;
        here =
            ap (λ (z : ℕ). automaton_in z (at all (ranges_place + m)) (at all (before_place + m))) first
            ∙ ap (λ (z : ℕ). automaton_in h z (at all (before_place + m))) second
            ∙ ap (λ (z : ℕ). automaton_in h r z) third
            ∙ is;
        others = λ i ne1 ne2 ne3. get_or-set_other two (before_place + m) i b 0 ne3 ∙ get_or-set_other one (ranges_place + m) i r 0 ne2 ∙ get_or-set_other before (heads_place + m) i h 0 ne1;
      }

pub heads_none : (automata : List Automaton) (l : List ℕ) → HeadsPut automata 0 l l
heads_none automata l = record { same = refl; done = λ m h. absurd (omega arith); low = λ i h. refl; high = λ i h. refl }

pub heads_next : (automata : List Automaton) (n : ℕ) (before after last : List ℕ) → n < automaton_limit → HeadsPut automata n before after → HeadPut (get_or automata n no_automaton) n after last → HeadsPut automata (n + 1) before last
heads_next automata n before after last l K H =
    record {
      same = H.same ∙ K.same;
      done = λ m h. go m h (bool_cases (eqb m n));
      low = λ i h. H.others i (λ e. omega arith) (λ e. omega arith) (λ e. omega arith) ∙ K.low i h;
      high = λ i h. H.others i (λ e. omega arith) (λ e. omega arith) (λ e. omega arith) ∙ K.high i h;
    }
  where
    go : (m : ℕ) → m < n + 1 → (eqb m n ≡ true) ⊎ (eqb m n ≡ false) → lent_automaton last m ≡ get_or automata m no_automaton
    go m h (inl z) = subst (λ (j : ℕ). lent_automaton last j ≡ get_or automata j no_automaton) (sym (eqb-true m n z)) H.here
    go m h (inr z) = let ne = eqb-false m n z in
        ap (λ (y : ℕ). automaton_in y (at last (ranges_place + m)) (at last (before_place + m))) (H.others (heads_place + m) (λ e. omega arith) (λ e. omega arith) (λ e. omega arith))
        ∙ ap (λ (y : ℕ). automaton_in (at after (heads_place + m)) y (at last (before_place + m))) (H.others (ranges_place + m) (λ e. omega arith) (λ e. omega arith) (λ e. omega arith))
        ∙ ap (λ (y : ℕ). automaton_in (at after (heads_place + m)) (at after (ranges_place + m)) y) (H.others (before_place + m) (λ e. omega arith) (λ e. omega arith) (λ e. omega arith))
        ∙ K.done m (omega arith)

-- the counts in their places
module _ (u : Used) (before : List ℕ) (size : length before ≡ places) (n : u.nodes < 256) (a : u.automata < 256) (e : u.edges < 65536) where
  abbrev nodes_put : List ℕ
  nodes_put = set before counts_place u.nodes

  abbrev automata_put : List ℕ
  automata_put = set nodes_put (counts_place + 1) u.automata

  abbrev edges_put : List ℕ
  edges_put = set automata_put (counts_place + 2) u.edges

  abbrev counted : (n a e : ℕ) → Used
  counted n a e = record { nodes = n; automata = a; edges = e }

  nodes_is : at edges_put counts_place ≡ u.nodes
  nodes_is = get_or-set_other automata_put (counts_place + 2) counts_place u.edges 0 (λ z. omega arith) ∙ get_or-set_other nodes_put (counts_place + 1) counts_place u.automata 0 (λ z. omega arith) ∙ get_or-set_same before counts_place u.nodes 0 (omega arith)

  automata_is : at edges_put (counts_place + 1) ≡ u.automata
  automata_is = get_or-set_other automata_put (counts_place + 2) (counts_place + 1) u.edges 0 (λ z. omega arith) ∙ get_or-set_same nodes_put (counts_place + 1) u.automata 0 (omega (arith, length-set before counts_place u.nodes))

  edges_is : at edges_put (counts_place + 2) ≡ u.edges
  edges_is = get_or-set_same automata_put (counts_place + 2) u.edges 0 (omega (arith, length-set before counts_place u.nodes, length-set nodes_put (counts_place + 1) u.automata))

  pub used_put : UsedPut u before (set (set (set before counts_place u.nodes) (counts_place + 1) u.automata) (counts_place + 2) u.edges)
  used_put =
      record {
        same = length-set automata_put (counts_place + 2) u.edges ∙ length-set nodes_put (counts_place + 1) u.automata ∙ length-set before counts_place u.nodes;
        here =
            ap (λ (x : ℕ). counted x (at edges_put (counts_place + 1) % 256) (at edges_put (counts_place + 2) % 65536)) (omega (arith, nodes_is))
            ∙ ap (λ (x : ℕ). counted u.nodes x (at edges_put (counts_place + 2) % 65536)) (omega (arith, automata_is))
            ∙ ap (λ (x : ℕ). counted u.nodes u.automata x) (omega (arith, edges_is));
        low = λ i l. get_or-set_other automata_put (counts_place + 2) i u.edges 0 (λ z. omega arith) ∙ get_or-set_other nodes_put (counts_place + 1) i u.automata 0 (λ z. omega arith) ∙ get_or-set_other before counts_place i u.nodes 0 (λ z. omega arith);
      }

-- a table whose pieces are all in their places
pub all_packed : (t : Table) (first edges lines heads last : List ℕ) → length first ≡ places → length t.nodes ≡ node_limit → length t.automata ≡ automaton_limit → length t.edges ≡ edge_limit
    → Put (λ (e p : ℕ). edge_in p ≡ get_or t.edges e no_edge) 0 edge_limit first edges → Put (λ (k p : ℕ). line_in p ≡ get_or t.nodes k no_line) lines_place node_limit edges lines
    → HeadsPut t.automata automaton_limit lines heads → UsedPut t.used heads last → Packed t last
all_packed t first edges lines heads last size ln la le E L H U =
    record {
      size = U.same ∙ H.same ∙ L.same ∙ E.same ∙ size;
      nodes_length = ln;
      automata_length = la;
      edges_length = le;
      line_is = λ k l. ap line_in (U.low (lines_place + k) (omega arith) ∙ H.low (lines_place + k) (omega arith)) ∙ L.done k l;
      automaton_is = λ m l.
          ap (λ (y : ℕ). automaton_in y (at last (ranges_place + m)) (at last (before_place + m))) (U.low (heads_place + m) (omega arith))
          ∙ ap (λ (y : ℕ). automaton_in (at heads (heads_place + m)) y (at last (before_place + m))) (U.low (ranges_place + m) (omega arith))
          ∙ ap (λ (y : ℕ). automaton_in (at heads (heads_place + m)) (at heads (ranges_place + m)) y) (U.low (before_place + m) (omega arith))
          ∙ H.done m l;
      edge_is = λ e l. ap edge_in (U.low e (omega arith) ∙ H.low e (omega arith) ∙ L.low e (omega arith)) ∙ subst (λ (i : ℕ). edge_in (at edges i) ≡ get_or t.edges e no_edge) (omega arith) (E.done e l);
      used_is = U.here;
    }
