-- What is read from lent numbers is what their table has: question 31's and question 10's checks in the terms of what the loops read.
use Prim.Native.Nat.{ℕ, ◌+◌, ◌-◌, ◌%◌, ◌≤◌, ◌<◌}
use mathlib.Core.Path.{◌≡◌, ap, sym, ◌∙◌}
use mathlib.Core.List.{List}
use mathlib.Core.Bool.{Bool, true, false}
use native.Mathlib.Omega.{arith}
use lib.ListN.{length, get_or, take, drop, set}
use lib.Seq.{length-take-le, get_or-take}
use lib.Dec.{eqb}
use Rattle.aldlf.specs.Constants.{node_limit, automaton_limit}
use Rattle.aldlf.specs.Sheet.{no_line, no_automaton}
use Rattle.aldlf.specs.declared.NodeLine.{NodeLine}
use Rattle.aldlf.specs.declared.Automaton.{Automaton}
use Rattle.aldlf.specs.declared.Used.{Used}
use Rattle.aldlf.specs.declared.Table.{Table}
use Rattle.packing.specs.Numbers.{lent_line, lent_automaton, lent_used}
use Rattle.packing.specs.Packed.{Packed}
use Rattle.sheet.specs.Questions.{plain_node, plain_from, plains, each, edges_of, each_state, whole, whole_of}
use Rattle.sheet.specs.Given.{node_fits, node_ok, nodes_fit, head_fits, edges_fit, automaton_ok, automata_fit, edges_before, nodes_before, nodes_end, all_owned, sized}
use Rattle.sheet.proofs.Asked.{plains_on}
use Rattle.sheet.proofs.Plain.{plains_rest}
use Rattle.sheet.proofs.Fits.{fits_at, edges_next, nodes_next, edges_last, no_head, by_edges}
use Rattle.sheet.proofs.Closed.{whole_on, whole_here, whole_end}

-- the automata of a table from number m on, for question 10
abbrev pub whole_from : Table → ℕ → ℕ
whole_from t m = whole t.edges (drop m (take t.used.automata t.automata))

module _ {t : Table} {numbers : List ℕ} (P : Packed t numbers) where
  pub sized_is : sized t ≡ true
  sized_is = rw (P.nodes_length, P.automata_length, P.edges_length)

  -- the flags of the nodes, one after the other
  pub flags_next : (p : List Bool) (k : ℕ) (x : NodeLine) (f : Bool) → k < node_limit → x ≡ lent_line numbers k → f ≡ plain_node p x → plain_from (drop k t.nodes) k p ≡ plains t.nodes
      → plain_from (drop (k + 1) t.nodes) (k + 1) (set p k f) ≡ plains t.nodes
  flags_next p k x f h ex ef same =
      ap (λ (b : Bool). plain_from (drop (k + 1) t.nodes) (k + 1) (set p k b)) (ef ∙ ap (plain_node p) (ex ∙ P.line_is k h))
      ∙ sym (plains_on t.nodes k p (omega (arith, P.nodes_length)))
      ∙ same

  -- automaton m, and what stands before the next
  module _ {x : Automaton} (m : ℕ) (h : m < automaton_limit) (ex : x ≡ lent_automaton numbers m) where
    automaton_read : x ≡ get_or t.automata m no_automaton
    automaton_read = ex ∙ P.automaton_is m h

    pub edges_passed : x.first + x.count ≡ edges_before t.automata (m + 1)
    edges_passed = ap (λ (z : Automaton). z.first + z.count) automaton_read ∙ edges_next t.automata m

    pub nodes_passed : x.before ≡ nodes_before t.automata (m + 1)
    nodes_passed = ap (λ (z : Automaton). z.before) automaton_read ∙ nodes_next t.automata m

  -- with the counts that are read
  module _ {u : Used} (read : u ≡ lent_used numbers) where
    pub counts_are : u ≡ t.used
    counts_are = read ∙ P.used_is

    -- the flags after the nodes in use stay as they are
    pub flags_all : (p : List Bool) (k : ℕ) → u.nodes ≤ k → k ≤ node_limit → ((i : ℕ) → k ≤ i → i < node_limit → get_or p i false ≡ false) → plain_from (drop k t.nodes) k p ≡ plains t.nodes
        → nodes_end t.nodes t.used.nodes ≡ true → p ≡ plains t.nodes
    flags_all p k h l f same e = sym (plains_rest t.nodes t.used.nodes k p P.nodes_length e (omega (arith, ap (λ (v : Used). v.nodes) counts_are)) l f) ∙ same

    pub ends_are : nodes_end t.nodes u.nodes ≡ true → nodes_end t.nodes t.used.nodes ≡ true
    ends_are e = ap (λ (v : Used). nodes_end t.nodes v.nodes) (sym counts_are) ∙ e

    pub node_read : (x : NodeLine) (y : Automaton) (k : ℕ) → x ≡ lent_line numbers k → y ≡ lent_automaton numbers (x.a % automaton_limit) → k < node_limit → u.automata ≤ automaton_limit
        → node_fits u.automata y.before k x ≡ node_ok t k
    node_read x y k ex ey h a =
        ap (λ (z : Automaton). node_fits u.automata z.before k x) (automaton_read (x.a % automaton_limit) (omega arith) ey)
        ∙ fits_at u.automata t.automata k x a
        ∙ ap (λ (z : NodeLine). node_fits u.automata (get_or t.automata z.a no_automaton).before k z) (ex ∙ P.line_is k h)
        ∙ ap (λ (v : Used). node_fits v.automata (get_or t.automata (get_or t.nodes k no_line).a no_automaton).before k (get_or t.nodes k no_line)) counts_are

    pub nodes_by : {b : Bool} → b ≡ each (node_ok t) u.nodes → b ≡ nodes_fit t
    unfolding nodes_fit
    nodes_by e = e ∙ ap (λ (v : Used). each (node_ok t) v.nodes) counts_are

    pub automata_by : {b : Bool} → b ≡ each (automaton_ok t) u.automata → b ≡ automata_fit t
    unfolding automata_fit
    automata_by e = e ∙ ap (λ (v : Used). each (automaton_ok t) v.automata) counts_are

    -- automaton m by its head and its edges
    module _ {x : Automaton} (m first above : ℕ) (h : m < automaton_limit) (ex : x ≡ lent_automaton numbers m) (ef : first ≡ edges_before t.automata m) (ea : above ≡ nodes_before t.automata m) where
      head_is : head_fits t.used first above (get_or t.automata m no_automaton) ≡ head_fits u first above x
      head_is = ap (λ (v : Used). head_fits v first above (get_or t.automata m no_automaton)) (sym counts_are) ∙ ap (head_fits u first above) (sym (automaton_read m h ex))

      pub head_no : head_fits u first above x ≡ false → automaton_ok t m ≡ false
      head_no e = no_head t m first above ef ea (head_is ∙ e)

      pub edges_say : (p : List Bool) (b : Bool) → p ≡ plains t.nodes → head_fits u first above x ≡ true → edges_fit t.edges p x ≡ b → automaton_ok t m ≡ b
      edges_say p b ep e k = by_edges t m first above ef ea p b ep (head_is ∙ e) (ap (edges_fit t.edges p) (sym (automaton_read m h ex)) ∙ k)

    -- the edges in use and those of the last automaton
    owned_by : (n : ℕ) → n ≡ edges_before t.automata u.automata → eqb u.edges n ≡ all_owned t
    owned_by n e = ap (eqb u.edges) e ∙ ap (λ (v : Used). eqb v.edges (edges_before t.automata v.automata)) counts_are

    pub none_owned : u.automata ≡ 0 → eqb u.edges 0 ≡ all_owned t
    none_owned h = owned_by 0 (sym (ap (edges_before t.automata) h))

    pub last_owned : (x : Automaton) (n : ℕ) → 1 ≤ u.automata → u.automata ≤ automaton_limit → x ≡ lent_automaton numbers (u.automata - 1) → n ≡ x.first + x.count → eqb u.edges n ≡ all_owned t
    last_owned x n low high ex en = owned_by n (en ∙ ap (λ (z : Automaton). z.first + z.count) (automaton_read (u.automata - 1) (omega arith) ex) ∙ sym (edges_last t.automata u.automata low))

    -- the automata before the first one that is not whole
    module _ (m : ℕ) (high : u.automata ≤ automaton_limit) (passed : whole_of t ≡ m + whole_from t m) where
      used : List Automaton
      used = take t.used.automata t.automata

      same_count : u.automata ≡ t.used.automata
      same_count = ap (λ (v : Used). v.automata) counts_are

      used-length : length used ≡ t.used.automata
      unfolding used
      used-length = length-take-le t.used.automata t.automata (omega (arith, same_count, P.automata_length))

      here : (x : Automaton) (b : Bool) → m < u.automata → x ≡ lent_automaton numbers m → each_state (edges_of t.edges x) x.states ≡ b → each_state (edges_of t.edges (get_or used m no_automaton)) (get_or used m no_automaton).states ≡ b
      unfolding used
      here x b h ex e =
          ap (λ (z : Automaton). each_state (edges_of t.edges z) z.states) (get_or-take t.used.automata t.automata m no_automaton (omega (arith, same_count)) ∙ sym (automaton_read m (omega arith) ex))
          ∙ e

      pub whole_next : (x : Automaton) → m < u.automata → x ≡ lent_automaton numbers m → each_state (edges_of t.edges x) x.states ≡ true → whole_of t ≡ (m + 1) + whole_from t (m + 1)
      unfolding used
      whole_next x h ex e = omega (arith, passed, whole_on t.edges used m (omega (arith, used-length, same_count)) (here x true h ex e))

      pub whole_stop : (x : Automaton) → m < u.automata → x ≡ lent_automaton numbers m → each_state (edges_of t.edges x) x.states ≡ false → m ≡ whole_of t
      unfolding used
      whole_stop x h ex e = omega (arith, passed, whole_here t.edges used m (omega (arith, used-length, same_count)) (here x false h ex e))

      pub whole_all : u.automata ≤ m → m ≡ whole_of t
      unfolding used
      whole_all h = omega (arith, passed, whole_end t.edges used m (omega (arith, used-length, same_count)))
