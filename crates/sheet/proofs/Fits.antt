-- Question 31's checks in the terms of the code's branches: the node that a D or B line names, and what stands before an automaton.
use Prim.Native.Nat.{ℕ, zero, suc, ◌+◌, ◌-◌, ◌%◌, ◌^◌, ◌≤◌, ◌<◌}
use mathlib.Core.Path.{◌≡◌, ap, subst}
use mathlib.Core.List.{List}
use mathlib.Core.Bool.{Bool, true, false, not, ◌&&◌, and-false}
use mathlib.Core.Logic.{◌⊎◌, inl, inr}
use native.Mathlib.Numerals.{add-one}
use native.Mathlib.Nat.{mod-eq_of_lt, lt_of_lt_of_le}
use native.Mathlib.Omega.{arith}
use lib.ListN.{get_or}
use lib.Dec.{ltb, leb, eqb}
use borrow.Author.Tests.{le-ltb, leb-true}
use Rattle.aldlf.specs.Constants.{node_limit, automaton_limit, state_limit, edge_limit}
use Rattle.aldlf.specs.Sheet.{no_automaton}
use Rattle.aldlf.specs.declared.NodeLine.{NodeLine}
use Rattle.aldlf.specs.declared.Automaton.{Automaton}
use Rattle.aldlf.specs.declared.Used.{Used}
use Rattle.aldlf.specs.declared.Table.{Table}
use Rattle.sheet.specs.Questions.{plains, whole_of}
use Rattle.sheet.specs.Given.{node_fits, head_fits, edges_fit, edges_before, nodes_before, automaton_ok, sized, used_fits, nodes_fit, automata_fit, nodes_end, automata_end, edges_end, all_owned, well_formed}
use Rattle.sheet.specs.Room.{CountsFit}
use Rattle.sheet.proofs.Bools.{both, split}
use Rattle.sheet.proofs.Asked.{yes_is}

-- where the line names no automaton of the table, it does not matter which one is looked at
pub fits_at : (n : ℕ) (ms : List Automaton) (i : ℕ) (x : NodeLine) → n ≤ automaton_limit → node_fits n (get_or ms (x.a % automaton_limit) no_automaton).before i x ≡ node_fits n (get_or ms x.a no_automaton).before i x
unfolding node_fits
fits_at n ms i x h = go (split n x.a)
  where
    go : (n ≤ x.a) ⊎ (x.a < n) → node_fits n (get_or ms (x.a % automaton_limit) no_automaton).before i x ≡ node_fits n (get_or ms x.a no_automaton).before i x
    go (inl k) = rw (le-ltb x.a n k)
    go (inr k) = ap (λ (m : ℕ). node_fits n (get_or ms m no_automaton).before i x) (mod-eq_of_lt (lt_of_lt_of_le k h))

-- the edges and the nodes before the next automaton
pub edges_next : (ms : List Automaton) (m : ℕ) → (get_or ms m no_automaton).first + (get_or ms m no_automaton).count ≡ edges_before ms (m + 1)
edges_next ms m = rw add-one

pub nodes_next : (ms : List Automaton) (m : ℕ) → (get_or ms m no_automaton).before ≡ nodes_before ms (m + 1)
nodes_next ms m = rw add-one

-- and before the first one that is not there
pub edges_last : (ms : List Automaton) (n : ℕ) → 1 ≤ n → edges_before ms n ≡ (get_or ms (n - 1) no_automaton).first + (get_or ms (n - 1) no_automaton).count
edges_last ms zero h = absurd (omega arith)
edges_last ms (suc n) h = ap (λ (k : ℕ). (get_or ms k no_automaton).first + (get_or ms k no_automaton).count) e
  where
    e : n ≡ suc n - 1
    e = omega arith

pub nodes_last : (ms : List Automaton) (n : ℕ) → 1 ≤ n → nodes_before ms n ≡ (get_or ms (n - 1) no_automaton).before
nodes_last ms zero h = absurd (omega arith)
nodes_last ms (suc n) h = ap (λ (k : ℕ). (get_or ms k no_automaton).before) e
  where
    e : n ≡ suc n - 1
    e = omega arith

-- the edges of an automaton whose head fits are among those in use
pub head_end : (u : Used) (edges nodes : ℕ) (x : Automaton) → head_fits u edges nodes x ≡ true → x.first + x.count ≤ u.edges
unfolding head_fits
head_end u edges nodes x h =
    let low = leb 1 x.states && leb x.states state_limit && ltb x.start.0 x.states && ltb x.accepting (2 ^ x.states) && eqb x.first edges in
    let end = leb (x.first + x.count) u.edges in
    let a = both (low && end && leb nodes x.before) (ltb x.before u.nodes) h in
    let b = both (low && end) (leb nodes x.before) a.0 in
    leb-true (x.first + x.count) u.edges (both low end b.0).1

-- an automaton by its head and its edges
module _ (t : Table) (m first above : ℕ) (ef : first ≡ edges_before t.automata m) (ea : above ≡ nodes_before t.automata m) where
  pub no_head : head_fits t.used first above (get_or t.automata m no_automaton) ≡ false → automaton_ok t m ≡ false
  no_head h = rw (← ef, ← ea, h)

  pub by_edges : (p : List Bool) (b : Bool) → p ≡ plains t.nodes → head_fits t.used first above (get_or t.automata m no_automaton) ≡ true → edges_fit t.edges p (get_or t.automata m no_automaton) ≡ b → automaton_ok t m ≡ b
  by_edges p b e h k = rw (← ef, ← ea, h, ← e) k

pub counts_fit : (u : Used) → used_fits u ≡ true → CountsFit u
unfolding used_fits
counts_fit u h =
    let x = both (leb 1 u.nodes && leb u.nodes node_limit && leb u.automata automaton_limit) (leb u.edges edge_limit) h in
    let y = both (leb 1 u.nodes && leb u.nodes node_limit) (leb u.automata automaton_limit) x.0 in
    let z = both (leb 1 u.nodes) (leb u.nodes node_limit) y.0 in
    record { some = leb-true 1 u.nodes z.0; nodes≤ = leb-true u.nodes node_limit z.1; automata≤ = leb-true u.automata automaton_limit y.1; edges≤ = leb-true u.edges edge_limit x.1 }

-- the same of the counts that a table's numbers have, where those that were read pass
pub counts_lent : {u v : Used} {b : Bool} → u ≡ v → b ≡ used_fits u → not b ≡ false → CountsFit v
counts_lent {u} e h k = subst CountsFit e (counts_fit u (yes_is h k))

-- the checks in their order, for a table whose arrays are as long as their types say and whose counts are u
module _ (t : Table) (u : Used) (s : sized t ≡ true) (eu : u ≡ t.used) where
  pub no_counts : used_fits u ≡ false → false ≡ well_formed t
  unfolding well_formed
  no_counts h = let y = rw eu at h in rw (s, y)

  pub no_nodes : used_fits u ≡ true → nodes_fit t ≡ false → false ≡ well_formed t
  unfolding well_formed
  no_nodes h k = let y = rw eu at h in rw (s, y, k)

  pub no_ends : used_fits u ≡ true → nodes_fit t ≡ true → nodes_end t.nodes u.nodes ≡ false → false ≡ well_formed t
  unfolding well_formed
  no_ends h k n = let y = rw eu at h in let z = rw eu at n in rw (s, y, k, z, and-false (automata_fit t))

  pub no_automata : used_fits u ≡ true → nodes_fit t ≡ true → automata_fit t ≡ false → false ≡ well_formed t
  unfolding well_formed
  no_automata h k m = let y = rw eu at h in rw (s, y, k, m)

  pub by_ends : used_fits u ≡ true → nodes_fit t ≡ true → nodes_end t.nodes u.nodes ≡ true → automata_fit t ≡ true → (b c o : Bool) (w : ℕ) → b ≡ automata_end t.automata u.automata → c ≡ edges_end t.edges u.edges → o ≡ all_owned t → w ≡ whole_of t
      → (b && c && o && leb u.automata w) ≡ well_formed t
  unfolding well_formed
  by_ends h k n m b c o w eb ec eo ew = let y = rw eu at h in let z = rw eu at n in rw (s, y, k, m, z, eb, ec, eo, ew, eu)
