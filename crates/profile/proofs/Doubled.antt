-- The new lines of a table that some sheet gives: what stands at 2k, at 2k+1, at the last place and beyond it, letter by letter.
use Prim.Native.Nat.{ℕ, zero, suc, ◌+◌, ◌*◌, ◌-◌, ◌≤◌, ◌<◌}
use native.Mathlib.Omega.{arith}
use native.Mathlib.Decide.{le_ind}
use mathlib.Core.Path.{◌≡◌, refl, sym, ap, ◌∙◌}
use mathlib.Core.List.{List}
use mathlib.Core.Logic.{◌⊎◌, inl, inr}
use lib.ListN.{length, get_or, set, length-set, replicate, length-replicate, get_or-replicate, get_or-eq_default, get_or-map}
use lib.Seq.{get_or-set_same, get_or-set_other}
use Rattle.aldlf.specs.Constants.{node_limit, fact_limit, letter_t, letter_f, letter_p, letter_n, letter_a, letter_o, letter_d, letter_b}
use Rattle.aldlf.specs.Sheet.{no_line, no_edge, no_automaton}
use Rattle.aldlf.specs.declared.NodeLine.{NodeLine}
use Rattle.aldlf.specs.declared.Table.{Table}
use Rattle.sheet.proofs.Bools.{split}
use Rattle.sheet.proofs.Grown.{NodeOk, ok_t, ok_f, ok_p, ok_n, ok_a, ok_o, ok_d, ok_b, node, auto, edge}
use Rattle.profile.specs.Profile.{line, exchanged, kept_line, opposite_line, kept_in, opposite_in, doubled, profile_lines, kept_automaton, kept_edge, profile_of}

module _ (ns : List NodeLine) where
  pub doubled_long : (k : ℕ) → length (doubled ns k) ≡ node_limit
  unfolding doubled
  doubled_long zero = length-replicate node_limit no_line
  doubled_long (suc k) = simp length-set (doubled_long k)

  -- one line more keeps what stands below 2k and from 2k+2 on
  step_other : (k i : ℕ) → (i ≡ 2 * k → ⊥) → (i ≡ 2 * k + 1 → ⊥) → get_or (doubled ns (suc k)) i no_line ≡ get_or (doubled ns k) i no_line
  unfolding doubled
  step_other k i p q =
      let out = doubled ns k in
      let x = get_or ns k no_line in
      get_or-set_other (set out (2 * k) (kept_in out x)) (2 * k + 1) i (opposite_in k out x) no_line q ∙ get_or-set_other out (2 * k) i (kept_in out x) no_line p

  -- what stands below 2k is never written again
  pub doubled_keeps : (k n i : ℕ) → k ≤ n → i < 2 * k → get_or (doubled ns n) i no_line ≡ get_or (doubled ns k) i no_line
  doubled_keeps k n i h l =
      le_ind (λ n. get_or (doubled ns n) i no_line ≡ get_or (doubled ns k) i no_line) refl (λ n w q. step_other n i (λ e. omega arith) (λ e. omega arith) ∙ q) n h

  -- from 2k on nothing stands yet
  pub doubled_none : (k i : ℕ) → 2 * k ≤ i → get_or (doubled ns k) i no_line ≡ no_line
  unfolding doubled
  doubled_none zero i h = empty (split node_limit i)
    where
      empty : (node_limit ≤ i) ⊎ (i < node_limit) → get_or (replicate node_limit no_line) i no_line ≡ no_line
      empty (inl w) = get_or-eq_default (replicate node_limit no_line) no_line w
      empty (inr w) = get_or-replicate node_limit i no_line no_line w
  doubled_none (suc k) i h = step_other k i (λ e. omega arith) (λ e. omega arith) ∙ doubled_none k i (omega arith)

  -- the two lines of old line k
  at_first : (n k : ℕ) → k < n → 2 * n ≤ node_limit → get_or (doubled ns n) (2 * k) no_line ≡ kept_in (doubled ns k) (get_or ns k no_line)
  unfolding doubled
  at_first n k l r =
      let out = doubled ns k in
      let x = get_or ns k no_line in
      let long = doubled_long k in
      doubled_keeps (suc k) n (2 * k) l (omega arith)
      ∙ get_or-set_other (set out (2 * k) (kept_in out x)) (2 * k + 1) (2 * k) (opposite_in k out x) no_line (λ e. omega arith)
      ∙ get_or-set_same out (2 * k) (kept_in out x) no_line (omega arith)

  at_second : (n k : ℕ) → k < n → 2 * n ≤ node_limit → get_or (doubled ns n) (2 * k + 1) no_line ≡ opposite_in k (doubled ns k) (get_or ns k no_line)
  unfolding doubled
  at_second n k l r =
      let out = doubled ns k in
      let x = get_or ns k no_line in
      let long = length-set out (2 * k) (kept_in out x) ∙ doubled_long k in
      doubled_keeps (suc k) n (2 * k + 1) l (omega arith)
      ∙ get_or-set_same (set out (2 * k) (kept_in out x)) (2 * k + 1) (opposite_in k out x) no_line (omega arith)

-- the lines of the profile below the last one, the last one, and the places not in use
module _ (t : Table) where
  below_last : (i : ℕ) → i < 2 * t.used.nodes → node (profile_of t) i ≡ get_or (doubled t.nodes t.used.nodes) i no_line
  unfolding profile_of profile_lines
  below_last i l = get_or-set_other (doubled t.nodes t.used.nodes) (2 * t.used.nodes) i _ no_line (λ e. omega arith)

  pub last_line : 1 ≤ t.used.nodes → 2 * t.used.nodes + 1 ≤ node_limit → node (profile_of t) (2 * t.used.nodes) ≡ node (profile_of t) (2 * (t.used.nodes - 1))
  unfolding profile_of profile_lines
  last_line some r =
      let long = doubled_long t.nodes t.used.nodes in
      get_or-set_same (doubled t.nodes t.used.nodes) (2 * t.used.nodes) _ no_line (omega arith) ∙ sym (below_last (2 * (t.used.nodes - 1)) (omega arith))

  pub no_lines : (i : ℕ) → 2 * t.used.nodes + 1 ≤ i → node (profile_of t) i ≡ no_line
  unfolding profile_of profile_lines
  no_lines i l = get_or-set_other (doubled t.nodes t.used.nodes) (2 * t.used.nodes) i _ no_line (λ e. omega arith) ∙ doubled_none t.nodes t.used.nodes i (omega arith)

  pub lines_long : length (profile_of t).nodes ≡ node_limit
  unfolding profile_of profile_lines
  lines_long = simp length-set (doubled_long t.nodes t.used.nodes)

  -- automata and edges, each in its place
  pub kept-automaton : (m : ℕ) → auto (profile_of t) m ≡ kept_automaton (auto t m)
  unfolding profile_of
  kept-automaton m = get_or-map kept_automaton t.automata m no_automaton

  pub kept-edge : (e : ℕ) → edge (profile_of t) e ≡ kept_edge (edge t e)
  unfolding profile_of
  kept-edge e = get_or-map kept_edge t.edges e no_edge

-- Old line k and its two new lines in the table u, letter by letter.
pub data Pair (t u : Table) (k : ℕ) : Type 0 where
  pair_t : node t k ≡ line letter_t 0 0 → node u (2 * k) ≡ line letter_t 0 0 → node u (2 * k + 1) ≡ line letter_f 0 0 → Pair t u k
  pair_f : node t k ≡ line letter_f 0 0 → node u (2 * k) ≡ line letter_f 0 0 → node u (2 * k + 1) ≡ line letter_t 0 0 → Pair t u k
  pair_p : (f : ℕ) → f < fact_limit → node t k ≡ line letter_p f 0 → node u (2 * k) ≡ line letter_p f 0 → node u (2 * k + 1) ≡ line letter_n (2 * k) 0 → Pair t u k
  pair_n : (a : ℕ) → a < k → node t k ≡ line letter_n a 0 → node u (2 * k) ≡ node u (2 * a + 1) → node u (2 * k + 1) ≡ node u (2 * a) → Pair t u k
  pair_a : (a b : ℕ) → a < k → b < k → node t k ≡ line letter_a a b → node u (2 * k) ≡ line letter_a (2 * a) (2 * b) → node u (2 * k + 1) ≡ line letter_o (2 * a + 1) (2 * b + 1) → Pair t u k
  pair_o : (a b : ℕ) → a < k → b < k → node t k ≡ line letter_o a b → node u (2 * k) ≡ line letter_o (2 * a) (2 * b) → node u (2 * k + 1) ≡ line letter_a (2 * a + 1) (2 * b + 1) → Pair t u k
  pair_d : (m a : ℕ) → m < t.used.automata → (auto t m).before ≤ k → a < k → node t k ≡ line letter_d m a → node u (2 * k) ≡ line letter_d m (2 * a) → node u (2 * k + 1) ≡ line letter_b m (2 * a + 1) → Pair t u k
  pair_b : (m a : ℕ) → m < t.used.automata → (auto t m).before ≤ k → a < k → node t k ≡ line letter_b m a → node u (2 * k) ≡ line letter_b m (2 * a) → node u (2 * k + 1) ≡ line letter_d m (2 * a + 1) → Pair t u k

line_of : (x : NodeLine) (c a b : ℕ) → x.kind ≡ c → x.a ≡ a → x.b ≡ b → x ≡ line c a b
line_of x c a b p q r = λ j. record { kind = p j; a = q j; b = r j }

module _ (t : Table) (r : 2 * t.used.nodes + 1 ≤ node_limit) (k : ℕ) (l : k < t.used.nodes) where
  abbrev u : Table
  u = profile_of t

  abbrev out : List NodeLine
  out = doubled t.nodes k

  first_is : (x y : NodeLine) → node t k ≡ x → kept_in out x ≡ y → node u (2 * k) ≡ y
  first_is x y e f = below_last t (2 * k) (omega arith) ∙ at_first t.nodes t.used.nodes k l (omega arith) ∙ ap (kept_in out) e ∙ f

  second_is : (x y : NodeLine) → node t k ≡ x → opposite_in k out x ≡ y → node u (2 * k + 1) ≡ y
  second_is x y e f = below_last t (2 * k + 1) (omega arith) ∙ at_second t.nodes t.used.nodes k l (omega arith) ∙ ap (opposite_in k out) e ∙ f

  -- what stands below 2k already is what stands there in the end
  so_far : (i : ℕ) → i < 2 * k → get_or out i no_line ≡ node u i
  so_far i h = sym (below_last t i (omega arith) ∙ doubled_keeps t.nodes k t.used.nodes i (omega arith) h)

  -- THE TWO LINES of old line k
  pub pair_of : NodeOk t.used.automata t.automata k (node t k) → Pair t u k
  unfolding kept_in opposite_in kept_line opposite_line exchanged
  pair_of (ok_t e p q) = let x = line_of (node t k) letter_t 0 0 e p q in pair_t x (first_is _ _ x refl) (second_is _ _ x refl)
  pair_of (ok_f e p q) = let x = line_of (node t k) letter_f 0 0 e p q in pair_f x (first_is _ _ x refl) (second_is _ _ x refl)
  pair_of (ok_p e p q) = let x = line_of (node t k) letter_p (node t k).a 0 e refl q in pair_p (node t k).a p x (first_is _ _ x refl) (second_is _ _ x refl)
  pair_of (ok_n e p q) =
      let a = (node t k).a in
      let x = line_of (node t k) letter_n a 0 e refl q in
      pair_n a p x (first_is _ _ x (so_far (2 * a + 1) (omega arith))) (second_is _ _ x (so_far (2 * a) (omega arith)))
  pair_of (ok_a e p q) = let x = line_of (node t k) letter_a (node t k).a (node t k).b e refl refl in pair_a (node t k).a (node t k).b p q x (first_is _ _ x refl) (second_is _ _ x refl)
  pair_of (ok_o e p q) = let x = line_of (node t k) letter_o (node t k).a (node t k).b e refl refl in pair_o (node t k).a (node t k).b p q x (first_is _ _ x refl) (second_is _ _ x refl)
  pair_of (ok_d e p n q) = let x = line_of (node t k) letter_d (node t k).a (node t k).b e refl refl in pair_d (node t k).a (node t k).b p n q x (first_is _ _ x refl) (second_is _ _ x refl)
  pair_of (ok_b e p n q) = let x = line_of (node t k) letter_b (node t k).a (node t k).b e refl refl in pair_b (node t k).a (node t k).b p n q x (first_is _ _ x refl) (second_is _ _ x refl)
