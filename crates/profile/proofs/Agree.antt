-- THE PROFILE MEANS THE SAME: at every entry of every log new node 2k agrees with old node k, 2k+1 with its opposite, and the rule with the rule.
use Prim.Native.Nat.{ℕ, ◌+◌, ◌*◌, ◌-◌, ◌≤◌, ◌<◌}
use native.Mathlib.Omega.{arith}
use mathlib.Core.Path.{◌≡◌, refl, sym, ap, ap₂, subst, ◌∙◌}
use mathlib.Core.Logic.{◌↔◌}
use mathlib.Core.Bool.{Bool, true, false, not, ◌&&◌, ◌||◌, false≢true, not-not}
use mathlib.Core.List.{List}
use lib.ListN.{length}
use borrow.Author.Tests.{not-true}
use Rattle.aldlf.specs.Sheet.{Sheet, Line, Automaton, bit, dir_of, line_of, sheet_of}
use Rattle.aldlf.specs.Stands.{EdgeOf}
use Rattle.aldlf.specs.Meaning.{Holds}
use Rattle.aldlf.specs.Verdict.{reached, facing, goal, verdict}
use Rattle.aldlf.specs.Outcomes.{held_in}
use Rattle.aldlf.specs.declared.Automaton as automaton
use Rattle.aldlf.specs.declared.Edge as edges
use Rattle.aldlf.specs.declared.Table.{Table}
use Rattle.aldlf.proofs.Bools.{not_intro, count_cong}
use Rattle.aldlf.proofs.Plain.{verdict_iff}
use Rattle.aldlf.proofs.Across.{SameEdge, reached_across}
use Rattle.aldlf.proofs.ByLine.{line_says, Known, verdict-line}
use Rattle.sheet.proofs.Grown.{node, auto}
use Rattle.sheet.proofs.Decided.{wf_no}
use Rattle.sheet.proofs.Facts.{table_facts}
use Rattle.sheet.proofs.Sound.{names_earlier}
use Rattle.profile.specs.Profile.{line, profile_of, profile_number}
use Rattle.profile.proofs.Doubled.{last_line, kept-automaton, kept-edge, Pair, pair_t, pair_f, pair_p, pair_n, pair_a, pair_o, pair_d, pair_b}
use Rattle.profile.proofs.Given.{strong, Accepted, accepted_of, pair_at, profile_wf}
use Rattle.profile.proofs.Known.{line_is, line_copied, tests_known}

not-and : (a b : Bool) → not a || not b ≡ not (a && b)
not-and true b = refl
not-and false b = refl

not-or : (a b : Bool) → not a && not b ≡ not (a || b)
not-or true b = refl
not-or false b = refl

-- the automata are the same ones, and the edges but for the nodes that they name
module _ (t : Table) where
  automata_same : (m : ℕ) → (sheet_of (profile_of t)).automaton m ≡ (sheet_of t).automaton m
  unfolding sheet_of
  automata_same m =
      ap (λ (x : automaton.Automaton). record { states = x.states; start = x.start.0; accepts = λ s. bit x.accepting s; first = x.first; count = x.count }) (kept-automaton t m)

  edges_same : (e : ℕ) → SameEdge (sheet_of (profile_of t)) (sheet_of t) e
  unfolding sheet_of
  edges_same e =
      let p = kept-edge t e in
      record { from = ap (λ (x : edges.Edge). x.from.0) p; dir = ap (λ (x : edges.Edge). dir_of x.dir) p; to = ap (λ (x : edges.Edge). x.to.0) p }

  edge_names : (e : ℕ) → ((sheet_of (profile_of t)).edge e).test ≡ 2 * ((sheet_of t).edge e).test
  unfolding sheet_of
  edge_names e = ap (λ (x : edges.Edge). x.test.0) (kept-edge t e)

module _ (t : Table) (R : Accepted t) (log : List ℕ) where
  abbrev S : Sheet
  S = sheet_of t

  abbrev S' : Sheet
  S' = sheet_of (profile_of t)

  abbrev v : ℕ → ℕ → Bool
  v = verdict S log

  abbrev v' : ℕ → ℕ → Bool
  v' = verdict S' log

  abbrev n : ℕ
  n = t.used.nodes

  -- the verdict on an old and on a new node, by its line
  old : (k : ℕ) (l : Line) → k < n → S.line k ≡ l → (i : ℕ) → i < length log → v k i ≡ line_says S log v l i
  old k l h e i b = verdict-line S log k l e (subst (Known S k) e (names_earlier t (table_facts t R.given) k)) i b

  new : (j : ℕ) (l : Line) → j < 2 * n + 1 → S'.line j ≡ l → (i : ℕ) → i < length log → v' j i ≡ line_says S' log v' l i
  new j l h e i b = verdict-line S' log j l e (subst (Known S' j) e (names_earlier (profile_of t) (table_facts (profile_of t) (wf_no (profile_of t) (profile_wf t R))) j)) i b

  -- a line that is repeated says the same
  copied : (j j' : ℕ) → j < 2 * n + 1 → j' < 2 * n + 1 → node (profile_of t) j ≡ node (profile_of t) j' → (i : ℕ) → i < length log → v' j i ≡ v' j' i
  copied j j' h h' e i b = new j (S'.line j) h refl i b ∙ ap (λ (l : Line). line_says S' log v' l i) (lines e) ∙ sym (new j' (S'.line j') h' refl i b)
    where
      lines : node (profile_of t) j ≡ node (profile_of t) j' → S'.line j ≡ S'.line j'
      lines = line_copied (profile_of t) j j'

  -- what agreeing is, of old node k: at every entry
  Agree : ℕ → Type 0
  Agree k = k < n → (i : ℕ) → i < length log → (v' (2 * k) i ≡ v k i) × (v' (2 * k + 1) i ≡ not (v k i))

  module _ (k : ℕ) (l : k < n) (rec : (j : ℕ) → j < k → Agree j) where
    same_at : (a i : ℕ) → i < length log → a < k → v' (2 * a) i ≡ v a i
    unfolding Agree
    same_at a i b h = (rec a h (omega arith) i b).0

    turned_at : (a i : ℕ) → i < length log → a < k → v' (2 * a + 1) i ≡ not (v a i)
    unfolding Agree
    turned_at a i b h = (rec a h (omega arith) i b).1

    -- the walks of m are the same ones: goals that agree are reached alike
    walks : (m a a' : ℕ) (want want' : Bool) → ((e : ℕ) → EdgeOf S m e → (S.edge e).test < k) → ((j : ℕ) → j < length log → facing want' (v' a' j) ≡ facing want (v a j)) → (i : ℕ) → i < length log
        → reached S' (length log) m v' (goal S' v' want' m a') (λ u. false) (S'.automaton m).start i
        ≡ reached S (length log) m v (goal S v want m a) (λ u. false) (S.automaton m).start i
    walks m a a' want want' ts goals i b =
        let e = automata_same t m in
        ap (λ (x : Automaton). reached S' (length log) m v' (goal S' v' want' m a') (λ u. false) x.start i) e
        ∙ reached_across S' S (length log) m v' v (goal S' v' want' m a') (goal S v want m a) (λ u. false) (λ u. false) e (edges_same t)
        (λ c j lo hi w. ap (λ (z : ℕ). v' z j) (edge_names t c) ∙ same_at (S.edge c).test j w (ts c (rw (ap (λ (x : Automaton). x.first) e) at lo, ends c hi)))
        (λ u j w. ap₂ ◌&&◌ (ap (λ (x : Automaton). x.accepts u) e) (goals j w))
        (λ c lo hi. refl) (S.automaton m).start i b
      where
        ends : (c : ℕ) → c < (S'.automaton m).first + (S'.automaton m).count → c < (S.automaton m).first + (S.automaton m).count
        ends c h = subst (λ (x : Automaton). c < x.first + x.count) (automata_same t m) h

    tests_of : (m : ℕ) → m < t.used.automata → (auto t m).before ≤ k → (e : ℕ) → EdgeOf S m e → (S.edge e).test < k
    tests_of m h b = tests_known t R.wf.grown k m h b

    module _ (i : ℕ) (b : i < length log) where
      -- the verdict on old node k, and on its two new ones, by their lines
      was : (c p q : ℕ) → node t k ≡ line c p q → v k i ≡ line_says S log v (line_of c p q) i
      was c p q x = old k (line_of c p q) l (line_is t k c p q x) i b

      first : (c p q : ℕ) → node (profile_of t) (2 * k) ≡ line c p q → v' (2 * k) i ≡ line_says S' log v' (line_of c p q) i
      first c p q y = new (2 * k) (line_of c p q) (omega arith) (line_is (profile_of t) (2 * k) c p q y) i b

      second : (c p q : ℕ) → node (profile_of t) (2 * k + 1) ≡ line c p q → v' (2 * k + 1) i ≡ line_says S' log v' (line_of c p q) i
      second c p q z = new (2 * k + 1) (line_of c p q) (omega arith) (line_is (profile_of t) (2 * k + 1) c p q z) i b

      agree_pair : Pair t (profile_of t) k → (v' (2 * k) i ≡ v k i) × (v' (2 * k + 1) i ≡ not (v k i))
      agree_pair (pair_t x y z) = (first _ _ _ y ∙ sym (was _ _ _ x), second _ _ _ z ∙ sym (ap not (was _ _ _ x)))
      agree_pair (pair_f x y z) = (first _ _ _ y ∙ sym (was _ _ _ x), second _ _ _ z ∙ sym (ap not (was _ _ _ x)))
      agree_pair (pair_p f h x y z) = let e = first _ _ _ y ∙ sym (was _ _ _ x) in (e, second _ _ _ z ∙ ap not e)
      agree_pair (pair_n a h x y z) = (
        copied (2 * k) (2 * a + 1) (omega arith) (omega arith) y i b ∙ turned_at a i b h ∙ sym (was _ _ _ x),
        copied (2 * k + 1) (2 * a) (omega arith) (omega arith) z i b ∙ same_at a i b h ∙ sym (ap not (was _ _ _ x) ∙ not-not (v a i)),
      )
      agree_pair (pair_a a c h w x y z) = (
        first _ _ _ y ∙ ap₂ ◌&&◌ (same_at a i b h) (same_at c i b w) ∙ sym (was _ _ _ x),
        second _ _ _ z ∙ ap₂ ◌||◌ (turned_at a i b h) (turned_at c i b w) ∙ not-and (v a i) (v c i) ∙ sym (ap not (was _ _ _ x)),
      )
      agree_pair (pair_o a c h w x y z) = (
        first _ _ _ y ∙ ap₂ ◌||◌ (same_at a i b h) (same_at c i b w) ∙ sym (was _ _ _ x),
        second _ _ _ z ∙ ap₂ ◌&&◌ (turned_at a i b h) (turned_at c i b w) ∙ not-or (v a i) (v c i) ∙ sym (ap not (was _ _ _ x)),
      )
      agree_pair (pair_d m a d c h x y z) = (
        first _ _ _ y ∙ walks m a (2 * a) true true (tests_of m d c) (λ j w. same_at a j w h) i b ∙ sym (was _ _ _ x),
        second _ _ _ z ∙ ap not (walks m a (2 * a + 1) true false (tests_of m d c) (λ j w. ap not (turned_at a j w h) ∙ not-not (v a j)) i b) ∙ sym (ap not (was _ _ _ x)),
      )
      agree_pair (pair_b m a d c h x y z) = (
        first _ _ _ y ∙ ap not (walks m a (2 * a) false false (tests_of m d c) (λ j w. ap not (same_at a j w h)) i b) ∙ sym (was _ _ _ x),
        second _ _ _ z ∙ walks m a (2 * a + 1) false true (tests_of m d c) (λ j w. turned_at a j w h) i b ∙ sym (ap not (was _ _ _ x) ∙ not-not _),
      )

  agree : (k : ℕ) → Agree k
  unfolding Agree
  agree = strong Agree (λ k rec l i b. agree_pair k l rec i b (pair_at t R k l))

  agree_at : (k : ℕ) → k < n → (i : ℕ) → i < length log → (v' (2 * k) i ≡ v k i) × (v' (2 * k + 1) i ≡ not (v k i))
  unfolding Agree
  agree_at = agree

  -- the last new node and the rule
  agree_last : (i : ℕ) → i < length log → v' (2 * n) i ≡ v (n - 1) i
  agree_last i b =
      let s = R.wf.some in
      copied (2 * n) (2 * (n - 1)) (omega arith) (omega arith) (last_line t s R.room) i b ∙ (agree_at (n - 1) (omega arith) i b).0

-- THE VERDICTS, at every entry: 2k as k, 2k+1 its opposite
pub profile_verdict : (t : Table) → profile_number t ≡ 0 → (log : List ℕ) (k i : ℕ) → k < t.used.nodes → i < length log
    → (verdict (sheet_of (profile_of t)) log (2 * k) i ≡ verdict (sheet_of t) log k i) × (verdict (sheet_of (profile_of t)) log (2 * k + 1) i ≡ not (verdict (sheet_of t) log k i))
profile_verdict t e log k i l b = agree_at t (accepted_of t e) log k l i b

-- verdicts that are equal, and verdicts that are opposite, by what they decide
equal_iff : {X Y : Type 0} (a b : Bool) → a ≡ b → (a ≡ true) ↔ X → (b ≡ true) ↔ Y → X ↔ Y
equal_iff a b e f g = (λ x. g.0 (sym e ∙ f.1 x), λ y. f.0 (e ∙ g.1 y))

opposite_iff : {X Y : Type 0} (a b : Bool) → a ≡ not b → (a ≡ true) ↔ X → (b ≡ true) ↔ Y → X ↔ (¬ Y)
opposite_iff a b e f g = (λ x y. false≢true (sym (not-true b (sym e ∙ f.1 x)) ∙ g.1 y), λ z. f.0 (e ∙ not_intro b (λ p. z (g.0 p))))

-- THE PROFILE AGREES, by Definition 4, at every entry of every log
pub profile_agrees : (t : Table) → profile_number t ≡ 0 → (log : List ℕ) (k i : ℕ) → k < t.used.nodes → i < length log
    → (Holds (sheet_of (profile_of t)) log (2 * k) i ↔ Holds (sheet_of t) log k i) × (Holds (sheet_of (profile_of t)) log (2 * k + 1) i ↔ (¬ (Holds (sheet_of t) log k i)))
profile_agrees t e log k i l b =
    let S = sheet_of t in
    let S' = sheet_of (profile_of t) in
    let p = profile_verdict t e log k i l b in
    let y = verdict_iff S log k i b in
    (equal_iff _ _ p.0 (verdict_iff S' log (2 * k) i b) y, opposite_iff _ _ p.1 (verdict_iff S' log (2 * k + 1) i b) y)

-- the rule of the profile is its last node, 2n
last_node : (t : Table) → (sheet_of (profile_of t)).nodes - 1 ≡ 2 * (sheet_of t).nodes
unfolding sheet_of profile_of
last_node t = omega arith

rule_verdict : (t : Table) → profile_number t ≡ 0 → (log : List ℕ) (i : ℕ) → i < length log
    → verdict (sheet_of (profile_of t)) log ((sheet_of (profile_of t)).nodes - 1) i ≡ verdict (sheet_of t) log ((sheet_of t).nodes - 1) i
unfolding sheet_of
rule_verdict t e log i b = ap (λ (j : ℕ). verdict (sheet_of (profile_of t)) log j i) (last_node t) ∙ agree_last t (accepted_of t e) log i b

-- THE RULE agrees, by Definition 4, at every entry of every log
pub profile_rule : (t : Table) → profile_number t ≡ 0 → (log : List ℕ) (i : ℕ) → i < length log
    → Holds (sheet_of (profile_of t)) log ((sheet_of (profile_of t)).nodes - 1) i ↔ Holds (sheet_of t) log ((sheet_of t).nodes - 1) i
profile_rule t e log i b =
    let S = sheet_of t in
    let S' = sheet_of (profile_of t) in
    equal_iff _ _ (rule_verdict t e log i b) (verdict_iff S' log (S'.nodes - 1) i b) (verdict_iff S log (S.nodes - 1) i b)

-- so judging counts as many entries held
pub profile_held : (t : Table) → profile_number t ≡ 0 → (log : List ℕ) → held_in (sheet_of (profile_of t)) log ≡ held_in (sheet_of t) log
unfolding held_in
profile_held t e log =
    count_cong (length log) (λ i. verdict (sheet_of (profile_of t)) log ((sheet_of (profile_of t)).nodes - 1) i) (λ i. verdict (sheet_of t) log ((sheet_of t).nodes - 1) i) (rule_verdict t e log)
