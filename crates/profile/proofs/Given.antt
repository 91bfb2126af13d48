-- QUESTION 31 SAYS YES TO THE PROFILE, and it is in the profile.
use Prim.Native.Nat.{ℕ, zero, suc, ◌+◌, ◌*◌, ◌-◌, ◌≤◌, ◌<◌}
use native.Mathlib.Omega.{arith}
use mathlib.Core.Path.{◌≡◌, refl, sym, ap, ap₂, subst, ◌∙◌}
use mathlib.Core.List.{List, [], ◌∷◌}
use mathlib.Core.Bool.{Bool, true, false, not, ◌&&◌, or-true}
use mathlib.Core.Logic.{◌⊎◌, inl, inr, ⊎_elim}
use lib.ListN.{get_or, length-map}
use lib.Dec.{eqb, leb}
use borrow.Author.Tests.{eq-eqb, ne_eqb, leb-true}
use Rattle.aldlf.specs.Constants.{node_limit, letter_p, letter_n}
use Rattle.aldlf.specs.Outcomes.{first_no}
use Rattle.aldlf.specs.declared.NodeLine.{NodeLine}
use Rattle.aldlf.specs.declared.Edge.{Edge}
use Rattle.aldlf.specs.declared.Automaton.{Automaton}
use Rattle.aldlf.specs.declared.Table.{Table}
use Rattle.sheet.specs.Questions.{plain_node, plains}
use Rattle.sheet.specs.Given.{well_formed, edges_before, nodes_before}
use Rattle.sheet.proofs.Bools.{never, same, split}
use Rattle.sheet.proofs.Each.{each_all}
use Rattle.sheet.proofs.Grown.{NodeOk, ok_t, ok_f, ok_p, ok_n, ok_a, ok_o, ok_d, ok_b, AutoOk, EdgeOk, node, auto, edge, Grown}
use Rattle.sheet.proofs.Decided.{Wf, wf_yes, wf_no}
use Rattle.profile.specs.Profile.{kept_automaton, kept_edge, profile_of, profile_number, line_in_profile, in_profile}
use Rattle.profile.proofs.Doubled.{last_line, no_lines, lines_long, kept-automaton, kept-edge, Pair, pair_t, pair_f, pair_p, pair_n, pair_a, pair_o, pair_d, pair_b, pair_of}
use Rattle.profile.proofs.Flags.{flag_at}
use Rattle.profile.proofs.Whole.{whole_profile}

-- induction on all smaller numbers
pub strong : (P : ℕ → Type 0) → ((k : ℕ) → ((j : ℕ) → j < k → P j) → P k) → (k : ℕ) → P k
strong P f k = go (suc k) k (omega arith)
  where
    go : (n k : ℕ) → k < n → P k
    go zero k l = absurd (omega arith)
    go (suc n) k l = f k (λ j h. go n j (omega arith))

-- a number is twice another, or one more than that
half : (i : ℕ) → ((k : ℕ) × (i ≡ 2 * k)) ⊎ ((k : ℕ) × (i ≡ 2 * k + 1))
half zero = inl (0, refl)
half (suc i) = go (half i)
  where
    go : ((k : ℕ) × (i ≡ 2 * k)) ⊎ ((k : ℕ) × (i ≡ 2 * k + 1)) → ((k : ℕ) × (suc i ≡ 2 * k)) ⊎ ((k : ℕ) × (suc i ≡ 2 * k + 1))
    go (inl (k, e)) = inr (k, omega arith)
    go (inr (k, e)) = inl (suc k, omega arith)

-- no question gets a no
pub record Accepted (t : Table) : Type 0 where
  pub given : well_formed t ≡ true
  pub wf : Wf t
  pub room : 2 * t.used.nodes + 1 ≤ node_limit

pub accepted_of : (t : Table) → profile_number t ≡ 0 → Accepted t
unfolding profile_number
accepted_of t e = go (well_formed t) (leb (2 * t.used.nodes + 1) node_limit) refl refl e
  where
    go : (a b : Bool) → well_formed t ≡ a → leb (2 * t.used.nodes + 1) node_limit ≡ b → first_no ((a, 31) ∷ (b, 42) ∷ []) ≡ 0 → Accepted t
    go true true p q z = record { given = p; wf = wf_yes t p; room = leb-true (2 * t.used.nodes + 1) node_limit q }
    go true false p q z = absurd (let y : ◌≡◌ {A = ℕ} 42 0 = z in omega arith)
    go false b p q z = absurd (let y : ◌≡◌ {A = ℕ} 31 0 = z in omega arith)

module _ (t : Table) (R : Accepted t) where
  abbrev pub u : Table
  u = profile_of t

  abbrev n : ℕ
  n = t.used.nodes

  abbrev g : Grown t false
  g = R.wf.grown

  pub pair_at : (k : ℕ) → k < n → Pair t u k
  pair_at k l = pair_of t R.room k l (g.nodes k l)

  -- a new line that may stand at place i, and stands on a fact if it is an N
  record Stands (i : ℕ) (x : NodeLine) : Type 0 where
    ok : NodeOk t.used.automata u.automata i x
    plain : x.kind ≡ letter_n → (node u x.a).kind ≡ letter_p

  -- a later place will do as well
  later : (i j : ℕ) (x : NodeLine) → i ≤ j → Stands i x → Stands j x
  later i j x h s = record { ok = go s.ok; plain = s.plain }
    where
      go : NodeOk t.used.automata u.automata i x → NodeOk t.used.automata u.automata j x
      go (ok_t e p q) = ok_t e p q
      go (ok_f e p q) = ok_f e p q
      go (ok_p e p q) = ok_p e p q
      go (ok_n e p q) = ok_n e (omega arith) q
      go (ok_a e p q) = ok_a e (omega arith) (omega arith)
      go (ok_o e p q) = ok_o e (omega arith) (omega arith)
      go (ok_d e p m q) = ok_d e p (omega arith) (omega arith)
      go (ok_b e p m q) = ok_b e p (omega arith) (omega arith)

  stands_by : (i : ℕ) (x y : NodeLine) → x ≡ y → Stands i y → Stands i x
  stands_by i x y e s = subst (Stands i) (sym e) s

  placed_before : (m k i : ℕ) → (auto t m).before ≤ k → 2 * k ≤ i → (auto u m).before ≤ i
  placed_before m k i h l = let e = ap (λ (x : Automaton). x.before) (kept-automaton t m) in omega arith

  Stand : ℕ → Type 0
  Stand k = k < n → Stands (2 * k) (node u (2 * k)) × Stands (2 * k + 1) (node u (2 * k + 1))

  stand_pair : (k : ℕ) → k < n → ((j : ℕ) → j < k → Stand j) → Pair t u k → Stands (2 * k) (node u (2 * k)) × Stands (2 * k + 1) (node u (2 * k + 1))
  unfolding Stand
  stand_pair k l rec (pair_t x y z) = (stands_by _ _ _ y (record { ok = ok_t refl refl refl; plain = λ e. absurd (omega arith) }), stands_by _ _ _ z (record { ok = ok_f refl refl refl; plain = λ e. absurd (omega arith) }))
  stand_pair k l rec (pair_f x y z) = (stands_by _ _ _ y (record { ok = ok_f refl refl refl; plain = λ e. absurd (omega arith) }), stands_by _ _ _ z (record { ok = ok_t refl refl refl; plain = λ e. absurd (omega arith) }))
  stand_pair k l rec (pair_p f h x y z) = (
    stands_by _ _ _ y (record { ok = ok_p refl h refl; plain = λ e. absurd (omega arith) }),
    stands_by _ _ _ z (record { ok = ok_n refl (omega arith) refl; plain = λ e. ap (λ (v : NodeLine). v.kind) y }),
  )
  stand_pair k l rec (pair_n a h x y z) =
      let r = rec a h (omega arith) in
      (stands_by _ _ _ y (later (2 * a + 1) (2 * k) _ (omega arith) r.1), stands_by _ _ _ z (later (2 * a) (2 * k + 1) _ (omega arith) r.0))
  stand_pair k l rec (pair_a a b h w x y z) = (
    stands_by _ _ _ y (record { ok = ok_a refl (omega arith) (omega arith); plain = λ e. absurd (omega arith) }),
    stands_by _ _ _ z (record { ok = ok_o refl (omega arith) (omega arith); plain = λ e. absurd (omega arith) }),
  )
  stand_pair k l rec (pair_o a b h w x y z) = (
    stands_by _ _ _ y (record { ok = ok_o refl (omega arith) (omega arith); plain = λ e. absurd (omega arith) }),
    stands_by _ _ _ z (record { ok = ok_a refl (omega arith) (omega arith); plain = λ e. absurd (omega arith) }),
  )
  stand_pair k l rec (pair_d m a i c h x y z) = (
    stands_by _ _ _ y (record { ok = ok_d refl i (placed_before m k (2 * k) c (omega arith)) (omega arith); plain = λ e. absurd (omega arith) }),
    stands_by _ _ _ z (record { ok = ok_b refl i (placed_before m k (2 * k + 1) c (omega arith)) (omega arith); plain = λ e. absurd (omega arith) }),
  )
  stand_pair k l rec (pair_b m a i c h x y z) = (
    stands_by _ _ _ y (record { ok = ok_b refl i (placed_before m k (2 * k) c (omega arith)) (omega arith); plain = λ e. absurd (omega arith) }),
    stands_by _ _ _ z (record { ok = ok_d refl i (placed_before m k (2 * k + 1) c (omega arith)) (omega arith); plain = λ e. absurd (omega arith) }),
  )

  stand : (k : ℕ) → Stand k
  unfolding Stand
  stand = strong Stand (λ k rec l. stand_pair k l rec (pair_at k l))

  -- every place below 2n+1 is one of a pair, or the last
  stand_at : (i : ℕ) → i < 2 * n + 1 → Stands i (node u i)
  unfolding Stand
  stand_at i l = go (split (2 * n) i)
    where
      low : i < 2 * n → ((k : ℕ) × (i ≡ 2 * k)) ⊎ ((k : ℕ) × (i ≡ 2 * k + 1)) → Stands i (node u i)
      low w (inl (k, e)) = subst (λ (j : ℕ). Stands j (node u j)) (sym e) (stand k (omega arith)).0
      low w (inr (k, e)) = subst (λ (j : ℕ). Stands j (node u j)) (sym e) (stand k (omega arith)).1

      go : (2 * n ≤ i) ⊎ (i < 2 * n) → Stands i (node u i)
      go (inr w) = low w (half i)
      go (inl w) =
          let e : 2 * n ≡ i = omega arith in
          subst (λ (j : ℕ). Stands j (node u j)) e
          (stands_by _ _ _ (last_line t R.wf.some R.room) (later (2 * (n - 1)) (2 * n) _ (omega arith) (stand (n - 1) (let s = R.wf.some in omega arith)).0))

  -- question 9: new nodes 2k and 2k+1 are plain where old node k is
  flag_new : (i : ℕ) → i < 2 * n + 1 → get_or (plains u.nodes) i false ≡ plain_node (plains u.nodes) (node u i)
  flag_new i l = flag_at u.nodes t.used.automata u.automata i (lines_long t) (let r = R.room in omega arith) (stand_at i l).ok

  flag_old : (k : ℕ) → k < n → get_or (plains t.nodes) k false ≡ plain_node (plains t.nodes) (node t k)
  flag_old k l = flag_at t.nodes t.used.automata t.automata k g.nodes_long (let r = R.room in omega arith) (g.nodes k l)

  abbrev p : List Bool
  p = plains t.nodes

  abbrev p' : List Bool
  p' = plains u.nodes

  Flags : ℕ → Type 0
  Flags k = k < n → (get_or p' (2 * k) false ≡ get_or p k false) × (get_or p' (2 * k + 1) false ≡ get_or p k false)

  module _ (k : ℕ) (l : k < n) where
    even : (y x : NodeLine) → node u (2 * k) ≡ y → node t k ≡ x → plain_node p' y ≡ plain_node p x → get_or p' (2 * k) false ≡ get_or p k false
    even y x e f q = flag_new (2 * k) (omega arith) ∙ ap (plain_node p') e ∙ q ∙ sym (flag_old k l ∙ ap (plain_node p) f)

    odd : (y x : NodeLine) → node u (2 * k + 1) ≡ y → node t k ≡ x → plain_node p' y ≡ plain_node p x → get_or p' (2 * k + 1) false ≡ get_or p k false
    odd y x e f q = flag_new (2 * k + 1) (omega arith) ∙ ap (plain_node p') e ∙ q ∙ sym (flag_old k l ∙ ap (plain_node p) f)

    flag_pair : ((j : ℕ) → j < k → Flags j) → Pair t u k → (get_or p' (2 * k) false ≡ get_or p k false) × (get_or p' (2 * k + 1) false ≡ get_or p k false)
    unfolding Flags
    flag_pair rec (pair_t x y z) = (even _ _ y x refl, odd _ _ z x refl)
    flag_pair rec (pair_f x y z) = (even _ _ y x refl, odd _ _ z x refl)
    flag_pair rec (pair_p f h x y z) = (even _ _ y x refl, odd _ _ z x (flag_new (2 * k) (omega arith) ∙ ap (plain_node p') y))
    flag_pair rec (pair_n a h x y z) =
        let r = rec a h (omega arith) in
        (even _ _ y x (sym (flag_new (2 * a + 1) (omega arith)) ∙ r.1), odd _ _ z x (sym (flag_new (2 * a) (omega arith)) ∙ r.0))
    flag_pair rec (pair_a a b h w x y z) =
        let r = rec a h (omega arith) in
        let s = rec b w (omega arith) in
        (even _ _ y x (ap₂ ◌&&◌ r.0 s.0), odd _ _ z x (ap₂ ◌&&◌ r.1 s.1))
    flag_pair rec (pair_o a b h w x y z) =
        let r = rec a h (omega arith) in
        let s = rec b w (omega arith) in
        (even _ _ y x (ap₂ ◌&&◌ r.0 s.0), odd _ _ z x (ap₂ ◌&&◌ r.1 s.1))
    flag_pair rec (pair_d m a i c h x y z) = (even _ _ y x refl, odd _ _ z x refl)
    flag_pair rec (pair_b m a i c h x y z) = (even _ _ y x refl, odd _ _ z x refl)

  flags : (k : ℕ) → Flags k
  unfolding Flags
  flags = strong Flags (λ k rec l. flag_pair k l rec (pair_at k l))

  -- automata and edges
  edges-before : (m : ℕ) → edges_before u.automata m ≡ edges_before t.automata m
  edges-before zero = refl
  edges-before (suc m) = ap (λ (x : Automaton). x.first + x.count) (kept-automaton t m)

  nodes-before : (m : ℕ) → nodes_before u.automata m ≡ 2 * nodes_before t.automata m
  nodes-before zero = refl
  nodes-before (suc m) = ap (λ (x : Automaton). x.before) (kept-automaton t m)

  automaton_ok : (m : ℕ) → m < t.used.automata → AutoOk (2 * n + 1) (edges_before u.automata m) (nodes_before u.automata m) (auto u m)
  automaton_ok m l =
      let o = g.automata m l in
      let eb = edges-before m in
      let nb = nodes-before m in
      let mo = o.mono in
      let b = o.before≤ in
      subst (λ (x : Automaton). AutoOk (2 * n + 1) (edges_before u.automata m) (nodes_before u.automata m) x) (sym (kept-automaton t m))
      (record { some_state = o.some_state; states≤ = o.states≤; start< = o.start<; accepting< = o.accepting<; first≡ = o.first≡ ∙ sym eb; mono = omega arith; before≤ = omega arith })

  edge_ok : (m : ℕ) → m < t.used.automata → (e : ℕ) → (auto u m).first ≤ e → e < (auto u m).first + (auto u m).count → EdgeOk u.nodes (auto u m) (edge u e)
  unfolding Flags
  edge_ok m l e lo hi =
      let f = ap (λ (x : Automaton). x.first) (kept-automaton t m) in
      let c = ap (λ (x : Automaton). x.count) (kept-automaton t m) in
      let o = g.edges m l e (omega arith) (omega arith) in
      let b = g.outside refl m l in
      let w = o.test< in
      let k : EdgeOk u.nodes (kept_automaton (auto t m)) (kept_edge (edge t e)) =
      record { from< = o.from<; dir< = o.dir<; test< = omega arith; to< = o.to<; plain_test = λ d. (flags (edge t e).test.0 (omega arith)).0 ∙ o.plain_test d } in
      subst (λ (x : Automaton). EdgeOk u.nodes x (edge u e)) (sym (kept-automaton t m))
      (subst (λ (y : Edge). EdgeOk u.nodes (kept_automaton (auto t m)) y) (sym (kept-edge t e)) k)

  grown : Grown u false
  unfolding profile_of
  grown =
      let r = R.room in
      record {
        nodes_long = lines_long t;
        automata_long = length-map t.automata kept_automaton ∙ g.automata_long;
        edges_long = length-map t.edges kept_edge ∙ g.edges_long;
        nodes≤ = r;
        automata≤ = g.automata≤;
        edges≤ = g.edges≤;
        nodes = λ i l. (stand_at i l).ok;
        no_nodes = no_lines t;
        automata = automaton_ok;
        no_automata = λ m l. kept-automaton t m ∙ ap kept_automaton (g.no_automata m l);
        edges = edge_ok;
        no_edges = λ e l. kept-edge t e ∙ ap kept_edge (g.no_edges e l);
        total = edges-before t.used.automata ∙ g.total;
        inside = λ q. never q;
        outside = λ q m l. let b = ap (λ (x : Automaton). x.before) (kept-automaton t m) in let w = g.outside refl m l in omega arith;
      }

  pub profile_wf : Wf u
  unfolding profile_of
  profile_wf =
      record {
        grown = grown;
        some = omega arith;
        all_used = let e = whole_profile t in let a = R.wf.all_used in omega arith;
      }

  -- each N of the profile stands on a fact
  plain_line : (i : ℕ) → i < 2 * n + 1 → line_in_profile u.nodes i ≡ true
  unfolding line_in_profile
  plain_line i l =
      ⊎_elim (λ (e : (node u i).kind ≡ letter_n). rw (eq-eqb (node u (node u i).a).kind letter_p ((stand_at i l).plain e)) (or-true (not (eqb (node u i).kind letter_n))))
      (λ f. rw (ne_eqb (node u i).kind letter_n f))
      (same (node u i).kind letter_n)

  in-profile : in_profile u ≡ true
  unfolding in_profile profile_of
  in-profile = each_all (line_in_profile u.nodes) (2 * n + 1) plain_line

-- QUESTION 31 accepts the profile of every table that is not refused
pub profile_given : (t : Table) → profile_number t ≡ 0 → well_formed (profile_of t) ≡ true
profile_given t e = wf_no (profile_of t) (profile_wf t (accepted_of t e))

-- and it IS IN THE PROFILE: each N on it stands directly on a fact
pub profile_in : (t : Table) → profile_number t ≡ 0 → in_profile (profile_of t) ≡ true
profile_in t e = in-profile t (accepted_of t e)
