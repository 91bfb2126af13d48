-- The flags are the nodes that the rule stands on; they are closed under what lines name.
use Prim.Native.Nat.{ℕ, zero, suc, ◌+◌, ◌-◌, ◌≤◌, ◌<◌}
use native.Mathlib.Omega.{arith}
use mathlib.Core.Path.{◌≡◌, refl, sym, subst, ap, ◌∙◌}
use mathlib.Core.Logic.{◌⊎◌, inl, inr, ◌↔◌}
use mathlib.Core.Bool.{Bool, true, false, cond, ◌&&◌, false≢true}
use mathlib.Core.List.{List}
use lib.Dec.{eqb}
use lib.ListN.{get_or, length, replicate, length-set, length-replicate, get_or-replicate, get_or-eq_default}
use lib.Seq.{get_or-set_same, get_or-set_other}
use borrow.Author.Tests.{eqb-true, eqb-false, not-true}
use Rattle.aldlf.specs.Constants.{node_limit}
use Rattle.aldlf.specs.Sheet.{Sheet, Line, T, F, P, N, A, O, D, B, by_mode, Dir, ahead, back, stay}
use Rattle.aldlf.specs.Stands.{Tests, Names, StandsOn, rule, named, EdgeOf, StandsOnEdge, mark, mark_tests, mark_modal, mark_line, stands_from, stands_of, stands, same_dir, has_dir, line_has, stands_on_dir}
use Rattle.aldlf.specs.Parts.{allowed, looks_only, Sound}
use Rattle.aldlf.specs.declared.Way.{Way}
use Rattle.aldlf.specs.declared.Way.TheVariants.{Ahead, Back}
use Rattle.aldlf.proofs.Bools.{bool_cases, lt-or-le, and_intro, and_left, and_right, not_intro, any_intro, any_elim}

-- Node x is marked
abbrev pub On : List Bool → ℕ → Type 0
On p x = get_or p x false ≡ true

-- a mark lies inside the list
on_in : (p : List Bool) (x : ℕ) → On p x → x < length p
on_in p x o = go (lt-or-le x (length p))
  where
    go : (x < length p) ⊎ (length p ≤ x) → x < length p
    go (inl l) = l
    go (inr l) = absurd (false≢true (sym (get_or-eq_default p false l) ∙ o))

-- at first nothing is marked
pub no_flag : (n y : ℕ) → On (replicate n false) y → ⊥
no_flag n y o =
    let l : y < n = subst (λ (z : ℕ). y < z) (length-replicate n false) (on_in (replicate n false) y o) in
    false≢true (sym (get_or-replicate n y false false l) ∙ o)

-- Marking one node --------------------------------------------------------------------------------------------------------------

mark_here : (p : List Bool) (x : ℕ) → x < length p → On (mark x p) x
mark_here p x l = get_or-set_same p x true false l

mark_cases : (p : List Bool) (x y : ℕ) → On (mark x p) y → (x ≡ y) ⊎ On p y
mark_cases p x y o = go (bool_cases (eqb x y))
  where
    go : (eqb x y ≡ true) ⊎ (eqb x y ≡ false) → (x ≡ y) ⊎ On p y
    go (inl e) = inl (eqb-true x y e)
    go (inr e) = inr (sym (get_or-set_other p x y true false (λ q. eqb-false x y e (sym q))) ∙ o)

pub mark_keeps : (p : List Bool) (x y : ℕ) → On p y → On (mark x p) y
mark_keeps p x y o = go (bool_cases (eqb x y))
  where
    go : (eqb x y ≡ true) ⊎ (eqb x y ≡ false) → On (mark x p) y
    go (inl e) = subst (On (mark x p)) (eqb-true x y e) (mark_here p x (subst (λ (z : ℕ). z < length p) (sym (eqb-true x y e)) (on_in p y o)))
    go (inr e) = get_or-set_other p x y true false (λ q. eqb-false x y e (sym q)) ∙ o

-- Marking the tests of an automaton's edges --------------------------------------------------------------------------------------

module _ (S : Sheet) (f : ℕ) where
  tests_length : (c : ℕ) (p : List Bool) → length (mark_tests S f c p) ≡ length p
  tests_length zero p = refl
  tests_length (suc c) p = length-set (mark_tests S f c p) (S.edge (f + c)).test true ∙ tests_length c p

  pub tests_keep : (c : ℕ) (p : List Bool) (y : ℕ) → On p y → On (mark_tests S f c p) y
  tests_keep zero p y o = o
  tests_keep (suc c) p y o = mark_keeps (mark_tests S f c p) (S.edge (f + c)).test y (tests_keep c p y o)

  tests_cases : (c : ℕ) (p : List Bool) (y : ℕ) → On (mark_tests S f c p) y → ((e : ℕ) × ((f ≤ e) × (e < f + c)) × ((S.edge e).test ≡ y)) ⊎ On p y
  tests_cases zero p y o = inr o
  tests_cases (suc c) p y o = go (mark_cases (mark_tests S f c p) (S.edge (f + c)).test y o) (tests_cases c p y)
    where
      Found : ℕ → Type 0
      Found n = (e : ℕ) × ((f ≤ e) × (e < f + n)) × ((S.edge e).test ≡ y)

      go : ((S.edge (f + c)).test ≡ y) ⊎ On (mark_tests S f c p) y → (On (mark_tests S f c p) y → Found c ⊎ On p y) → Found (suc c) ⊎ On p y
      go (inl e) rec = inl (f + c, (omega arith, omega arith), e)
      go (inr q) rec = wider (rec q)
        where
          wider : Found c ⊎ On p y → Found (suc c) ⊎ On p y
          wider (inl (e, (a, b), t)) = inl (e, (a, omega arith), t)
          wider (inr z) = inr z

  pub tests_here : (c : ℕ) (p : List Bool) (e : ℕ) → f ≤ e → e < f + c → (S.edge e).test < length p → On (mark_tests S f c p) (S.edge e).test
  tests_here zero p e a b l = absurd (omega arith)
  tests_here (suc c) p e a b l = go (bool_cases (eqb e (f + c))) (tests_here c p e a)
    where
      go : (eqb e (f + c) ≡ true) ⊎ (eqb e (f + c) ≡ false) → (e < f + c → (S.edge e).test < length p → On (mark_tests S f c p) (S.edge e).test) → On (mark_tests S f (suc c) p) (S.edge e).test
      go (inl q) rec =
          subst (λ (z : ℕ). On (mark (S.edge z).test (mark_tests S f c p)) (S.edge e).test) (eqb-true e (f + c) q)
          (mark_here (mark_tests S f c p) (S.edge e).test (subst (λ (z : ℕ). (S.edge e).test < z) (sym (tests_length c p)) l))
      go (inr q) rec = let ne : ¬ (e ≡ f + c) = eqb-false e (f + c) q in
          mark_keeps (mark_tests S f c p) (S.edge (f + c)).test (S.edge e).test (rec (omega arith) l)

-- Marking what a line names ------------------------------------------------------------------------------------------------------

module _ (S : Sheet) where
  modal_length : (m a : ℕ) (p : List Bool) → length (mark_modal S m a p) ≡ length p
  modal_length m a p = tests_length S (S.automaton m).first (S.automaton m).count (mark a p) ∙ length-set p a true

  modal_keeps : (m a : ℕ) (p : List Bool) (y : ℕ) → On p y → On (mark_modal S m a p) y
  modal_keeps m a p y o = tests_keep S (S.automaton m).first (S.automaton m).count (mark a p) y (mark_keeps p a y o)

  modal_cases : (m a : ℕ) (p : List Bool) (y : ℕ) → On (mark_modal S m a p) y → ((a ≡ y) ⊎ Tests S m y) ⊎ On p y
  modal_cases m a p y o = go (tests_cases S (S.automaton m).first (S.automaton m).count (mark a p) y o)
    where
      go : Tests S m y ⊎ On (mark a p) y → ((a ≡ y) ⊎ Tests S m y) ⊎ On p y
      go (inl t) = inl (inr t)
      go (inr q) = next (mark_cases p a y q)
        where
          next : (a ≡ y) ⊎ On p y → ((a ≡ y) ⊎ Tests S m y) ⊎ On p y
          next (inl e) = inl (inl e)
          next (inr z) = inr z

  modal_here : (m a : ℕ) (p : List Bool) (y : ℕ) → y < length p → (a ≡ y) ⊎ Tests S m y → On (mark_modal S m a p) y
  modal_here m a p y l (inl e) = tests_keep S (S.automaton m).first (S.automaton m).count (mark a p) y (subst (λ (z : ℕ). On (mark z p) y) (sym e) (mark_here p y l))
  modal_here m a p y l (inr (e, (b, c), t)) =
      let inside : (S.edge e).test < length (mark a p) = subst (λ (z : ℕ). z < length (mark a p)) (sym t) (subst (λ (z : ℕ). y < z) (sym (length-set p a true)) l) in
      subst (On (mark_modal S m a p)) t (tests_here S (S.automaton m).first (S.automaton m).count (mark a p) e b c inside)

  both_length : (a b : ℕ) (p : List Bool) → length (mark b (mark a p)) ≡ length p
  both_length a b p = length-set (mark a p) b true ∙ length-set p a true

  both_cases : (a b : ℕ) (p : List Bool) (y : ℕ) → On (mark b (mark a p)) y → ((a ≡ y) ⊎ (b ≡ y)) ⊎ On p y
  both_cases a b p y o = go (mark_cases (mark a p) b y o)
    where
      go : (b ≡ y) ⊎ On (mark a p) y → ((a ≡ y) ⊎ (b ≡ y)) ⊎ On p y
      go (inl e) = inl (inr e)
      go (inr q) = next (mark_cases p a y q)
        where
          next : (a ≡ y) ⊎ On p y → ((a ≡ y) ⊎ (b ≡ y)) ⊎ On p y
          next (inl e) = inl (inl e)
          next (inr z) = inr z

  both_here : (a b : ℕ) (p : List Bool) (y : ℕ) → y < length p → (a ≡ y) ⊎ (b ≡ y) → On (mark b (mark a p)) y
  both_here a b p y l (inl e) = mark_keeps (mark a p) b y (subst (λ (z : ℕ). On (mark z p) y) (sym e) (mark_here p y l))
  both_here a b p y l (inr e) = subst (λ (z : ℕ). On (mark z (mark a p)) y) (sym e) (mark_here (mark a p) y (subst (λ (z : ℕ). y < z) (sym (length-set p a true)) l))

  line_length : (l : Line) (p : List Bool) → length (mark_line S l p) ≡ length p
  line_length T p = refl
  line_length F p = refl
  line_length (P f) p = refl
  line_length (N a) p = length-set p a true
  line_length (A a b) p = both_length a b p
  line_length (O a b) p = both_length a b p
  line_length (D m a) p = modal_length m a p
  line_length (B m a) p = modal_length m a p

  pub line_keeps : (l : Line) (p : List Bool) (y : ℕ) → On p y → On (mark_line S l p) y
  line_keeps T p y o = o
  line_keeps F p y o = o
  line_keeps (P f) p y o = o
  line_keeps (N a) p y o = mark_keeps p a y o
  line_keeps (A a b) p y o = mark_keeps (mark a p) b y (mark_keeps p a y o)
  line_keeps (O a b) p y o = mark_keeps (mark a p) b y (mark_keeps p a y o)
  line_keeps (D m a) p y o = modal_keeps m a p y o
  line_keeps (B m a) p y o = modal_keeps m a p y o

  line_cases : (l : Line) (p : List Bool) (y : ℕ) → On (mark_line S l p) y → Names S l y ⊎ On p y
  line_cases T p y o = inr o
  line_cases F p y o = inr o
  line_cases (P f) p y o = inr o
  line_cases (N a) p y o = mark_cases p a y o
  line_cases (A a b) p y o = both_cases a b p y o
  line_cases (O a b) p y o = both_cases a b p y o
  line_cases (D m a) p y o = modal_cases m a p y o
  line_cases (B m a) p y o = modal_cases m a p y o

  line_here : (l : Line) (p : List Bool) (y : ℕ) → y < length p → Names S l y → On (mark_line S l p) y
  line_here T p y l n = absurd n
  line_here F p y l n = absurd n
  line_here (P f) p y l n = absurd n
  line_here (N a) p y l n = subst (λ (z : ℕ). On (mark z p) y) (sym n) (mark_here p y l)
  line_here (A a b) p y l n = both_here a b p y l n
  line_here (O a b) p y l n = both_here a b p y l n
  line_here (D m a) p y l n = modal_here m a p y l n
  line_here (B m a) p y l n = modal_here m a p y l n

  -- The pass ----------------------------------------------------------------------------------------------------------------------

  -- a turn: node n's line marks, where node n is marked
  abbrev turn : ℕ → List Bool → List Bool
  turn n p = cond (get_or p n false) (mark_line S (S.line n) p) p

  turn_on : (n : ℕ) (p : List Bool) → On p n → turn n p ≡ mark_line S (S.line n) p
  turn_on n p o = ap (λ (b : Bool). cond b (mark_line S (S.line n) p) p) o

  turn_off : (n : ℕ) (p : List Bool) → get_or p n false ≡ false → turn n p ≡ p
  turn_off n p o = ap (λ (b : Bool). cond b (mark_line S (S.line n) p) p) o

  turn-length : (n : ℕ) (p : List Bool) → length (turn n p) ≡ length p
  turn-length n p = go (get_or p n false)
    where
      go : (b : Bool) → length (cond b (mark_line S (S.line n) p) p) ≡ length p
      go true = line_length (S.line n) p
      go false = refl

  turn_keeps : (n : ℕ) (p : List Bool) (y : ℕ) → On p y → On (turn n p) y
  turn_keeps n p y o = go (get_or p n false)
    where
      go : (b : Bool) → On (cond b (mark_line S (S.line n) p) p) y
      go true = line_keeps (S.line n) p y o
      go false = o

  turn_cases : (n : ℕ) (p : List Bool) (y : ℕ) → On (turn n p) y → (On p n × Names S (S.line n) y) ⊎ On p y
  turn_cases n p y o = go (bool_cases (get_or p n false))
    where
      go : (get_or p n false ≡ true) ⊎ (get_or p n false ≡ false) → (On p n × Names S (S.line n) y) ⊎ On p y
      go (inl e) = next (line_cases (S.line n) p y (subst (λ (z : List Bool). On z y) (turn_on n p e) o))
        where
          next : Names S (S.line n) y ⊎ On p y → (On p n × Names S (S.line n) y) ⊎ On p y
          next (inl z) = inl (e, z)
          next (inr z) = inr z
      go (inr e) = inr (subst (λ (z : List Bool). On z y) (turn_off n p e) o)

  from_length : (n : ℕ) (p : List Bool) → length (stands_from S n p) ≡ length p
  from_length zero p = refl
  from_length (suc n) p = from_length n (turn n p) ∙ turn-length n p

  from_keeps : (n : ℕ) (p : List Bool) (y : ℕ) → On p y → On (stands_from S n p) y
  from_keeps zero p y o = o
  from_keeps (suc n) p y o = from_keeps n (turn n p) y (turn_keeps n p y o)

  module _ (earlier : (k x : ℕ) → Names S (S.line k) x → x < k) where
    -- the pass below n marks only nodes below n
    from_above : (n : ℕ) (p : List Bool) (y : ℕ) → n ≤ y → On (stands_from S n p) y → On p y
    from_above zero p y l o = o
    from_above (suc n) p y l o = go (turn_cases n p y (from_above n (turn n p) y (omega arith) o))
      where
        go : (On p n × Names S (S.line n) y) ⊎ On p y → On p y
        go (inl z) = let q : y < n = earlier n y z.1 in absurd (omega arith)
        go (inr z) = z

    -- what a marked node's line names is marked
    from_closed : (n : ℕ) (p : List Bool) (k x : ℕ) → k < n → On (stands_from S n p) k → Names S (S.line k) x → On (stands_from S n p) x
    from_closed zero p k x l o z = absurd (omega arith)
    from_closed (suc n) p k x l o z = go (bool_cases (eqb k n)) (λ l'. from_closed n (turn n p) k x l' o z)
      where
        go : (eqb k n ≡ true) ⊎ (eqb k n ≡ false) → (k < n → On (stands_from S n (turn n p)) x) → On (stands_from S n (turn n p)) x
        go (inl e) rec = from_keeps n (turn n p) x (subst (λ (q : List Bool). On q x) (sym (turn_on n p here)) (line_here (S.line n) p x inside named-n))
          where
            k-is : k ≡ n
            k-is = eqb-true k n e

            named-n : Names S (S.line n) x
            named-n = subst (λ (j : ℕ). Names S (S.line j) x) k-is z

            below-n : x < n
            below-n = earlier n x named-n

            after : On (turn n p) n
            after = from_above n (turn n p) n (omega arith) (subst (On (stands_from S n (turn n p))) k-is o)

            here : On p n
            here = was (turn_cases n p n after)
              where
                was : (On p n × Names S (S.line n) n) ⊎ On p n → On p n
                was (inl q) = q.0
                was (inr q) = q

            inside : x < length p
            inside = omega (arith, on_in p n here, below-n)
        go (inr e) rec = let ne : ¬ (k ≡ n) = eqb-false k n e in rec (omega arith)

  -- only nodes that the rule stands on are marked
  from_sound : (n : ℕ) (p : List Bool) → ((y : ℕ) → On p y → StandsOn S y) → (y : ℕ) → On (stands_from S n p) y → StandsOn S y
  from_sound zero p f y o = f y o
  from_sound (suc n) p f y o = from_sound n (turn n p) (λ z q. go z (turn_cases n p z q)) y o
    where
      go : (z : ℕ) → (On p n × Names S (S.line n) z) ⊎ On p z → StandsOn S z
      go z (inl q) = named (f n q.0) q.1
      go z (inr q) = f z q

-- THE FLAGS ----------------------------------------------------------------------------------------------------------------------

module _ (S : Sheet) (sound : Sound S) where
  abbrev start : List Bool
  start = mark (S.nodes - 1) (replicate node_limit false)

  start_is : (y : ℕ) → On start y → suc y ≡ S.nodes
  start_is y o = go (mark_cases (replicate node_limit false) (S.nodes - 1) y o)
    where
      go : (S.nodes - 1 ≡ y) ⊎ On (replicate node_limit false) y → suc y ≡ S.nodes
      go (inl e) = omega (arith, sound.some)
      go (inr q) = absurd (no_flag node_limit y q)

  start_on : (y : ℕ) → suc y ≡ S.nodes → On start y
  start_on y e =
      let at : S.nodes - 1 ≡ y = omega arith in
      let l : y < length (replicate node_limit false) = omega (arith, sound.few, length-replicate node_limit false) in
      subst (λ (z : ℕ). On (mark z (replicate node_limit false)) y) (sym at) (mark_here (replicate node_limit false) y l)

  -- the rule stands on itself
  pub stands_rule : (k : ℕ) → suc k ≡ S.nodes → stands S k ≡ true
  unfolding stands_of
  stands_rule k e = from_keeps S S.nodes start k (start_on k e)

  -- and only on nodes of the sheet
  pub stands_in : (k : ℕ) → stands S k ≡ true → k < S.nodes
  unfolding stands_of
  stands_in k o = go (lt-or-le k S.nodes)
    where
      go : (k < S.nodes) ⊎ (S.nodes ≤ k) → k < S.nodes
      go (inl l) = l
      go (inr l) = let e : suc k ≡ S.nodes = start_is k (from_above S sound.earlier S.nodes start k l o) in omega arith

  -- the flags are closed under what lines name
  pub stands_names : (k x : ℕ) → stands S k ≡ true → Names S (S.line k) x → stands S x ≡ true
  unfolding stands_of
  stands_names k x o z = from_closed S sound.earlier S.nodes start k x (stands_in k o) o z

  -- THE FLAGS ARE THE NODES THAT THE RULE STANDS ON
  pub stands_iff : (k : ℕ) → (stands S k ≡ true) ↔ StandsOn S k
  unfolding stands_of
  stands_iff k = (from_sound S S.nodes start (λ y o. rule (start_is y o)) k, flagged)
    where
      flagged : {x : ℕ} → StandsOn S x → stands S x ≡ true
      flagged (rule e) = stands_rule _ e
      flagged (named {k = j} s z) = stands_names j _ (flagged s) z

module _ (S : Sheet) (sound : Sound S) (k : ℕ) where
  -- a node that the rule stands on is below the limit
  pub stood_lt : StandsOn S k → k < node_limit
  stood_lt o = omega (arith, stands_in S sound k ((stands_iff S sound k).1 o), sound.few)

  -- a node that the rule does not stand on has no flag
  pub not_stood : ¬ (StandsOn S k) → stands S k ≡ false
  not_stood o = go (bool_cases (stands S k))
    where
      go : (stands S k ≡ true) ⊎ (stands S k ≡ false) → stands S k ≡ false
      go (inl e) = absurd (o ((stands_iff S sound k).0 e))
      go (inr e) = e

  -- a flag and a decision, by what they decide
  pub stood_iff : {X : Type 0} (b d : Bool) → b ≡ stands S k && d → (d ≡ true) ↔ X → (b ≡ true) ↔ (StandsOn S k × X)
  stood_iff b d e f = (
    λ p. let q = sym e ∙ p in ((stands_iff S sound k).0 (and_left (stands S k) d q), f.0 (and_right (stands S k) d q)),
    λ q. e ∙ and_intro ((stands_iff S sound k).1 q.0) (f.1 q.1),
  )

-- QUESTION 34 AND THE EDGES THAT THE RULE STANDS ON -------------------------------------------------------------------------------

same_dir-true : (d d' : Dir) → same_dir d d' ≡ true → d ≡ d'
same_dir-true ahead ahead e = refl
same_dir-true back back e = refl
same_dir-true stay stay e = refl
same_dir-true ahead back e = absurd (false≢true e)
same_dir-true ahead stay e = absurd (false≢true e)
same_dir-true back ahead e = absurd (false≢true e)
same_dir-true back stay e = absurd (false≢true e)
same_dir-true stay ahead e = absurd (false≢true e)
same_dir-true stay back e = absurd (false≢true e)

same_dir_refl : (d : Dir) → same_dir d d ≡ true
same_dir_refl ahead = refl
same_dir_refl back = refl
same_dir_refl stay = refl

module _ (S : Sheet) (d : Dir) where
  -- an edge of automaton m of this direction
  abbrev DirIn : ℕ → Type 0
  DirIn m = (e : ℕ) × EdgeOf S m e × ((S.edge e).dir ≡ d)

  abbrev test : ℕ → ℕ → Bool
  test m c = same_dir (S.edge ((S.automaton m).first + c)).dir d

  has_iff : (m : ℕ) → (has_dir S d m ≡ true) ↔ DirIn m
  has_iff m = (there, hence)
    where
      there : has_dir S d m ≡ true → DirIn m
      there p =
          let r = any_elim (S.automaton m).count (test m) p in
          let l : r.0 < (S.automaton m).count = r.1 in
          ((S.automaton m).first + r.0, (omega arith, omega arith), same_dir-true (S.edge ((S.automaton m).first + r.0)).dir d r.2)

      hence : DirIn m → has_dir S d m ≡ true
      hence (e, (a, b), q) =
          let c = e - (S.automaton m).first in
          let at : (S.automaton m).first + c ≡ e = omega arith in
          any_intro (S.automaton m).count (test m) c (omega arith)
          (subst (λ (z : ℕ). same_dir (S.edge z).dir d ≡ true) (sym at) (subst (λ (z : Dir). same_dir z d ≡ true) (sym q) (same_dir_refl d)))

  abbrev Owns : Line → ℕ → Type 0
  Owns l e = by_mode (λ m a. EdgeOf S m e) (λ m a. EdgeOf S m e) ⊥ l

  line-has : (l : Line) → (line_has S d l ≡ true) ↔ ((e : ℕ) × Owns l e × ((S.edge e).dir ≡ d))
  line-has T = (λ p. absurd (false≢true p), λ z. absurd z.1)
  line-has F = (λ p. absurd (false≢true p), λ z. absurd z.1)
  line-has (P f) = (λ p. absurd (false≢true p), λ z. absurd z.1)
  line-has (N a) = (λ p. absurd (false≢true p), λ z. absurd z.1)
  line-has (A a b) = (λ p. absurd (false≢true p), λ z. absurd z.1)
  line-has (O a b) = (λ p. absurd (false≢true p), λ z. absurd z.1)
  line-has (D m a) = has_iff m
  line-has (B m a) = has_iff m

  -- the rule stands on an edge of this direction
  pub dir_iff : Sound S → (stands_on_dir S d ≡ true) ↔ ((e : ℕ) × StandsOnEdge S e × ((S.edge e).dir ≡ d))
  unfolding stands_on_dir
  dir_iff sound = (there, hence)
    where
      there : stands_on_dir S d ≡ true → (e : ℕ) × StandsOnEdge S e × ((S.edge e).dir ≡ d)
      there p =
          let r = any_elim S.nodes (λ k. stands S k && line_has S d (S.line k)) p in
          let q = (line-has (S.line r.0)).0 (and_right (stands S r.0) (line_has S d (S.line r.0)) r.2) in
          (q.0, (r.0, (stands_iff S sound r.0).0 (and_left (stands S r.0) (line_has S d (S.line r.0)) r.2), q.1), q.2)

      hence : (e : ℕ) × StandsOnEdge S e × ((S.edge e).dir ≡ d) → stands_on_dir S d ≡ true
      hence (e, (k, s, o), q) =
          let on = (stands_iff S sound k).1 s in
          any_intro S.nodes (λ k. stands S k && line_has S d (S.line k)) k (stands_in S sound k on) (and_intro on ((line-has (S.line k)).1 (e, o, q)))

-- the rule looks only this way where every edge that it stands on may stand there
pub looks_iff : (w : Way) (S : Sheet) → Sound S → (looks_only w S ≡ true) ↔ ((e : ℕ) → StandsOnEdge S e → allowed w (S.edge e).dir ≡ true)
looks_iff Ahead S sound = (
  λ p e s. not_back (S.edge e).dir (λ q. false≢true (sym (not-true (stands_on_dir S back) p) ∙ (dir_iff S back sound).1 (e, s, q))),
  λ f. not_intro (stands_on_dir S back) (λ p. let r = (dir_iff S back sound).0 p in false≢true (sym (ap (allowed Ahead) r.2) ∙ f r.0 r.1)),
)
  where
    not_back : (d : Dir) → ¬ (d ≡ back) → allowed Ahead d ≡ true
    not_back ahead n = refl
    not_back back n = absurd (n refl)
    not_back stay n = refl
looks_iff Back S sound = (
  λ p e s. not-ahead (S.edge e).dir (λ q. false≢true (sym (not-true (stands_on_dir S ahead) p) ∙ (dir_iff S ahead sound).1 (e, s, q))),
  λ f. not_intro (stands_on_dir S ahead) (λ p. let r = (dir_iff S ahead sound).0 p in false≢true (sym (ap (allowed Back) r.2) ∙ f r.0 r.1)),
)
  where
    not-ahead : (d : Dir) → ¬ (d ≡ ahead) → allowed Back d ≡ true
    not-ahead ahead n = absurd (n refl)
    not-ahead back n = refl
    not-ahead stay n = refl
