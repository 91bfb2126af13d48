-- The graph's walks are Definition 4's walks of the sheet, and what falls along its distances is the walk that the definition finds.
use Prim.Native.Nat.{ℕ, zero, suc, ◌+◌, ◌*◌, ◌/◌, ◌%◌, ◌≤◌, ◌<◌}
use native.Mathlib.Omega.{arith}
use native.Mathlib.Nat.{div-add-mod', div-lt_iff_lt-mul, mod-lt}
use mathlib.Core.Path.{◌≡◌, refl, sym, ap, subst, ◌∙◌}
use mathlib.Core.Logic.{inl, inr}
use mathlib.Core.Bool.{Bool}
use mathlib.Core.List.{List, [], ◌∷◌}
use mathlib.Core.Option.{Option, none, some}
use borrow.Author.Tests.{eq-eqb, ne_eqb}
use lib.Arith.{digits_div, digits_mod}
use lib.ListN.{length}
use Rattle.aldlf.specs.Sheet.{Sheet, bit, ahead, back, stay, dir_of}
use Rattle.aldlf.specs.Sheet as sheet
use Rattle.aldlf.specs.Meaning as meaning
use Rattle.aldlf.specs.Walks.{Before}
use Rattle.aldlf.specs.declared.Automaton.{Automaton}
use Rattle.aldlf.specs.declared.Edge.{Edge}
use Rattle.aldlf.proofs.Reach.{moves_in}
use Rattle.aldlf.proofs.Split.{Is₂}
use Rattle.aldlf.proofs.Search as search
use Rattle.aldlf.proofs.Search.{found_first}
use Rattle.aldlf.proofs.Short.{found, found_some, found_none}
use Rattle.graph.specs.Graph.{Graph, Step, Walk, far, at}
use Rattle.graph.specs.Arcs.{unpacked_of}
use Rattle.graph.specs.Configurations.{graph_of, Goes, Ready}
use Rattle.graph.proofs.Steps.{step_moves, moves_step, forward, config_inside}
use Rattle.shortest.specs.Goals.{GoalAt, goal_at}
use Rattle.shortest.specs.Descent.{Distances, Descent}
use Rattle.shortest.specs.declared.Goal.{Goal}
use Rattle.shortest.proofs.Greedy.{near_least, descent_length, descent_walk, descent_first}

-- an edge of a table as an edge of its sheet
abbrev pub edge_of : Edge → sheet.Edge
edge_of x = record { from = x.from.0; dir = dir_of x.dir; test = x.test.0; to = x.to.0 }

-- what it is for the search's lists to stand for automaton m of a sheet with the nodes' values h and the goals g
pub record Agrees (S : Sheet) (n m : ℕ) (h g : ℕ → ℕ → Bool) (arcs : List ℕ) (q : Automaton) (words : List ℕ) (goal : Goal) : Type 0 where
  pub long : length words ≡ n
  pub first_is : (S.automaton m).first ≡ q.first
  pub count_is : (S.automaton m).count ≡ q.count
  pub edge_is : (e : ℕ) → q.first ≤ e → e < q.first + q.count → S.edge e ≡ edge_of (unpacked_of (at arcs e))
  pub test_is : (e : ℕ) → q.first ≤ e → e < q.first + q.count → (i : ℕ) → i < n
      → h (unpacked_of (at arcs e)).test.0 i ≡ bit (at words i) (unpacked_of (at arcs e)).test.0
  pub goal_is : (s i : ℕ) → s < q.states → i < n → g s i ≡ goal_at words q goal (i * q.states + s)

-- directions as numbers and as the sheet's
dir_stay : (d : ℕ) → d ≡ 0 → dir_of d ≡ stay
dir_stay d e = rw (eq-eqb d 0 e)

dir_ahead : (d : ℕ) → d ≡ 1 → dir_of d ≡ ahead
dir_ahead d e = rw (ne_eqb d 0 (omega arith), eq-eqb d 1 e)

dir_back : (d : ℕ) → d ≡ 2 → dir_of d ≡ back
dir_back d e = rw (ne_eqb d 0 (omega arith), ne_eqb d 1 (omega arith))

goes_moves : (n d i j : ℕ) → j < n → Goes d i j → meaning.Moves n (dir_of d) i j
goes_moves n d i j l (inl (z, e)) = rw (dir_stay d z) (sym e)
goes_moves n d i j l (inr (inl (z, e))) = rw (dir_ahead d z) (omega arith, l)
goes_moves n d i j l (inr (inr (z, e))) = rw (dir_back d z) (let f : i ≡ suc j = omega arith in f)

moves_goes : (n d i j : ℕ) → d ≤ 2 → meaning.Moves n (dir_of d) i j → Goes d i j
moves_goes n zero i j l mv = inl (refl, sym mv)
moves_goes n (suc zero) i j l mv = inr (inl (refl, let e = mv.0 in omega arith))
moves_goes n (suc (suc zero)) i j l mv = inr (inr (refl, omega arith))
moves_goes n (suc (suc (suc d))) i j l mv = absurd (omega arith)

module _
    (S : Sheet)
    (n m : ℕ)
    (h g : ℕ → ℕ → Bool)
    (arcs : List ℕ)
    (q : Automaton)
    (words : List ℕ)
    (goal : Goal)
    (r : Ready arcs q words)
    (a : Agrees S n m h g arcs q words goal) where
  abbrev G : Graph
  G = graph_of arcs q words

  abbrev edge : ℕ → Edge
  edge e = unpacked_of (at arcs e)

  entry_in : (p : ℕ) → p < length words * q.states → p / q.states < n
  entry_in p l = let k : p / q.states < length words = (div-lt_iff_lt-mul r.some_state).1 l in omega (arith, a.long)

  -- a step is an edge that is taken
  step_taken : (p e c : ℕ) → Step G p e c
      → meaning.Taken S (Is₂ h) m e (p % q.states) (p / q.states) × meaning.Moves n (S.edge e).dir (p / q.states) (c / q.states) × ((S.edge e).to ≡ c % q.states)
  step_taken p e c st =
      let mv = step_moves arcs q words r p e c st in
      let same = a.edge_is e st.from_first st.below_last in (
        record {
          above = omega (arith, a.first_is, st.from_first);
          below = omega (arith, a.first_is, a.count_is, st.below_last);
          leaves = ap (λ (x : sheet.Edge). x.from) same ∙ mv.from_state;
          holds =
              ap (λ (x : sheet.Edge). h x.test (p / q.states)) same
              ∙ (a.test_is e st.from_first st.below_last (p / q.states) (entry_in p st.source_in) ∙ mv.test_holds);
        },
        subst (λ (x : sheet.Edge). meaning.Moves n x.dir (p / q.states) (c / q.states)) (sym same)
            (goes_moves n (edge e).dir (p / q.states) (c / q.states) (entry_in c st.target_in) mv.goes),
        ap (λ (x : sheet.Edge). x.to) same ∙ mv.to_state,
      )

  -- and an edge that is taken is a step
  taken_step : (e s i j : ℕ) → s < q.states → i < n → meaning.Taken S (Is₂ h) m e s i → meaning.Moves n (S.edge e).dir i j
      → Step G (i * q.states + s) e (j * q.states + (S.edge e).to) × ((S.edge e).to < q.states) × (j < n)
  taken_step e s i j ls li t mv = (
    moves_step arcs q words r (i * q.states + s) e (j * q.states + (S.edge e).to) from_first below_last
        (config_inside i q.states s (length words) (omega (arith, a.long)) ls)
        (config_inside j q.states (S.edge e).to (length words) (omega (arith, a.long, jn)) to_in)
        (record {
          from_state = ap (λ (x : sheet.Edge). x.from) (sym same) ∙ (t.leaves ∙ sym (digits_mod i ls));
          to_state = ap (λ (x : sheet.Edge). x.to) (sym same) ∙ sym (digits_mod j to_in);
          test_holds =
              ap (λ (x : ℕ). bit (at words x) (edge e).test.0) (digits_div i ls)
              ∙ (sym (a.test_is e from_first below_last i li) ∙ (ap (λ (x : sheet.Edge). h x.test i) (sym same) ∙ t.holds));
          goes =
              subst (λ (x : ℕ). Goes (edge e).dir x ((j * q.states + (S.edge e).to) / q.states)) (sym (digits_div i ls))
              (subst (λ (x : ℕ). Goes (edge e).dir i x) (sym (digits_div j to_in))
              (moves_goes n (edge e).dir i j (r.each e from_first below_last).dir_fits (subst (λ (x : sheet.Edge). meaning.Moves n x.dir i j) same mv)));
        }),
    to_in,
    jn,
  )
    where
      from_first : q.first ≤ e
      from_first = omega (arith, a.first_is, t.above)

      below_last : e < q.first + q.count
      below_last = omega (arith, a.first_is, a.count_is, t.below)

      same : S.edge e ≡ edge_of (edge e)
      same = a.edge_is e from_first below_last

      to_in : (S.edge e).to < q.states
      to_in = let x : (S.edge e).to ≡ (edge e).to.0 = ap (λ (y : sheet.Edge). y.to) same in omega (arith, (r.each e from_first below_last).to_fits)

      jn : j < n
      jn = moves_in n (S.edge e).dir i j li mv

  -- walks of the graph are walks to a goal, and back
  pub walk_goes : (w : List ℕ) (p : ℕ) → p < length words * q.states → Walk G (GoalAt words q goal) w p → search.Goes S n m h g w (p % q.states) (p / q.states)
  walk_goes [] p l v = (
    p % q.states,
    p / q.states,
    (refl, refl),
    a.goal_is (p % q.states) (p / q.states) (mod-lt p r.some_state) (entry_in p l) ∙ (ap (goal_at words q goal) (div-add-mod' p q.states) ∙ v),
  )
  walk_goes (e ∷ w) p l (c, st, v) =
      let (t, mv, to) = step_taken p e c st in
      let (s', j, wk, z) = walk_goes w c st.target_in v in
      (s', j, (t, (c / q.states, mv, subst (λ (u : ℕ). meaning.Walk S (Is₂ h) n m w u (c / q.states) s' j) (sym to) wk)), z)

  pub goes_walk : (w : List ℕ) (s i : ℕ) → s < q.states → i < n → search.Goes S n m h g w s i → Walk G (GoalAt words q goal) w (i * q.states + s)
  goes_walk [] s i ls li (s', j, (x, y), z) = sym (a.goal_is s i ls li) ∙ rw (x, y) z
  goes_walk (e ∷ w) s i ls li (s', j, (t, (k, mv, wk)), z) =
      let (st, lt, lk) = taken_step e s i k ls li t mv in
      (k * q.states + (S.edge e).to, st, goes_walk w (S.edge e).to k lt lk (s', j, wk, z))

  module _ (D : List ℕ) (s i : ℕ) (d : Distances G (GoalAt words q goal) D (i * q.states + s)) (ls : s < q.states) (li : i < n) where
    abbrev start : ℕ
    start = i * q.states + s

    inside : start < length words * q.states
    inside = config_inside i q.states s (length words) ls' ls
      where
        ls' : i < length words
        ls' = omega (arith, a.long)

    here_goes : (w : List ℕ) → Walk G (GoalAt words q goal) w start → search.Goes S n m h g w s i
    here_goes w v =
        let x : search.Goes S n m h g w (start % q.states) (start / q.states) = walk_goes w start inside v in
        subst (λ (y : ℕ). search.Goes S n m h g w s y) (digits_div i ls) (subst (λ (y : ℕ). search.Goes S n m h g w y (start / q.states)) (digits_mod i ls) x)

    -- no distance: no walk is found
    pub found-far : at D start ≡ far → found S n m h g s i ≡ none
    found-far e = go (found S n m h g s i) refl
      where
        go : (o : Option (List ℕ)) → found S n m h g s i ≡ o → found S n m h g s i ≡ none
        go none p = p
        go (some es) p =
            let near = d.reached es (goes_walk es s i ls li (found_some S n m h g s i li es p).1) in
            absurd (omega arith)

    -- a distance: a walk of so many edges is found
    pub found_near : at D start < far → (es : List ℕ) × (found S n m h g s i ≡ some es) × (length es ≡ at D start)
    found_near l = go (found S n m h g s i) refl
      where
        walked : (w : List ℕ) × Walk G (GoalAt words q goal) w start × (length w ≡ at D start)
        walked = d.walked start inside l

        go : (o : Option (List ℕ)) → found S n m h g s i ≡ o → (es : List ℕ) × (found S n m h g s i ≡ some es) × (length es ≡ at D start)
        go none p = absurd (found_none S n m h g s i li p walked.0 (here_goes walked.0 walked.1))
        go (some es) p =
            let (_, goes, short) = found_some S n m h g s i li es p in
            let x = short walked.0 (here_goes walked.0 walked.1) in
            let y = near_least G (GoalAt words q goal) D start d es start inside (omega arith) (goes_walk es s i ls li goes) in
            let z = walked.2 in
            (es, p, omega arith)

    -- what falls along the distances by the lowest edges is the walk that is found
    pub found_descent : (w : List ℕ) (end : ℕ) → at D start < far → Descent G D w start end → at D end ≡ 0 → found S n m h g s i ≡ some w
    found_descent w end l t z =
        let (es, p, len) = found_near l in
        let (at_length, goes, _) = found_some S n m h g s i li es p in
        let size = descent_length G (GoalAt words q goal) D start d w start end t z in
        let v = here_goes w (descent_walk G (GoalAt words q goal) D start d w start end inside t z) in
        let first : Before es w = found_first S n m h g (length es) s i li es at_length w (omega arith) v in
        p ∙ ap some (descent_first G (GoalAt words q goal) D start d (forward arcs q words r) w start end l (omega arith) t z es (goes_walk es s i ls li goes) (omega arith) first)
