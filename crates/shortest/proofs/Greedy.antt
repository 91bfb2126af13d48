-- Going by the lowest edge that brings it one nearer gives the first of the shortest walks; there is such an edge wherever there is a walk that is not at its end.
use mathlib.Core.Path.{◌≡◌, refl, ap, ap₂, ◌∙◌, subst}
use mathlib.Core.List.{List, [], ◌∷◌}
use mathlib.Core.Logic.{inl, inr, ⊎_elim}
use Prim.Native.Nat.{ℕ, ◌+◌, ◌≤◌, ◌<◌}
use native.Mathlib.Omega.{arith}
use lib.ListN.{length}
use Rattle.aldlf.specs.Walks.{Before}
use Rattle.aldlf.proofs.Bools.{lt-or-le}
use Rattle.graph.specs.Graph.{Graph, Step, Walk, Forward, far, at}
use Rattle.shortest.specs.Descent.{Distances, Descends, Descent}

module _ (G : Graph) (goal : ℕ → Type 0) (D : List ℕ) (c : ℕ) (d : Distances G goal D c) where
  -- no walk from a configuration as near as c is shorter than its distance
  pub near_least : (w : List ℕ) (p : ℕ) → p < G.size → at D p ≤ at D c → Walk G goal w p → at D p ≤ length w
  near_least w p pin le v = ⊎_elim (λ l. d.least w p pin v l) (λ l. omega arith) (lt-or-le (length w) (at D c))

  -- the first edge of a walk of the distance's length brings it one nearer
  nearer : (e : ℕ) (w : List ℕ) (p : ℕ) → at D p < far → at D p ≤ at D c → length {A = ℕ} (e ∷ w) ≡ at D p → (v : Walk G goal (e ∷ w) p) → at D p ≡ at D v.0 + 1
  nearer e w p m le n v =
      let a : at D v.0 ≤ length w = d.least w v.0 v.1.target_in v.2 (omega arith) in
      let u = d.walked v.0 v.1.target_in (omega arith) in
      let b : at D p ≤ length {A = ℕ} (e ∷ u.0) = near_least (e ∷ u.0) p v.1.source_in le (v.0, v.1, u.1) in
      let f = u.2 in
      omega arith

  -- where there is a walk and it is no goal, some edge brings it one nearer
  pub descends : Descends G D c
  descends = record { whole = d.whole; nearer = some-edge }
    where
      some-edge : (p : ℕ) → p < G.size → at D p < far → at D p ≤ at D c → 0 < at D p → (e : ℕ) × (q : ℕ) × Step G p e q × (at D p ≡ at D q + 1)
      some-edge p pin m le z = go (d.walked p pin m).0 (d.walked p pin m).1 (d.walked p pin m).2
        where
          go : (w : List ℕ) → Walk G goal w p → length w ≡ at D p → (e : ℕ) × (q : ℕ) × Step G p e q × (at D p ≡ at D q + 1)
          go [] v n = absurd (omega arith)
          go (e ∷ w) v n = (e, v.0, v.1, nearer e w p m le n v)

  at-goal : (p : ℕ) → p < G.size → at D p ≡ 0 → goal p
  at-goal p pin z = go (d.walked p pin (omega arith)).0 (d.walked p pin (omega arith)).1 (d.walked p pin (omega arith)).2
    where
      go : (w : List ℕ) → Walk G goal w p → length w ≡ at D p → goal p
      go [] v n = v
      go (e ∷ w) v n = absurd (omega arith)

  pub descent_length : (w : List ℕ) (p h : ℕ) → Descent G D w p h → at D h ≡ 0 → at D p ≡ length w
  descent_length [] p h g z = ap (at D) g ∙ z
  descent_length (e ∷ w) p h g z = let i = descent_length w g.0 h g.3 z in let a = g.2 in omega arith

  pub descent_walk : (w : List ℕ) (p h : ℕ) → p < G.size → Descent G D w p h → at D h ≡ 0 → Walk G goal w p
  descent_walk [] p h pin g z = at-goal p pin (ap (at D) g ∙ z)
  descent_walk (e ∷ w) p h pin g z = (g.0, g.1.step, descent_walk w g.0 h g.1.step.target_in g.3 z)

  -- no walk of that length comes before it
  pub descent_first :
      Forward G → (w : List ℕ) (p h : ℕ) → at D p < far → at D p ≤ at D c → Descent G D w p h → at D h ≡ 0 → (v : List ℕ) → Walk G goal v p → length v ≡ length w → Before v w → v ≡ w
  descent_first fw [] p h m le g z [] u n b = refl
  descent_first fw [] p h m le g z (x ∷ v) u n b = absurd (omega arith)
  descent_first fw (e ∷ w) p h m le g z [] u n b = absurd (omega arith)
  descent_first fw (e ∷ w) p h m le g z (x ∷ v) u n (inl l) =
      let near : at D p ≡ at D u.0 + 1 = nearer x v p m le (let a = descent_length (e ∷ w) p h g z in omega arith) u in
      absurd (g.1.low x u.0 l u.1 (let a = g.2 in omega arith))
  descent_first fw (e ∷ w) p h m le g z (x ∷ v) u n (inr (q, b)) =
      let same : u.0 ≡ g.0 = fw p e u.0 g.0 (subst (λ (y : ℕ). Step G p y u.0) q u.1) g.1.step in
      ap₂ (λ (y : ℕ) (l : List ℕ). y ∷ l) q
      (descent_first fw w g.0 h (let a = g.2 in omega arith) (let a = g.2 in omega arith) g.3 z v (subst (Walk G goal v) same u.2) (omega arith) b)
