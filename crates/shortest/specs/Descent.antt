-- Only for the proofs of the code: what it is for a list to hold the distances to the goals, and the walks that fall along them by the lowest edges.
use Rattle.std.specs.Prelude.{◌≡◌, List, [], ◌∷◌, ◌++◌, ℕ, ◌+◌, ◌*◌, ◌≤◌, ◌<◌, length, drop}
use Rattle.aldlf.specs.declared.Edge.{Edge}
use Rattle.graph.specs.Graph.{Graph, Step, Walk, far, at}
use Rattle.graph.specs.Configurations.{Moves}
use Rattle.graph.specs.declared.moves.Configuration.{Configuration}

-- D has the distance of c to the goals, and of every configuration that is nearer: the length of some walk, which no walk is shorter than; far where
-- there is no walk from c.
pub record Distances (G : Graph) (goal : ℕ → Type 0) (D : List ℕ) (c : ℕ) : Type 0 where
  pub whole : length D ≡ G.size
  pub walked : (p : ℕ) → p < G.size → at D p < far → (w : List ℕ) × Walk G goal w p × (length w ≡ at D p)
  pub least : (w : List ℕ) (p : ℕ) → p < G.size → Walk G goal w p → length w < at D c → at D p ≤ length w
  pub reached : (w : List ℕ) → Walk G goal w c → at D c < far

-- D falls from c to 0: from each configuration at a distance above 0 and not beyond that of c some edge leads one nearer.
pub record Descends (G : Graph) (D : List ℕ) (c : ℕ) : Type 0 where
  pub whole : length D ≡ G.size
  pub nearer : (p : ℕ) → p < G.size → at D p < far → at D p ≤ at D c → 0 < at D p → (e : ℕ) × (q : ℕ) × Step G p e q × (at D p ≡ at D q + 1)

-- The number of a configuration of so many states, and that its two numbers are in range.
abbrev pub number_of : ℕ → Configuration → ℕ
number_of states c = c.entry.0 * states + c.state.0

pub record Inside (states n : ℕ) (c : Configuration) : Type 0 where
  pub state_fits : c.state.0 < states
  pub entry_fits : c.entry.0 < n

-- r is the entry at which e arrives from c in a configuration at distance d, or far.
pub record Nearer (words D : List ℕ) (e : Edge) (states c d r : ℕ) : Type 0 where
  pub there : (r ≡ far → ⊥) → (r < length words) × Moves words e states c (r * states + e.to.0) × (at D (r * states + e.to.0) ≡ d)
  pub none : r ≡ far → (q : ℕ) → q < length words * states → Moves words e states c q → at D q ≡ d → ⊥

-- The lowest edge that leads from c to a configuration at distance d, with that configuration.
pub record Lowest (G : Graph) (D : List ℕ) (c d e q : ℕ) : Type 0 where
  pub step : Step G c e q
  pub near : at D q ≡ d
  pub low : (a r : ℕ) → a < e → Step G c a r → at D r ≡ d → ⊥

-- The edges w go from p to q, each the lowest that brings it one nearer by D.
abbrev pub Descent : Graph → List ℕ → List ℕ → ℕ → ℕ → Type 0
Descent G D [] p q = p ≡ q
Descent G D (e ∷ w) p q = (x : ℕ) × Lowest G D p (at D x) e x × (at D p ≡ at D x + 1) × Descent G D w x q

-- The first places of a buffer hold such edges from c to a configuration at distance 0, the rest is as before.
pub record Written (G : Graph) (D : List ℕ) (c : ℕ) (before after : List ℕ) (n : ℕ) : Type 0 where
  pub walk : List ℕ
  pub end : ℕ
  pub leads : Descent G D walk c end
  pub ends : at D end ≡ 0
  pub long : length walk ≡ n
  pub written : after ≡ walk ++ drop n before
