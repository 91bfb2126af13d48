-- Only for the proofs of the code: a finite graph with numbered edges, and its walks to a set of goals.
use Rattle.std.specs.Prelude.{◌≡◌, List, [], ◌∷◌, ℕ, ◌≤◌, ◌<◌, get_or}

-- `size` configurations; the edges' numbers are those from `first` on below `last`; `pre e q` is the configuration from which edge e leads to q, or a
-- number not below `size` where there is none.
pub record Graph : Type 0 where
  pub size : ℕ
  pub first : ℕ
  pub last : ℕ
  pub pre : ℕ → ℕ → ℕ

-- Edge e leads from p to q.
pub record Step (G : Graph) (p e q : ℕ) : Type 0 where
  pub from_first : G.first ≤ e
  pub below_last : e < G.last
  pub source : G.pre e q ≡ p
  pub source_in : p < G.size
  pub target_in : q < G.size

-- The edges w lead from p to a goal.
abbrev pub Walk : Graph → (ℕ → Type 0) → List ℕ → ℕ → Type 0
Walk G goal [] p = goal p
Walk G goal (e ∷ w) p = (q : ℕ) × Step G p e q × Walk G goal w q

-- An edge leads from p to one configuration at most.
abbrev pub Forward : Graph → Type 0
Forward G = (p e q r : ℕ) → Step G p e q → Step G p e r → q ≡ r

-- No configuration; and, as a distance, not reached.
abbrev pub far : ℕ
far = 65535

-- The number at place i of a list.
abbrev pub at : List ℕ → ℕ → ℕ
at l i = get_or l i 0
