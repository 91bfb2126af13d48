-- Only for the proofs of the code: what holds of the distances and the queue of a breadth-first search on the way.
use Rattle.std.specs.Prelude.{◌≡◌, List, [], ◌∷◌, Bool, true, false, ◌&&◌, ℕ, suc, ◌+◌, ◌≤◌, ◌<◌, eqb, ltb, length, set}
use Rattle.graph.specs.Graph.{Graph, Step, Walk, far, at}
use Rattle.graph.specs.Configurations.{pick_nat}

-- one more, but where told not to
abbrev pub pick : Bool → ℕ → ℕ
pick true n = n
pick false n = suc n

-- how many numbers of a list are not far
abbrev pub marked : List ℕ → ℕ
marked [] = 0
marked (x ∷ l) = pick (eqb x far) (marked l)

-- the search has closed the queue's places below h, and of the place h the edges below k; the queue has t places
pub record Progress (G : Graph) (goal : ℕ → Type 0) (D Q : List ℕ) (h k t : ℕ) : Type 0 where
  pub whole : length D ≡ G.size
  pub room : G.size ≤ length Q
  pub fits : G.size ≤ 8192
  pub head : h ≤ t
  pub counted : marked D ≡ t
  pub placed : (i : ℕ) → i < t → at Q i < G.size
  pub short : (i : ℕ) → i < t → at D (at Q i) ≤ i
  pub queued : (c : ℕ) → c < G.size → at D c < far → (i : ℕ) × (i < t) × (at Q i ≡ c)
  pub rising : (i j : ℕ) → i ≤ j → j < t → at D (at Q i) ≤ at D (at Q j)
  pub near : h < t → (i : ℕ) → i < t → at D (at Q i) ≤ at D (at Q h) + 1
  pub walked : (c : ℕ) → c < G.size → at D c < far → (w : List ℕ) × Walk G goal w c × (length w ≡ at D c)
  pub goals : (c : ℕ) → c < G.size → goal c → at D c ≡ 0
  pub closed : (i e p : ℕ) → i < h → Step G p e (at Q i) → at D p ≤ at D (at Q i) + 1
  pub partly : h < t → (e p : ℕ) → e < k → Step G p e (at Q h) → at D p ≤ at D (at Q h) + 1
  pub ranged : (c : ℕ) → c < G.size → at D c ≤ far

-- the configurations at which D has 0
abbrev pub zero_in : List ℕ → ℕ → Type 0
zero_in D c = at D c ≡ 0

-- p is a configuration that is not reached yet
abbrev pub fresh : List ℕ → ℕ → Bool
fresh D p = ltb p (length D) && eqb (at D p) far

-- the first of two lists, or the second
abbrev pub pick_list : Bool → List ℕ → List ℕ → List ℕ
pick_list true a b = a
pick_list false a b = b

-- p marked with d where it is fresh: the distances, the queue and its length
pub record Relaxed (D Q : List ℕ) (p d t : ℕ) (D2 Q2 : List ℕ) (t2 : ℕ) : Type 0 where
  pub dist : D2 ≡ pick_list (fresh D p) (set D p d) D
  pub queue : Q2 ≡ pick_list (fresh D p) (set Q t p) Q
  pub tail : t2 ≡ pick_nat (fresh D p) (t + 1) t

-- c marked at distance 0 where it is a goal: the distances, the queue and its length
pub record Put (D Q : List ℕ) (goal : Bool) (c t : ℕ) (D2 Q2 : List ℕ) (t2 : ℕ) : Type 0 where
  pub dist : D2 ≡ pick_list goal (set D c 0) D
  pub queue : Q2 ≡ pick_list goal (set Q t c) Q
  pub tail : t2 ≡ pick_nat goal (t + 1) t

-- of the configurations below c those that are goals have 0 and stand in the queue, and all others have far
pub record Seeded (goal : ℕ → Bool) (D Q : List ℕ) (c t : ℕ) : Type 0 where
  pub few : t ≤ c
  pub set_to : (i : ℕ) → i < c → at D i ≡ pick_nat (goal i) 0 far
  pub rest : (i : ℕ) → c ≤ i → i < length D → at D i ≡ far
  pub counted : marked D ≡ t
  pub placed : (i : ℕ) → i < t → (at Q i < c) × (goal (at Q i) ≡ true)
  pub queued : (i : ℕ) → i < c → goal i ≡ true → (j : ℕ) × (j < t) × (at Q j ≡ i)
