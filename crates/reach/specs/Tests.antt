-- The nodes that edges test, as a set of nodes.
use Rattle.std.specs.Prelude.{ℕ, ◌<◌, ◌≡◌, Bool, true, List, [], ◌∷◌}
use Rattle.aldlf.specs.Constants.{node_limit}
use Rattle.aldlf.specs.Outcomes.{verdict_at}
use Rattle.reach.specs.declared.filling.NodeSet.{NodeSet}
use Rattle.reach.specs.Marks.{at, test_of}

-- Node k is in the set: it is read as an entry's verdict on node k is.
abbrev pub in_set : NodeSet → ℕ → Bool
in_set set k = verdict_at (set.low ∷ set.high ∷ []) 0 k

-- The node of each of the first n edges is in the set.
abbrev pub Tested : List ℕ → NodeSet → (n : ℕ) → Type 0
Tested E set n = (e : ℕ) → e < n → in_set set (test_of (at E e)) ≡ true

-- The set has grown, and has node k.
pub record With (set : NodeSet) (k : ℕ) (grown : NodeSet) : Type 0 where
  pub keeps : (j : ℕ) → j < node_limit → in_set set j ≡ true → in_set grown j ≡ true
  pub has : in_set grown k ≡ true
