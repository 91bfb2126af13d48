-- Columns of steps: for each entry 48 masks, one for each group of directions and target state; bit s of a column says that some edge whose node holds there goes that way from state s to the column's state.
use Rattle.std.specs.Prelude.{ℕ, ◌+◌, ◌*◌, ◌^◌, ◌≤◌, ◌<◌, ◌≡◌, ◌⊎◌, Bool, true, List, eqb, length}
use Rattle.std.specs.Int.Bits.{bit_or}
use Rattle.aldlf.specs.Constants.{state_limit}
use Rattle.aldlf.specs.Sheet.{bit}
use Rattle.reach.specs.Marks.{at, pick, from_of, to_of, dir_in, test_of}

-- The group of a direction: edges that stay, that go ahead, that go back.
abbrev pub group_of : ℕ → ℕ
group_of d = pick (eqb d 0) 0 (pick (eqb d 1) 1 2)

-- The column of edge p among its entry's 48.
abbrev pub column_of : ℕ → ℕ
column_of p = 16 * group_of (dir_in p) + to_of p

-- Bit g of `looks` is set for the group of each of the first n edges.
abbrev pub Told : List ℕ → (looks n : ℕ) → Type 0
Told E looks n = (e : ℕ) → e < n → bit looks (group_of (dir_in (at E e))) ≡ true

-- One of the first k edges goes from s to t, in a direction of group g, and its node holds by the entry's number.
pub record Step (E : List ℕ) (word k g s t : ℕ) : Type 0 where
  pub edge : ℕ
  pub early : edge < k
  pub group : group_of (dir_in (at E edge)) ≡ g
  pub from : from_of (at E edge) ≡ s
  pub lands : to_of (at E edge) ≡ t
  pub holds : bit word (test_of (at E edge)) ≡ true

-- The states with a step into the first n states of the mask, by the columns from place p on.
pub record Pulled (C : List ℕ) (p mask n r : ℕ) : Type 0 where
  pub fits : r < 2 ^ state_limit
  pub all : (s t : ℕ) → t < n → bit mask t ≡ true → bit (at C (p + t)) s ≡ true → bit r s ≡ true
  pub sound : (s : ℕ) → bit r s ≡ true → (t : ℕ) × (t < n) × (bit mask t ≡ true) × (bit (at C (p + t)) s ≡ true)

-- The 48 columns from place p on are just the steps of the first k edges at an entry with this number.
pub record Held (E : List ℕ) (word k : ℕ) (C : List ℕ) (p : ℕ) : Type 0 where
  pub have : (e : ℕ) → e < k → bit word (test_of (at E e)) ≡ true → bit (at C (p + column_of (at E e))) (from_of (at E e)) ≡ true
  pub only : (g t s : ℕ) → g < 3 → t < state_limit → s < state_limit → bit (at C (p + (16 * g + t))) s ≡ true → Step E word k g s t

-- The lists agree but for places from p to before q.
pub record Apart (p q : ℕ) (C C2 : List ℕ) : Type 0 where
  pub same : length C2 ≡ length C
  pub left : (x : ℕ) → (x < p) ⊎ (q ≤ x) → at C2 x ≡ at C x

-- P holds of each state that has, by the columns from place p on, a step to where P holds.
abbrev pub Back : List ℕ → ℕ → (ℕ → Bool) → Type 0
Back C p P = (s t : ℕ) → s < state_limit → t < state_limit → bit (at C (p + t)) s ≡ true → P t ≡ true → P s ≡ true

-- Of the first n columns from place p on, those with state k have got all of column k.
pub record Pivoted (C : List ℕ) (p k n : ℕ) (C2 : List ℕ) : Type 0 where
  pub apart : Apart p (p + state_limit) C C2
  pub done : (u : ℕ) → u < n → at C2 (p + u) ≡ pick (bit (at C (p + u)) k) (bit_or (at C (p + u)) (at C (p + k))) (at C (p + u))
  pub rest : (u : ℕ) → n ≤ u → at C2 (p + u) ≡ at C (p + u)

-- Steps by way of a state below k are steps themselves; what else the columns from p on have is by the old ones.
pub record Joined (C : List ℕ) (p k : ℕ) (C2 : List ℕ) : Type 0 where
  pub apart : Apart p (p + state_limit) C C2
  pub keeps : (s t : ℕ) → t < state_limit → bit (at C (p + t)) s ≡ true → bit (at C2 (p + t)) s ≡ true
  pub sound : (P : ℕ → Bool) → Back C p P → Back C2 p P
  pub through : (s m u : ℕ) → s < state_limit → m < k → u < state_limit → bit (at C2 (p + m)) s ≡ true → bit (at C2 (p + u)) m ≡ true → bit (at C2 (p + u)) s ≡ true

-- The columns from place p on are the steps of these edges at an entry with this number; those that stay have all that is reached by staying.
pub record Columns (E : List ℕ) (word : ℕ) (C : List ℕ) (p : ℕ) : Type 0 where
  pub have : (e : ℕ) → e < length E → bit word (test_of (at E e)) ≡ true → bit (at C (p + column_of (at E e))) (from_of (at E e)) ≡ true
  pub only : (g t s : ℕ) → 0 < g → g < 3 → t < state_limit → s < state_limit → bit (at C (p + (16 * g + t))) s ≡ true → Step E word (length E) g s t
  pub sound : (P : ℕ → Bool) → ((s t : ℕ) → Step E word (length E) 0 s t → P t ≡ true → P s ≡ true) → Back C p P
  pub through : (s m u : ℕ) → s < state_limit → m < state_limit → u < state_limit → bit (at C (p + m)) s ≡ true → bit (at C (p + u)) m ≡ true → bit (at C (p + u)) s ≡ true

-- The first numbers of a log's steps are the places of its entries' columns.
pub record Placed (n : ℕ) (C : List ℕ) : Type 0 where
  pub room : n ≤ length C
  pub each : (i : ℕ) → i < n → at C i + 48 ≤ length C

-- The columns of the first k entries are the steps of these edges there.
abbrev pub Filled : List ℕ → List ℕ → (k : ℕ) → List ℕ → Type 0
Filled E words k C = (i : ℕ) → i < k → Columns E (at words i) C (at C i)

-- So on the way, when the columns of the first k entries are made: they lie behind the n places, and before those of later entries.
pub record Filling (E words : List ℕ) (n k : ℕ) (C : List ℕ) : Type 0 where
  pub long : length C ≡ 49 * n
  pub behind : (i : ℕ) → i < k → n ≤ at C i
  pub before : (i : ℕ) → i < k → at C i + 48 ≤ n + 48 * k
  pub filled : Filled E words k C
