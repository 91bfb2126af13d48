-- Helper definitions that only the proofs of the code need: one entry, one turn, and what is known on the way.
use Rattle.std.specs.Prelude.{ℕ, ◌+◌, ◌-◌, ◌^◌, ◌≤◌, ◌<◌, ◌≡◌, Bool, true, false, not, ◌&&◌, ◌||◌, List, [], ◌∷◌, eqb, ltb, length, set}
use Rattle.std.specs.Int.Bits.{bit_or}
use Rattle.aldlf.specs.Constants.{state_limit}
use Rattle.aldlf.specs.Sheet.{bit}
use Rattle.aldlf.specs.Verdict.{facing, reached}
use Rattle.reach.specs.declared.Goal.{Goal}
use Rattle.reach.specs.declared.spreading.Visit.{Visit}
use Rattle.reach.specs.Marks.{at, pick, from_of, to_of, dir_in, test_of, EdgesFit, slice_sheet, holds_in}
use Rattle.reach.specs.Columns.{group_of, Told, Columns, Filled}

-- The first answer where yes, the second where no.
abbrev pub pick_bool : Bool → Bool → Bool → Bool
pick_bool true a b = a
pick_bool false a b = b

-- One entry ---------------------------------------------------------------------------------------------------------------------

-- The mask at the entry that an edge of direction d goes to: its own, that ahead of it or that behind it.
abbrev pub side_of : (d here ahead behind : ℕ) → ℕ
side_of d here ahead behind = pick (eqb d 0) here (pick (eqb d 1) ahead behind)

-- Edge p adds no state to the mask of an entry with this number.
abbrev pub Settled : (p word ahead behind mask : ℕ) → Type 0
Settled p word ahead behind mask = bit word (test_of p) ≡ true → bit (side_of (dir_in p) mask ahead behind) (to_of p) ≡ true → bit mask (from_of p) ≡ true

-- P holds where an edge goes: within the entry as P itself says, else by the mask beside.
abbrev pub lands_in : (d ahead behind : ℕ) → (ℕ → Bool) → (to : ℕ) → Bool
lands_in d ahead behind P to = pick_bool (eqb d 0) (P to) (bit (pick (eqb d 1) ahead behind) to)

-- P holds of each state that an edge leaves to where P holds.
abbrev pub Pulls : List ℕ → (word ahead behind : ℕ) → (ℕ → Bool) → Type 0
Pulls E word ahead behind P =
    (e : ℕ) → e < length E → bit word (test_of (at E e)) ≡ true → lands_in (dir_in (at E e)) ahead behind P (to_of (at E e)) ≡ true → P (from_of (at E e)) ≡ true

-- The mask has grown from `start` by edges alone, and no edge of a direction that was due, or that added nothing before, adds to it.
pub record Closed (E : List ℕ) (word ahead behind due start mask : ℕ) : Type 0 where
  pub keeps : (s : ℕ) → bit start s ≡ true → bit mask s ≡ true
  pub sound : (P : ℕ → Bool) → ((s : ℕ) → s < state_limit → bit start s ≡ true → P s ≡ true) → Pulls E word ahead behind P
      → (s : ℕ) → s < state_limit → bit mask s ≡ true → P s ≡ true
  pub still : (e : ℕ) → e < length E → (bit due (group_of (dir_in (at E e))) ≡ false → Settled (at E e) word ahead behind start) → Settled (at E e) word ahead behind mask

-- The states with a step into a mask by the columns from place p on; where they are not asked for, none.
pub record Beside (on : Bool) (C : List ℕ) (p mask r : ℕ) : Type 0 where
  pub fits : r < 2 ^ state_limit
  pub none : on ≡ false → r ≡ 0
  pub all : on ≡ true → (s t : ℕ) → t < state_limit → bit mask t ≡ true → bit (at C (p + t)) s ≡ true → bit r s ≡ true
  pub sound : (s : ℕ) → bit r s ≡ true → (t : ℕ) × (t < state_limit) × (bit mask t ≡ true) × (bit (at C (p + t)) s ≡ true)

-- The states of `grown`, which has grown from `start`, with those that have a step that stays into it. Nothing is added where no edge stays, or where
-- nothing has grown and those that stay are not due.
pub record Stayed (v : Visit) (C : List ℕ) (p start grown r : ℕ) : Type 0 where
  pub within : ℕ
  pub beside : Beside (bit v.looks 0 && (bit v.due 0 || not (eqb grown start))) C p grown within
  pub result : r ≡ bit_or grown within

-- All entries -------------------------------------------------------------------------------------------------------------------

-- The masks beside entry i; outside the log the exits.
abbrev pub ahead_of : List ℕ → ℕ → ℕ → ℕ
ahead_of M exits i = pick (ltb (i + 1) (length M)) (at M (i + 1)) exits

abbrev pub behind_of : List ℕ → ℕ → ℕ → ℕ
behind_of M exits i = pick (eqb i 0) exits (at M (i - 1))

-- What is reached from state s at entry i, where the goals are those of the seeds.
unfoldable pub reached_from : List ℕ → (exits : ℕ) → (words seeds : List ℕ) → ℕ → ℕ → Bool
reached_from E exits words seeds s i =
    reached (slice_sheet E) (length words) 0 (holds_in words) (λ u j. bit (at seeds j) u) (λ u. bit exits u) s i

-- The masks on the way, and which entries are due to be looked at again, by the group of their edges.
pub record Marking (E : List ℕ) (exits : ℕ) (words seeds M : List ℕ) (due : ℕ → ℕ → Bool) : Type 0 where
  pub same : length M ≡ length words
  pub fits : (i : ℕ) → i < length words → at M i < 2 ^ state_limit
  pub keeps : (s i : ℕ) → i < length words → bit (at seeds i) s ≡ true → bit (at M i) s ≡ true
  pub sound : (s i : ℕ) → s < state_limit → i < length words → bit (at M i) s ≡ true → reached_from E exits words seeds s i ≡ true
  pub still : (i e : ℕ) → i < length words → e < length E → due i (group_of (dir_in (at E e))) ≡ false
      → Settled (at E e) (at words i) (ahead_of M exits i) (behind_of M exits i) (at M i)

-- All edges are due at all entries; at those below i, and elsewhere only the edges that go back; as the flags say; none.
abbrev pub all_due : ℕ → ℕ → Bool
all_due j g = true

abbrev pub swept_to : (i : ℕ) → ℕ → ℕ → Bool
swept_to i j g = ltb j i || eqb g 2

abbrev pub due_in : List ℕ → ℕ → ℕ → Bool
due_in T j g = bit (at T j) g

abbrev pub none_due : ℕ → ℕ → Bool
none_due j g = false

-- An entry was closed, and says whether its mask changed.
pub record Visited (v : Visit) (C M M2 : List ℕ) (changed : Bool) : Type 0 where
  pub new : ℕ
  pub fits : new < 2 ^ state_limit
  pub grown : at M v.entry ≤ new
  pub closed : (E : List ℕ) (word : ℕ) → EdgesFit E → Told E v.looks (length E) → Columns E word C (at C v.entry)
      → Closed E word (ahead_of M v.exits v.entry) (behind_of M v.exits v.entry) v.due (at M v.entry) new
  pub written : M2 ≡ set M v.entry new
  pub changed_is : changed ≡ not (eqb new (at M v.entry))

-- From masks for which some edges are due to masks for which others are, for all edges whose steps these are.
abbrev pub Moves : (exits looks : ℕ) → (C M M2 : List ℕ) → (due due2 : ℕ → ℕ → Bool) → Type 0
Moves exits looks C M M2 due due2 =
    (E words seeds : List ℕ) → EdgesFit E → Told E looks (length E) → Filled E words (length words) C → Marking E exits words seeds M due → Marking E exits words seeds M2 due2

-- The flag of group g of entry j is set; no other flag changes.
pub record Raised (g j : ℕ) (T T2 : List ℕ) : Type 0 where
  pub same : length T2 ≡ length T
  pub only : (k h : ℕ) → bit (at T2 k) h ≡ false → bit (at T k) h ≡ false
  pub hit : j < length T → bit (at T2 j) g ≡ true
  pub others : (k : ℕ) → ¬ (k ≡ j) → at T2 k ≡ at T k

-- The edges that go back at the entry after i are due, and where `ahead` those that go ahead at the entry before i; no other flag changes.
pub record Touched (ahead : Bool) (i : ℕ) (T T2 : List ℕ) : Type 0 where
  pub same : length T2 ≡ length T
  pub only : (k h : ℕ) → bit (at T2 k) h ≡ false → bit (at T k) h ≡ false
  pub before : ahead ≡ true → (j : ℕ) → j + 1 ≡ i → bit (at T2 j) 1 ≡ true
  pub after : i + 1 < length T → bit (at T2 (i + 1)) 2 ≡ true
  pub others : (k : ℕ) → (ahead ≡ true → ¬ (k + 1 ≡ i)) → ¬ (k ≡ i + 1) → at T2 k ≡ at T k

-- The sum of a list, which grows with each mask.
abbrev pub sum : List ℕ → ℕ
sum [] = 0
sum (x ∷ l) = x + sum l

-- After entry i's turn: nothing is due there, and only the entry after it, or, where `again`, also the one before it may be due anew.
pub record Turned (exits looks : ℕ) (C : List ℕ) (i : ℕ) (M T M2 T2 : List ℕ) (again : Bool) : Type 0 where
  pub same : length M2 ≡ length M
  pub room : length T2 ≡ length T
  pub moves : Moves exits looks C M M2 (due_in T) (due_in T2)
  pub fits : ((j : ℕ) → j < length M → at M j < 2 ^ state_limit) → (j : ℕ) → j < length M → at M2 j < 2 ^ state_limit
  pub done : at T2 i ≡ 0
  pub cleared : (j : ℕ) → (again ≡ true → ¬ (j + 1 ≡ i)) → ¬ (j ≡ i + 1) → at T j ≡ 0 → at T2 j ≡ 0
  pub grows : sum M ≤ sum M2
  pub more : again ≡ true → sum M < sum M2

-- The entry to go to after a turn at entry j.
abbrev pub next_of : (again : Bool) → (j : ℕ) → ℕ
next_of again j = pick again (j - 1) (j + 1)

-- The seed of an entry: the accepting states where the goal's node is as wanted.
abbrev pub seed_of : Goal → List ℕ → ℕ → ℕ
seed_of g words i = pick (facing g.want (holds_in words g.node.0 i)) g.accepting 0

-- The masks of the first n entries are their seeds.
pub record Seeded (g : Goal) (words : List ℕ) (n : ℕ) (M : List ℕ) : Type 0 where
  pub masks : (i : ℕ) → i < n → at M i ≡ seed_of g words i
