-- What the theorems say of a list of logs: log j, when the list is accepted, and what each refusal means.
use Rattle.std.specs.Prelude.{ℕ, suc, ◌*◌, ◌≤◌, ◌<◌, ◌≡◌, Bool, true, false, List, length, take, drop, get_or}
use Rattle.aldlf.specs.Constants.{entry_limit}
use Rattle.batch.specs.Batch.{list_limit, total, fits, has_room}

-- Log j of the list: as many words as its length says, after those of the logs before it.
abbrev pub log_at : (words lengths : List ℕ) → ℕ → List ℕ
log_at words lengths j = take (get_or lengths j 0) (drop (total (take j lengths)) words)

-- The table is some sheet's, every log fits, no word is left over, and the buffers have room.
pub record Accepts (given : Bool) (words lengths verdicts held : List ℕ) : Type 0 where
  pub table : given ≡ true
  pub logs : length lengths ≤ list_limit
  pub entries : (j : ℕ) → j < length lengths → (1 ≤ get_or lengths j 0) × (get_or lengths j 0 ≤ entry_limit)
  pub all_words : total lengths ≡ length words
  pub verdicts_room : 2 * length words ≤ length verdicts
  pub held_room : length lengths ≤ length held

-- The log that j logs stand before gets this answer to a question; its words start after theirs.
abbrev pub Answers : (ℕ → ℕ → ℕ → Bool) → List ℕ → ℕ → Bool → Type 0
Answers pass lengths j b = pass j (total (take j lengths)) (get_or lengths j 0) ≡ b

-- Every log of the list passes.
abbrev pub AllPass : (ℕ → ℕ → ℕ → Bool) → List ℕ → Type 0
AllPass pass lengths = (j : ℕ) → j < length lengths → Answers pass lengths j true

-- The first log that does not pass is the one that j logs stand before.
pub record FirstNot (pass : ℕ → ℕ → ℕ → Bool) (lengths : List ℕ) (j : ℕ) : Type 0 where
  pub in_list : j < length lengths
  pub before : (i : ℕ) → i < j → Answers pass lengths i true
  pub fails : Answers pass lengths j false

-- Which number and log are the answer, of so many words, these lengths and so many places in the buffers.
pub data Right (given : Bool) (words : ℕ) (lengths : List ℕ) (verdicts held : ℕ) : ℕ → ℕ → Type 0 where
  no_table : given ≡ false → Right given words lengths verdicts held 31 0
  no_log : {j : ℕ} → given ≡ true → FirstNot (fits words) lengths j → Right given words lengths verdicts held 32 (suc j)
  left_over : given ≡ true → AllPass (fits words) lengths → total lengths < words → Right given words lengths verdicts held 32 (suc (length lengths))
  no_room : {j : ℕ} → given ≡ true → AllPass (fits words) lengths → total lengths ≡ words → FirstNot (has_room verdicts held) lengths j → Right given words lengths verdicts held 33 (suc j)
  all_judged : given ≡ true → AllPass (fits words) lengths → total lengths ≡ words → AllPass (has_room verdicts held) lengths → Right given words lengths verdicts held 0 0
