-- What judging a list of logs answers, for every input: the questions in order, the verdict words and the counts of all logs, both lent buffers.
use Rattle.std.specs.Prelude.{ℕ, zero, suc, ◌+◌, ◌*◌, ◌-◌, Bool, true, false, cond, ◌&&◌, List, [], ◌∷◌, ◌++◌, leb, ltb, length, take, drop, Option, Some, None, Result, Ok, Err}
use Rattle.aldlf.specs.Constants.{entry_limit}
use Rattle.aldlf.specs.Sheet.{Sheet}
use Rattle.aldlf.specs.Outcomes.{log_words, held_in}
use Rattle.aldlf.specs.Refusals.{refusal_number}
use Rattle.batch.specs.declared.ListRefusal.{ListRefusal}

-- At most so many logs in a list.
abbrev pub list_limit : ℕ
list_limit = 65535

-- The logs that the lengths cut out of the words, in order.
abbrev pub logs_of : (words lengths : List ℕ) → List (List ℕ)
logs_of words [] = []
logs_of words (n ∷ ns) = take n words ∷ logs_of (drop n words) ns

-- How many entries these logs have: where the log after them starts.
abbrev pub total : List ℕ → ℕ
total [] = 0
total (n ∷ ns) = n + total ns

-- The verdict words of all logs, one after the other: two for each entry.
abbrev pub words_of : Sheet → List (List ℕ) → List ℕ
words_of S [] = []
words_of S (log ∷ logs) = log_words S log ++ words_of S logs

-- Each log's count held.
abbrev pub counts_of : Sheet → List (List ℕ) → List ℕ
counts_of S [] = []
counts_of S (log ∷ logs) = held_in S log ∷ counts_of S logs

-- Log by log, from the one that k logs and `at` words stand before: which is the first, counted from 1, that does not pass; 0 for none.
abbrev pub first_log : (ℕ → ℕ → ℕ → Bool) → (k at : ℕ) → List ℕ → ℕ
first_log pass k at [] = 0
first_log pass k at (n ∷ ns) = elim (pass k at n) [ true ↦ first_log pass (suc k) (at + n) ns | false ↦ suc k ]

-- Question 32 of a log of n entries: it is not too far back in the list, has 1 to 512 entries, and they are among the words.
abbrev pub fits : (words k at n : ℕ) → Bool
fits words k at n = ltb k list_limit && leb 1 n && leb n entry_limit && leb n (words - at)

-- Question 33 of a log of n entries: two verdict words for each, and a place for its count.
abbrev pub has_room : (verdicts held k at n : ℕ) → Bool
has_room verdicts held k at n = leb (2 * n) (verdicts - 2 * at) && ltb k held

-- Words left over are about the log after the last; 0 for none.
abbrev pub left_over : ℕ → List ℕ → ℕ
left_over words lengths = cond (ltb (total lengths) words) (suc (length lengths)) 0

-- Question 32 of the list: the first log that does not fit, else words left over.
abbrev pub misfit : ℕ → List ℕ → ℕ
misfit words lengths = elim (first_log (fits words) 0 0 lengths) [ zero ↦ left_over words lengths | suc k ↦ suc k ]

-- Question 33 of the list: the first log that has no room.
abbrev pub roomless : (verdicts held : ℕ) → List ℕ → ℕ
roomless verdicts held lengths = first_log (has_room verdicts held) 0 0 lengths

-- A log that was found, counted from 1; 0 for none.
abbrev pub log_of : Option ℕ → ℕ
log_of (Some k) = suc k
log_of None = 0

-- Number 0: every log is judged. Else the number of the first question that gets a no, and which log it is about, counted from 1 (0: about no log).
pub record BatchAnswer : Type 0 where
  pub number : ℕ
  pub log : ℕ

-- The answer that a call gives as a result.
abbrev pub batch_answer : {A : Type 0} → Result A ListRefusal → BatchAnswer
batch_answer (Ok a) = record { number = 0; log = 0 }
batch_answer (Err e) = record { number = refusal_number e.question; log = e.log }

-- Refused by question q about log k; the rest of the questions where k is 0.
abbrev pub about : (q k : ℕ) → BatchAnswer → BatchAnswer
about q zero rest = rest
about q (suc k) rest = record { number = q; log = suc k }

-- Questions 31, 32 and 33 in order, of so many words, these lengths and so many places in the two buffers.
unfoldable pub answer_to : Bool → ℕ → List ℕ → (verdicts held : ℕ) → BatchAnswer
answer_to given words lengths verdicts held =
    cond given
    (about 32 (misfit words lengths)
    (about 33 (roomless verdicts held lengths)
    (record { number = 0; log = 0 })))
    (record { number = 31; log = 0 })

-- The number of a refusal (0: accepted), which log it is about, and both buffers as the call ends.
pub record BatchOutcome : Type 0 where
  pub number : ℕ
  pub log : ℕ
  pub verdicts : List ℕ
  pub held : List ℕ

abbrev pub batch_ends : BatchAnswer → (verdicts held : List ℕ) → BatchOutcome
batch_ends a verdicts held = record { number = a.number; log = a.log; verdicts = verdicts; held = held }

-- The verdict buffer with the words of all logs in its first places; the rest is as lent.
abbrev pub verdicts_after : Sheet → (words lengths verdicts : List ℕ) → List ℕ
verdicts_after S words lengths verdicts = words_of S (logs_of words lengths) ++ drop (2 * length words) verdicts

-- The counts' buffer likewise.
abbrev pub held_after : Sheet → (words lengths held : List ℕ) → List ℕ
held_after S words lengths held = counts_of S (logs_of words lengths) ++ drop (length lengths) held

-- Accepted, both buffers are filled; a refusal alters nothing.
abbrev pub ends_by : BatchAnswer → Sheet → (words lengths verdicts held : List ℕ) → BatchOutcome
ends_by a S words lengths verdicts held =
    elim a.number [
      | zero ↦ batch_ends a (verdicts_after S words lengths verdicts) (held_after S words lengths held)
      | suc q ↦ batch_ends a verdicts held
    ]

-- Judging a list of logs (`given`: some sheet gives the table).
unfoldable pub batch_outcome : Bool → Sheet → (words lengths verdicts held : List ℕ) → BatchOutcome
batch_outcome given S words lengths verdicts held = ends_by (answer_to given (length words) lengths (length verdicts) (length held)) S words lengths verdicts held
