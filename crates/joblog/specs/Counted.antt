-- The log with the platesetter's counter: the circle of counters, what a line says, questions 24 to 29 in their order, and the entry that bears a counter.
use Rattle.std.specs.Prelude.{ℕ, ◌+◌, ◌-◌, ◌%◌, Bool, cond, not, ◌&&◌, ◌||◌, List, [], ◌∷◌, ◌++◌, length, take, drop, ◌==◌, nat_le, nat_lt, Result, Ok, Err}
use Rattle.aldlf.specs.Constants.{entry_limit}
use Rattle.aldlf.specs.Outcomes.{first_no}
use Rattle.text.specs.Text.{lf, comma, up_to, lines, line_at, number_in}
use Rattle.aldlf.specs.declared.Entry.{Entry}
use Rattle.aldlf.specs.declared.Refusal.{Refusal}
use Rattle.aldlf.specs.Refusals.{refusal_number}
use Rattle.joblog.specs.declared.counters.Counter.{Counter}
use Rattle.joblog.specs.Log as plain
use Rattle.joblog.specs.Log.{Facts, LogRead, entries, refused, entry, as_text, facts_of, question_of, LogOutcome, answer_of, outcome_of}

-- counters are below this number, and after the last comes 0 again
abbrev pub counter_limit : ℕ
counter_limit = 65536

-- the counter after c
abbrev pub next_counter : ℕ → ℕ
next_counter c = (c + 1) % counter_limit

-- the steps from the earlier counter to the later one, round the circle
abbrev pub steps_between : (earlier later : ℕ) → ℕ
steps_between a b = (b + (counter_limit - a)) % counter_limit

-- the counter of a line: its first field, one to five digits; a number that is no counter for another field
abbrev pub counter_at : List ℕ → ℕ
counter_at l = number_in 5 (take (up_to comma l) l)

-- what follows the first comma of a line
abbrev pub after_comma : List ℕ → List ℕ
after_comma l = drop (up_to comma l + 1) l

-- the facts of a line: what follows the first comma, read as a line of the first form
abbrev pub facts_at : List ℕ → Facts
facts_at l = facts_of (after_comma l)

-- whether question 24 gets a yes from facts
abbrev pub are_numbers : Facts → Bool
are_numbers f = not (question_of f == 24)

-- whether a counter is the one that is due; before the first line the limit is due, and any counter may come
abbrev pub follows : (due c : ℕ) → Bool
follows due c = due == counter_limit || c == due

-- the number of the question that a line gets a no from, 0 where it gets none: a comma and facts that are numbers, a counter, the one due; then 25 and 26 of the facts
unfoldable pub counted_question : (due : ℕ) → List ℕ → ℕ
counted_question due l =
    first_no
    ((nat_lt (up_to comma l) (length l) && are_numbers (facts_at l), 24)
    ∷ (nat_lt (counter_at l) counter_limit, 28)
    ∷ (follows due (counter_at l), 29)
    ∷ ((question_of (facts_at l) == 0), question_of (facts_at l))
    ∷ [])

-- the lines after the first k, of which the first has the counter due: of each in turn question 23, then its own
unfoldable pub counted_lines : (due k : ℕ) → List (List ℕ) → LogRead
counted_lines due k [] = entries []
counted_lines due k (l ∷ ls) = entry k (counted_question due l) (facts_at l) (counted_lines (next_counter (counter_at l)) (k + 1) ls)

-- a log with counters, read with a lent buffer of `room` words
unfoldable pub read_counted : List ℕ → ℕ → LogRead
read_counted text room = as_text text room (counted_lines counter_limit 0 (lines text))

-- the text of lines without their counters; only theorems cite this
unfoldable pub without_counters : List (List ℕ) → List ℕ
without_counters [] = []
without_counters (l ∷ ls) = after_comma l ++ lf ∷ without_counters ls

-- the first counter of a log: that of the line at its start
abbrev pub first_counter : List ℕ → ℕ
first_counter text = counter_at (line_at text 0)

-- What reading a log with counters answers: what reading a log does, and the first counter, 0 beside a refusal.
pub record CountedOutcome : Type 0 where
  pub log : LogOutcome
  pub first : ℕ

-- What reading a log with counters answers: how many entries were read, and the first counter; or the number of the question that got a no, and its line.
pub data CountedAnswer : Type 0 where
  Read : ℕ → Counter → CountedAnswer
  Refused : ℕ → ℕ → CountedAnswer

-- an answer's case: Read has the count of entries and the first counter; Refused its number and line
abbrev pub counted_answer_of : CountedAnswer → List ℕ → CountedOutcome
counted_answer_of (Read n c) buffer = record { log = answer_of (plain.Read n) buffer; first = c.0 }
counted_answer_of (Refused q k) buffer = record { log = answer_of (plain.Refused q k) buffer; first = 0 }

-- the first counter of a text that reads as r
abbrev pub first_of : List ℕ → LogRead → ℕ
first_of text (entries ws) = first_counter text
first_of text (refused q k) = 0

-- reading a log with counters into a lent buffer
abbrev pub counted_outcome : (text lent : List ℕ) → CountedOutcome
counted_outcome text lent = let r = read_counted text (length lent) in record { log = outcome_of r lent; first = first_of text r }

-- What a lookup answers: the number of a refusal (0: found), and the entry, 0 beside a refusal.
pub record Lookup : Type 0 where
  pub number : ℕ
  pub entry : ℕ

-- the entry that bears a counter, of n entries from the counter `first` on: questions 32 (1 to 512 entries) and 30 (one of them bears it)
unfoldable pub entry_bearing : (first n c : ℕ) → Lookup
entry_bearing first n c =
    cond (nat_le 1 n && nat_le n entry_limit)
    (cond (nat_lt (steps_between first c) n)
    (record { number = 0; entry = steps_between first c })
    (record { number = 30; entry = 0 }))
    (record { number = 32; entry = 0 })

-- a result's case: an entry is number 0 with it; a refusal its number with entry 0
abbrev pub found_of : Result Entry Refusal → Lookup
found_of (Ok e) = record { number = 0; entry = e.0 }
found_of (Err r) = record { number = refusal_number r; entry = 0 }
