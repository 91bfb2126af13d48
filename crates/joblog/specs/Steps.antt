-- What the steps of the code say, for the contracts of its own functions only: the facts read so far, what a line and a log of either form are asked, its words stored.
use Rattle.std.specs.Prelude.{◌≡◌, ℕ, ◌+◌, ◌^◌, ◌<◌, ◌≤◌, Bool, true, false, cond, ◌&&◌, List, [], ◌∷◌, length, nat_le, nat_lt, Option, Some, None, Result, Ok, Err}
use Rattle.aldlf.specs.Constants.{fact_limit}
use Rattle.text.specs.Text.{not_number, lines}
use Rattle.joblog.specs.declared.facts.Seen.{Seen}
use Rattle.joblog.specs.declared.LogQuestion.{LogQuestion}
use Rattle.joblog.specs.declared.LogRefusal.{LogRefusal}
use Rattle.joblog.specs.declared.counters.Counter.{Counter}
use Rattle.joblog.specs.Log.{Facts, NotNumbers, TooLarge, NotRising, Word, pick, all_below, rising, word_of, facts_of, question_of, word_in, LogRead, entries, refused, entry, as_text}
use Rattle.joblog.specs.Results.{question_number}
use Rattle.joblog.specs.Counted.{counter_limit, next_counter, counter_at, facts_at, counted_question}

-- questions 24 to 26 of the numbers of a line, after those that s tells of
unfoldable pub facts_from : Seen → List ℕ → Facts
facts_from s ns =
    pick (all_below not_number ns)
    (pick (s.below && all_below fact_limit ns)
    (pick (s.rising && rising s.least ns) (Word (s.word + word_of ns)) NotRising)
    TooLarge)
    NotNumbers

-- no fact seen yet
abbrev pub start : Seen
start = record { below = true; rising = true; least = 0; word = 0 }

-- one fact more
unfoldable pub seen_with : Seen → ℕ → Seen
seen_with s f =
    cond (nat_lt f fact_limit)
    (cond (nat_le s.least f)
    (record { below = s.below; rising = s.rising; least = f + 1; word = s.word + 2 ^ f })
    (record { below = s.below; rising = false; least = s.least; word = s.word }))
    (record { below = false; rising = s.rising; least = s.least; word = s.word })

-- the bits of a word seen are all below the next fact's
pub record Sound (s : Seen) : Type 0 where
  pub least≤ : s.least ≤ fact_limit
  pub word< : s.word < 2 ^ s.least

-- the two forms of a line, by whether it has a counter: its facts
abbrev pub facts_by : (counted : Bool) → List ℕ → Facts
facts_by true l = facts_at l
facts_by false l = facts_of l

-- the number of the question that it gets a no from; 0 where it gets none
abbrev pub question_by : (counted : Bool) (due : ℕ) → List ℕ → ℕ
question_by true due l = counted_question due l
question_by false due l = question_of (facts_of l)

-- the counter due after it
abbrev pub due_by : (counted : Bool) (due : ℕ) → List ℕ → ℕ
due_by true due l = next_counter (counter_at l)
due_by false due l = due

-- a counter that may be due; none is due before the first line, for which the limit stands
abbrev pub due_of : Option Counter → ℕ
due_of None = counter_limit
due_of (Some c) = c.0

-- the counter of a line, where it has one
abbrev pub CounterOf : List ℕ → Option Counter → Type 0
CounterOf l None = counter_limit ≤ counter_at l
CounterOf l (Some c) = c.0 ≡ counter_at l

-- what a line is asked: the counter due after it; or the question that gets a no
abbrev pub AskedOf : (counted : Bool) (due : ℕ) (l : List ℕ) → Result (Option Counter) LogQuestion → Type 0
AskedOf counted due l (Ok next) = (question_by counted due l ≡ 0) × (due_of next ≡ due_by counted due l)
AskedOf counted due l (Err q) = question_by counted due l ≡ question_number q

-- the lines of either form after the first k: read_lines and counted_lines
unfoldable pub lines_by : (counted : Bool) (due k : ℕ) → List (List ℕ) → LogRead
lines_by counted due k [] = entries []
lines_by counted due k (l ∷ ls) = entry k (question_by counted due l) (facts_by counted l) (lines_by counted (due_by counted due l) (k + 1) ls)

-- a log of either form: readLog and read_counted
unfoldable pub read_by : (counted : Bool) → List ℕ → ℕ → LogRead
read_by counted text room = as_text text room (lines_by counted counter_limit 0 (lines text))

-- the words of lines, 0 for a line that gets a no
unfoldable pub words_by : (counted : Bool) → List (List ℕ) → List ℕ
words_by counted [] = []
words_by counted (l ∷ ls) = word_in (facts_by counted l) ∷ words_by counted ls

-- what lines after k others are judged, by what they read to: how many lines there are in all; or the question that got a no, and its line
abbrev pub JudgedFrom : (k : ℕ) → LogRead → Result ℕ LogRefusal → Type 0
JudgedFrom k (entries ws) (Ok n) = n ≡ k + length ws
JudgedFrom k (entries ws) (Err r) = ⊥
JudgedFrom k (refused q l) (Ok n) = ⊥
JudgedFrom k (refused q l) (Err r) = (question_number r.question ≡ q) × (r.line ≡ l)
