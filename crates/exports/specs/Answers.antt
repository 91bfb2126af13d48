-- What the calls answer, as one number, and what they leave in a lent slice: reading a sheet, its profile, the ways that its rule looks, reading a log, steps between counters and the entry that bears one.
use Rattle.std.specs.Prelude.{ℕ, ◌+◌, ◌*◌, cond, List, eqb, length}
use Rattle.aldlf.specs.Outcomes.{one}
use Rattle.aldlf.specs.declared.Table.{Table}
use Rattle.joblog.specs.Log.{LogOutcome, read_outcome}
use Rattle.joblog.specs.Counted.{counted_outcome, Lookup}
use Rattle.sheet.specs.Questions.{read_sheet}
use Rattle.profile.specs.Profile.{profile_outcome, profile_check}
use Rattle.stands.specs.Answers.{rule_looks_of}
use Rattle.crossing.specs.Numbers.{table_size, table_numbers, table_of}

-- bits 0 to 15 are the count, 16 to 31 the number of the question that got a no (0: accepted), 32 to 47 the line, 48 to 63 what a call gives besides (each says what; else 0)
unfoldable pub answer_code : (number line count extra : ℕ) → ℕ
answer_code number line count extra = count + 65536 * number + 4294967296 * line + 281474976710656 * extra

-- an accepted call's answer, and a refusal's about no line
abbrev pub accepted : ℕ → ℕ
accepted count = answer_code 0 0 count 0

abbrev pub refusal : ℕ → ℕ
refusal number = answer_code number 0 0 0

-- a call's answer, and the lent slice that it may write as it ends
pub record Outcome : Type 0 where
  pub answer : ℕ
  pub slice : List ℕ

abbrev pub outcome : ℕ → List ℕ → Outcome
outcome r slice = record { answer = r; slice = slice }

-- question 35: a lent table or row has its fixed length
abbrev pub of_length : ℕ → List ℕ → Outcome → Outcome
of_length n lent rest = cond (eqb (length lent) n) rest (outcome (refusal 35) lent)

-- a table as it is given: number, line and field; the table's numbers where it was accepted
abbrev pub table_into : List ℕ → (number line field : ℕ) → Table → Outcome
table_into lent number line field t = outcome (answer_code number line 0 field) (cond (eqb number 0) (table_numbers t) lent)

-- reading a sheet into a lent table; what is given besides is the field that a refusal is about
unfoldable pub sheet_outcome : (text table : List ℕ) → Outcome
sheet_outcome text table = let a = read_sheet text in of_length table_size table (table_into table a.number a.line a.field a.table)

-- making the profile of a lent table in another; it is about no line
unfoldable pub profile_made : (table out : List ℕ) → Outcome
profile_made table out = let a = profile_outcome (table_of table) in of_length table_size out (table_into out a.number 0 0 a.table)

-- whether a lent table is in the profile: a yes counts 1
unfoldable pub profile_asked : List ℕ → ℕ
profile_asked table = let c = profile_check (table_of table) in answer_code c.number 0 (one c.yes) 0

-- which ways a lent table's rule looks: ahead counts 1 and back 2, as the ways are numbered
unfoldable pub looks_asked : List ℕ → ℕ
looks_asked table = let a = rule_looks_of (table_of table) in answer_code a.number 0 (one a.ahead + 2 * one a.back) 0

-- a log as read: its number, its line, and how many entries
abbrev pub logged : LogOutcome → Outcome
logged o = outcome (answer_code o.number o.line o.count 0) o.buffer

-- reading a log into lent words
unfoldable pub log_outcome : (text words : List ℕ) → Outcome
log_outcome text words = logged (read_outcome text words)

-- reading a log with counters into lent words; what is given besides is the first counter
unfoldable pub counted_log_outcome : (text words : List ℕ) → Outcome
counted_log_outcome text words = let o = counted_outcome text words in outcome (answer_code o.log.number o.log.line o.log.count o.first) o.log.buffer

-- a lookup: the entry stands where a count does
abbrev pub looked_up : Lookup → ℕ
looked_up l = answer_code l.number 0 l.entry 0
