-- The printed page of document 01, over the defined outcomes of the calls: the sheet is read, then the log, then the log is judged, then the rule's walk is shown.
use Rattle.std.specs.Prelude.{Result, Ok, Err, ℕ, zero, suc, ◌*◌, ◌-◌, cond, ◌||◌, List, ◌++◌, length, take, replicate, eqb}
use Rattle.aldlf.specs.Constants.{entry_limit}
use Rattle.aldlf.specs.Refusals.{refusal_number}
use Rattle.aldlf.specs.declared.Refusal.{Refusal}
use Rattle.aldlf.specs.Sheet.{sheet_of}
use Rattle.aldlf.specs.Outcomes.{Whole, whole_outcome}
use Rattle.aldlf.specs.Walks.{Shown, walk_outcome}
use Rattle.aldlf.specs.declared.Table.{Table}
use Rattle.joblog.specs.Log.{LogRead, entries, refused, read_log}
use Rattle.sheet.specs.Answers.{SheetAnswer}
use Rattle.sheet.specs.Questions.{read_sheet}
use Rattle.sheet.specs.Given.{well_formed}
use Rattle.appending.specs.Placed.{Printed, placed}
use Rattle.lines.specs.Lines.{refusal_line, sheet_refusal_line, verdict_lines, walk_line, no_walk_line}

-- the longest shortest walk: states times entries less one edges
abbrev pub walk_limit : ℕ
walk_limit = 8191

-- no page is longer
abbrev pub page_limit : ℕ
page_limit = 40000

-- the rule is the last node
abbrev pub rule_of : Table → ℕ
rule_of t = t.used.nodes - 1

-- the line where no walk is shown: `walk,none` if 38 or 39 applies
unfoldable pub refused_walk : ℕ → List ℕ
refused_walk number = cond (eqb number 38 || eqb number 39) no_walk_line (refusal_line number 0)

-- the line of a walk as it is shown or not
unfoldable pub shown_line : Shown → List ℕ
shown_line s =
    elim s.number [
      | zero ↦ walk_line (take s.count s.buffer)
      | suc q ↦ refused_walk (suc q)
    ]

-- the rule's walk at entry 0
unfoldable pub walk_page : Table → List ℕ → List ℕ
walk_page t log = shown_line (walk_outcome (well_formed t) (sheet_of t) log (rule_of t) 0 (replicate walk_limit 0))

-- the verdict words that a page lends: enough for every log, all 0
abbrev pub lent_words : List ℕ
lent_words = replicate (2 * entry_limit) 0

-- a judged log of n entries: the verdict lines, then `rest`
unfoldable pub judged_page : (rule n : ℕ) → (rest : List ℕ) → Whole → List ℕ
judged_page rule n rest w =
    elim w.number [
      | zero ↦ verdict_lines rule w.held (take (2 * n) w.buffer) ++ rest
      | suc q ↦ refusal_line (suc q) 0
    ]

-- the page of a table and a log
unfoldable pub table_page : Table → List ℕ → List ℕ
table_page t log =
    judged_page (rule_of t) (length log) (walk_page t log) (whole_outcome (well_formed t) (sheet_of t) log lent_words)

-- the page of a table and a log as read
abbrev pub log_page : Table → LogRead → List ℕ
log_page t (entries log) = table_page t log
log_page t (refused number line) = refusal_line number line

-- the page by a rule that was read to a table, and a log
unfoldable pub rule_page : Table → (steps : List ℕ) → List ℕ
rule_page t steps = log_page t (read_log steps entry_limit)

-- the page of a sheet as read and a log: that of a refused sheet is the line of its refusal
unfoldable pub sheet_page : SheetAnswer → List ℕ → List ℕ
sheet_page a steps = cond (eqb a.number 0) (rule_page a.table steps) (sheet_refusal_line a.number a.line a.field)

-- the page of a sheet and a log
unfoldable pub page_of : (rules steps : List ℕ) → List ℕ
page_of rules steps = sheet_page (read_sheet rules) steps

-- what printing a page answers: how many bytes, or a refusal by its number, with no byte
abbrev pub printed_of : Result ℕ Refusal → List ℕ → Printed
printed_of (Ok n) buffer = record { number = 0; count = n; buffer = buffer }
printed_of (Err r) buffer = record { number = refusal_number r; count = 0; buffer = buffer }

-- printing the page of a sheet and a log: one that does not fit is refused by 44
unfoldable pub page_outcome : (rules steps lent : List ℕ) → Printed
page_outcome rules steps lent = placed 44 (page_of rules steps) lent
