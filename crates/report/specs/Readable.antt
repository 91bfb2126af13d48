-- The page of a sheet and a log that were both read, written out: no line of it is a refusal.
use Rattle.std.specs.Prelude.{ℕ, List, ◌++◌}
use Rattle.std.proofs.Math.Option.{Option, none, some}
use Rattle.aldlf.specs.Sheet.{sheet_of}
use Rattle.aldlf.specs.Outcomes.{log_words, held_in}
use Rattle.aldlf.specs.Walks.{walk_of}
use Rattle.aldlf.specs.declared.Table.{Table}
use Rattle.lines.specs.Lines.{verdict_lines, walk_line, no_walk_line}
use Rattle.report.specs.Page.{rule_of}

-- the line of the walk that there is, or `walk,none`
abbrev pub walk_or_none : Option (List ℕ) → List ℕ
walk_or_none none = no_walk_line
walk_or_none (some es) = walk_line es

-- the verdicts of the table's sheet on the log and the count held, then the walk that shows the rule at entry 0
unfoldable pub read_page : Table → List ℕ → List ℕ
read_page t log = verdict_lines (rule_of t) (held_in (sheet_of t) log) (log_words (sheet_of t) log) ++ walk_or_none (walk_of (sheet_of t) log (rule_of t) 0)
