-- What the calls that show a walk and print a page answer and leave in the lent slice.
use Rattle.std.specs.Prelude.{ℕ, List}
use Rattle.aldlf.specs.Sheet.{sheet_of}
use Rattle.aldlf.specs.Walks.{Shown, walk_outcome}
use Rattle.sheet.specs.Given.{well_formed}
use Rattle.appending.specs.Placed.{Printed}
use Rattle.report.specs.Page.{page_outcome}
use Rattle.crossing.specs.Numbers.{table_of}
use Rattle.exports.specs.Answers.{answer_code, Outcome, outcome}

-- showing a walk: how many edges it has
abbrev pub shown : Shown → Outcome
shown s = outcome (answer_code s.number 0 s.count 0) s.buffer

unfoldable pub walk_shown : (table log : List ℕ) → (node entry : ℕ) → List ℕ → Outcome
walk_shown table log node entry edges = let t = table_of table in shown (walk_outcome (well_formed t) (sheet_of t) log node entry edges)

-- printing a page: how many bytes it has
abbrev pub printed : Printed → Outcome
printed p = outcome (answer_code p.number 0 p.count 0) p.buffer

unfoldable pub page_printed : (rules steps page : List ℕ) → Outcome
page_printed rules steps page = printed (page_outcome rules steps page)
