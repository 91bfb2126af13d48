-- The code's results as the answers of Questions: a refusal's question is named by its number.
use Rattle.std.specs.Prelude.{ℕ, Result, Ok, Err}
use Rattle.aldlf.specs.declared.Table.{Table}
use Rattle.sheet.specs.declared.SheetQuestion.{SheetQuestion}
use Rattle.sheet.specs.declared.SheetQuestion.TheVariants as question
use Rattle.sheet.specs.declared.SheetRefusal.{SheetRefusal}
use Rattle.sheet.specs.declared.ranges.Stop as found
use Rattle.sheet.specs.Answers.{Stop, SheetAnswer}
use Rattle.sheet.specs.Ranges.{going_on}
use Rattle.sheet.specs.Questions.{empty_table, accepted}

-- The number of each question.
abbrev pub question_number : SheetQuestion → ℕ
question_number question.Bytes = 1
question_number question.LastByte = 2
question_number question.Known = 3
question_number question.Numbers = 4
question_number question.Room = 5
question_number question.Inside = 6
question_number question.Fact = 71
question_number question.Node = 72
question_number question.Automaton = 73
question_number question.State = 74
question_number question.Direction = 75
question_number question.Count = 76
question_number question.Accepting = 8
question_number question.Plain = 9
question_number question.Whole = 10
question_number question.LastLine = 11

-- Where reading stops, by what the code found; and by what a check of a line gives.
abbrev pub stop_by : found.Stop → Stop
stop_by s = record { number = question_number s.question; field = s.field }

abbrev pub stop_of : {A : Type 0} → Result A found.Stop → Stop
stop_of (Ok a) = going_on
stop_of (Err s) = stop_by s

-- The answer that a table or a refusal is.
abbrev pub answer_of : Result Table SheetRefusal → SheetAnswer
answer_of (Ok t) = accepted t
answer_of (Err r) = record { number = question_number r.question; line = r.line; field = r.field; table = empty_table }
