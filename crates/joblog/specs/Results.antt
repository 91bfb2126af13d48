-- The results of calls as document 01 has them: the number of each question, what the facts of a line say, and what reading answers.
use Rattle.std.specs.Prelude.{ℕ, Result, Ok, Err}
use Rattle.joblog.specs.declared.LogQuestion.{LogQuestion}
use Rattle.joblog.specs.declared.LogQuestion.TheVariants as question
use Rattle.joblog.specs.declared.LogRefusal.{LogRefusal}
use Rattle.joblog.specs.declared.Counted.{Counted}
use Rattle.joblog.specs.Log.{Facts, NotNumbers, TooLarge, NotRising, Word, LogAnswer}
use Rattle.joblog.specs.Log as plain
use Rattle.joblog.specs.Counted.{CountedAnswer}
use Rattle.joblog.specs.Counted as counted

-- The number of each question of a log.
abbrev pub question_number : LogQuestion → ℕ
question_number question.TooLong = 21
question_number question.NoLastLf = 22
question_number question.TooManyLines = 23
question_number question.NotNumbers = 24
question_number question.TooLarge = 25
question_number question.NotRising = 26
question_number question.Room = 27
question_number question.NotCounter = 28
question_number question.NotNext = 29

-- the facts of a line as a result: their word, or the question that gets a no
abbrev pub facts_result : Facts → Result ℕ LogQuestion
facts_result NotNumbers = Err question.NotNumbers
facts_result TooLarge = Err question.TooLarge
facts_result NotRising = Err question.NotRising
facts_result (Word w) = Ok w

-- the result of reading a log as an answer
abbrev pub answered : Result ℕ LogRefusal → LogAnswer
answered (Ok n) = plain.Read n
answered (Err r) = plain.Refused (question_number r.question) r.line

-- the result of reading a log with counters as an answer
abbrev pub counted_answered : Result Counted LogRefusal → CountedAnswer
counted_answered (Ok c) = counted.Read c.entries c.first
counted_answered (Err r) = counted.Refused (question_number r.question) r.line
