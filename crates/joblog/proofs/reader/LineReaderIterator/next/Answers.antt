-- next meets its contract: the line at the reader's place is the first of those left, and at the text's end there is none. Assumes nothing.
use Rattle.std.proofs.Common.{◌≡◌, ◌∷◌, drop, length, ap, arith, rules}
use Rattle.text.specs.Text.{lines}
use Rattle.text.proofs.Lines.{lines_end}
use Rattle.joblog.proofs.Places.{lines_next}
use Rattle.joblog.proofs.reader.LineReaderIterator.next.Goals as goal
use Rattle.joblog.proofs.reader.LineReaderIterator.next.Goals.{After-after_line}

pub returns-then-self-clause-steps : goal.returns-then-self-clause-steps
returns-then-self-clause-steps c =
    let r = c.args.self.now in
    let e = lines_end r.bytes.now r.at c.if-self.true in
    (e, e)

-- the line handed over stands before those left
split : (c : After-after_line) → lines (drop c.args.self.now.at c.args.self.now.bytes.now) ≡ c.line_of-line.result.now ∷ lines (drop c.after_line.result.at c.after_line.result.bytes.now)
split c =
    let r = c.args.self.now in
    rw (c.line_of-line.ensures, c.after_line.ensures.1, c.after_line.ensures.0) (lines_next r.bytes.now r.at c.if-self.false)

pub returns-clause-steps : goal.returns-clause-steps
returns-clause-steps c = split (goal.at.returns-clause-steps c).After-after_line

pub returns-clause-goes : goal.returns-clause-goes
returns-clause-goes c =
    let e = split (goal.at.returns-clause-goes c).After-after_line in
    record { on = λ _. (search rules, search rules, omega (arith, ap length e)); keeps = search rules; rests = λ _. search rules }
