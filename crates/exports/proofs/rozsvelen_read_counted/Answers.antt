-- `rozsvelen_read_counted` meets its contract: the answer of the log with counters, as one number. Assumes nothing.
use mathlib.Core.Path.{ap}
use native.Mathlib.Omega.{arith}
use Rattle.joblog.specs.Results.{question_number, counted_answered}
use Rattle.exports.proofs.Logs.{counted_count, counted_line, counted_read, counted_refused}
use Rattle.exports.proofs.rozsvelen_read_counted.Goals as goal

pub code-requires : goal.code-requires
code-requires c =
    let a = c.args in
    let l = c.read_counted in
    let v = c.in-Ok.log in
    (omega arith, omega (arith, counted_count a.text.now a.words.now _ (counted_answered l.result) l.ensures v.entries v.first (ap counted_answered c.in-Ok.is)))

pub code-requires-in-Err : goal.code-requires-in-Err
code-requires-in-Err c =
    let a = c.args in
    let l = c.read_counted in
    let e = c.in-Err.refused in
    (omega (arith, counted_line a.text.now a.words.now _ (counted_answered l.result) l.ensures (question_number e.question) e.line (ap counted_answered c.in-Err.is)), omega arith)

pub returns-in-Ok : goal.returns-in-Ok
returns-in-Ok c =
    let a = c.args in
    let l = c.read_counted in
    let v = c.in-Ok.log in
    counted_read a.text.now a.words.now _ (counted_answered l.result) l.ensures v.entries v.first _ (ap counted_answered c.in-Ok.is) c.code.ensures

pub returns-in-Err : goal.returns-in-Err
returns-in-Err c =
    let a = c.args in
    let l = c.read_counted in
    let e = c.in-Err.refused in
    counted_refused a.text.now a.words.now _ (counted_answered l.result) l.ensures (question_number e.question) e.line _ (ap counted_answered c.in-Err.is) (rw (← c.number.ensures) c.code-in-Err.ensures)
