-- `rozsvelen_read_log` meets its contract: the answer of the log, as one number. Assumes nothing.
use mathlib.Core.Path.{ap}
use native.Mathlib.Omega.{arith}
use Rattle.joblog.specs.Results.{question_number, answered}
use Rattle.exports.proofs.Logs.{log_count, log_line, log_read, log_refused}
use Rattle.exports.proofs.rozsvelen_read_log.Goals as goal

pub code-requires : goal.code-requires
code-requires c =
    let a = c.args in
    let l = c.read_log in
    let v = c.in-Ok in
    (omega arith, omega (arith, log_count a.text.now a.words.now _ (answered l.result) l.ensures v.entries (ap answered v.is)))

pub code-requires-in-Err : goal.code-requires-in-Err
code-requires-in-Err c =
    let a = c.args in
    let l = c.read_log in
    let e = c.in-Err.refusal in
    (omega (arith, log_line a.text.now a.words.now _ (answered l.result) l.ensures (question_number e.question) e.line (ap answered c.in-Err.is)), omega arith)

pub returns-in-Ok : goal.returns-in-Ok
returns-in-Ok c =
    let a = c.args in
    let l = c.read_log in
    let v = c.in-Ok in
    log_read a.text.now a.words.now _ (answered l.result) l.ensures v.entries _ (ap answered v.is) c.code.ensures

pub returns-in-Err : goal.returns-in-Err
returns-in-Err c =
    let a = c.args in
    let l = c.read_log in
    let e = c.in-Err.refusal in
    log_refused a.text.now a.words.now _ (answered l.result) l.ensures (question_number e.question) e.line _ (ap answered c.in-Err.is) (rw (← c.number.ensures) c.code-in-Err.ensures)
