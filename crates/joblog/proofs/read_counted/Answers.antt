-- read_counted meets its contract: the reading by form is the definition's, and where it reads, its first line has a counter. Assumes nothing.
use Rattle.std.proofs.Common.{◌≡◌, Err, ap, rules}
use Rattle.joblog.specs.Results.{question_number, answered}
use Rattle.joblog.proofs.CountedTold.{counted_small, counted_read, counted_refused}
use Rattle.joblog.proofs.read_counted.Goals as goal

pub returns-in_err-entries : goal.returns-in_err-entries
returns-in_err-entries c =
    let a = c.args in
    let r = c.read_by in
    let e = c.in_err-entries.field-0.0 in
    let f : c.from_residual.result ≡ Err e = search rules in
    rw f (counted_refused a.text.now a.words.now _ (answered r.result) r.ensures (question_number e.question) e.line (ap answered c.in_err-entries.was))

pub first_counter-requires : goal.first_counter-requires
first_counter-requires c =
    let a = c.args in
    let r = c.read_by in
    counted_small a.text.now a.words.now _ (answered r.result) r.ensures c.in_ok-entries.entries (ap answered c.in_ok-entries.was)

pub returns : goal.returns
returns c =
    let a = c.args in
    let r = c.read_by in
    counted_read a.text.now a.words.now _ (answered r.result) r.ensures c.in_ok-entries.entries c.first_counter.result (ap answered c.in_ok-entries.was) c.first_counter.ensures
