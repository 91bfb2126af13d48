-- put_log_page meets its contract: the log's refusal, or the page of its words. Assumes nothing.
use Prim.Native.Nat.{ℕ, ◌≤◌}
use lib.ListN.{length, take, replicate}
use lib.Seq.{length-take-le}
use Rattle.std.proofs.Common.{Ok}
use mathlib.Core.Path.{◌≡◌, ap, sym}
use Rattle.aldlf.specs.Constants.{entry_limit}
use Rattle.joblog.specs.Log.{entries, read_log}
use Rattle.joblog.specs.Results.{question_number, answered}
use Rattle.joblog.proofs.Answers.{sound_log}
use Rattle.joblog.proofs.Told.{told_refused}
use Rattle.report.specs.Page.{log_page}
use Rattle.appending.proofs.Storing.{appends_same}
use Rattle.report.proofs.Answers.{log-entries}
use Rattle.report.proofs.put_log_page.Goals as goal
use Rattle.report.proofs.put_log_page.Goals.{After-read_log}

-- the log was read to the first words of the buffer
read : (c : After-read_log) → (n : ℕ) → c.read_log.result ≡ Ok n
    → (n ≤ length c.read_log.new.words) × (read_log c.args.steps.now entry_limit ≡ entries (take n c.read_log.new.words))
read c n is =
    let r = c.read_log in
    log-entries c.args.steps.now (replicate entry_limit 0) r.new.words (answered r.result) n r.ensures (ap answered is)

pub slice_bounds-words-end : goal.slice_bounds-words-end
slice_bounds-words-end c = (read (goal.at.slice_bounds-words-end c).After-read_log c.in-Ok.n c.in-Ok.is).0

pub slice_bounds-put_table_page-end : goal.slice_bounds-put_table_page-end
slice_bounds-put_table_page-end c =
    sym (length-take-le c.in-Ok.n c.read_log.new.words (read (goal.at.slice_bounds-put_table_page-end c).After-read_log c.in-Ok.n c.in-Ok.is).0)

pub returns-in-Ok : goal.returns-in-Ok
returns-in-Ok c =
    λ t P. appends_same (ap (log_page t) (sym (read (goal.at.returns-in-Ok c).After-read_log c.in-Ok.n c.in-Ok.is).1)) (c.put_table_page.ensures t P)

pub returns-in-Err : goal.returns-in-Err
returns-in-Err c =
    let a = c.args in
    let r = c.read_log in
    let e = c.in-Err.refusal in
    let told = told_refused (replicate entry_limit 0) r.new.words _ (sound_log a.steps.now entry_limit) (answered r.result) r.ensures (question_number e.question) e.line (ap answered c.in-Err.is) in
    λ t P. appends_same (ap (log_page t) (sym told.0)) (rw (← c.number.ensures) c.put_refusal.ensures)
