-- read_by meets its contract: each early return is the first question that the definition gets a no from; then the words are stored. Assumes nothing.
use Rattle.std.proofs.Common.{◌≡◌, ◌≤◌, true, length, Err, sym, ◌∙◌, rules}
use Rattle.text.specs.Text.{byte_limit, lines, ends_in_lf}
use Rattle.joblog.specs.Results.{question_number}
use Rattle.joblog.specs.Steps.{read_by, words_by}
use Rattle.joblog.proofs.Told.{read_told, refused_told}
use Rattle.joblog.proofs.Questions.{log_21, log_22, log_line, log_27, log_fits, log_read, log_count}
use Rattle.joblog.proofs.read_by.Goals as goal
use Rattle.joblog.proofs.read_by.Goals.{Else-not-ends_in_lf}

pub returns-then-text-gt-BYTES : goal.returns-then-text-gt-BYTES
returns-then-text-gt-BYTES c =
    let a = c.args in
    let room = length a.words.now in
    rw c.whole_log.ensures (refused_told (read_by a.counted a.text.now room) 21 0 a.words.now (log_21 a.counted a.text.now room c.if-text-gt-BYTES.true))

pub returns-then-not-ends_in_lf : goal.returns-then-not-ends_in_lf
returns-then-not-ends_in_lf c =
    let a = c.args in
    let room = length a.words.now in
    let no = sym c.ends_in_lf.ensures ∙ c.if-not-ends_in_lf.true in
    rw c.whole_log-then-not-ends_in_lf.ensures (refused_told (read_by a.counted a.text.now room) 22 0 a.words.now (log_22 a.counted a.text.now room c.if-text-gt-BYTES.false no))

-- the text is short enough, and ends in LF
short : (c : Else-not-ends_in_lf) → length c.args.text.now ≤ byte_limit
short c = c.if-text-gt-BYTES.false

ended : (c : Else-not-ends_in_lf) → ends_in_lf c.args.text.now ≡ true
ended c = sym c.ends_in_lf.ensures ∙ c.if-not-ends_in_lf.false

pub returns-in_err-count : goal.returns-in_err-count
returns-in_err-count c =
    let a = c.args in
    let room = length a.words.now in
    let here = (goal.at.returns-in_err-count c).Else-not-ends_in_lf in
    let e = c.in_err-count.field-0.0 in
    let f : c.from_residual.result ≡ Err e = search rules in
    let judged = rw c.in_err-count.was at c.judge_lines.ensures in
    rw f (refused_told (read_by a.counted a.text.now room) (question_number e.question) e.line a.words.now (log_line a.counted a.text.now room (short here) (ended here) e judged))

pub returns-then-words-count : goal.returns-then-words-count
returns-then-words-count c =
    let a = c.args in
    let room = length a.words.now in
    let here = (goal.at.returns-then-words-count c).Else-not-ends_in_lf in
    let judged = rw c.in_ok-count.was at c.judge_lines.ensures in
    rw c.whole_log-then-words-count.ensures (refused_told (read_by a.counted a.text.now room) 27 0 a.words.now (log_27 a.counted a.text.now room (short here) (ended here) c.in_ok-count.count judged c.if-words-count.true))

pub store_words-requires : goal.store_words-requires
store_words-requires c =
    let a = c.args in
    let here = (goal.at.store_words-requires c).Else-not-ends_in_lf in
    let judged = rw c.in_ok-count.was at c.judge_lines.ensures in
    log_fits a.counted a.text.now (length a.words.now) (short here) (ended here) c.in_ok-count.count judged c.if-words-count.false

pub returns : goal.returns
returns c =
    let a = c.args in
    let text = a.text.now in
    let room = length a.words.now in
    let here = (goal.at.returns c).Else-not-ends_in_lf in
    let n = c.in_ok-count.count in
    let judged = rw c.in_ok-count.was at c.judge_lines.ensures in
    read_told (read_by a.counted text room) n (words_by a.counted (lines text)) a.words.now _ (log_read a.counted text room (short here) (ended here) n judged c.if-words-count.false) (log_count a.counted text room (short here) (ended here) n judged) c.store_words.ensures
