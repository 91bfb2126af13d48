-- store_words meets its contract: a line more has its word in its place, and at the text's end all have theirs. Assumes nothing.
use Rattle.std.proofs.Common.{◌≡◌, drop, refl}
use Rattle.text.specs.Text.{lines}
use Rattle.joblog.specs.Steps.{words_by}
use Rattle.joblog.proofs.Storing.{stored_start, stored_end, place_left, stored_next}
use Rattle.joblog.proofs.store_words.Goals as goal

pub loop-line-init : goal.loop-line-init
loop-line-init c =
    let a = c.args in
    let at = c.reader_at-line-items.ensures in
    let start : lines (drop c.into_iter-line-iterator.result.at c.into_iter-line-iterator.result.bytes.now) ≡ lines a.text.now = rw (c.into_iter-line-iterator.ensures.into_iter_gives, at.1, at.0) refl in
    rw start (stored_start a.counted (lines a.text.now) a.words.now c.requires)

pub bounds-words-k : goal.bounds-words-k
bounds-words-k c =
    let l = c.loop-line in
    place_left c.args.counted (words_by c.args.counted (lines c.args.text.now)) c.args.words.now l.words _ l.k _ _ l.invariant c.in-Some.ensures.steps

pub loop-line-preserved : goal.loop-line-preserved
loop-line-preserved c =
    let l = c.loop-line in
    stored_next c.args.counted (words_by c.args.counted (lines c.args.text.now)) c.args.words.now l.words _ l.k _ _ l.invariant c.in-Some.ensures.steps c.word_by.result c.word_by.ensures

pub returns : goal.returns
returns c =
    let l = c.loop-line in
    stored_end c.args.counted (words_by c.args.counted (lines c.args.text.now)) c.args.words.now l.words _ l.k l.invariant c.in-None.ensures.steps.0
