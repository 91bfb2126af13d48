-- The loop of store_words: the first k words are in place, and those of the lines left are the others.
use Rattle.std.proofs.Common.{drop}
use Rattle.text.specs.Text.{lines}
use Rattle.joblog.specs.Steps.{words_by}
use Rattle.joblog.proofs.Storing.{Stored}
use Rattle.joblog.proofs.store_words.Given as goal

abbrev pub invariant-loop-line : goal.invariant-loop-line
invariant-loop-line l =
    let r = l.line-iterator in
    Stored l.counted (words_by l.counted (lines l.text)) l.fn.words l.words (lines (drop r.at r.bytes.now)) l.k
