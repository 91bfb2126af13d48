-- The loop of judge_lines: what the lines left are judged, after those counted, is always what the whole log is.
use Rattle.std.proofs.Common.{◌≤◌, drop}
use Rattle.aldlf.specs.Constants.{entry_limit}
use Rattle.text.specs.Text.{lines}
use Rattle.joblog.specs.Steps.{due_of}
use Rattle.joblog.proofs.LineByLine.{Standing}
use Rattle.joblog.proofs.judging.judge_lines.Given as goal

abbrev pub invariant-loop-bytes : goal.invariant-loop-bytes
invariant-loop-bytes l = record {
  count≤ : l.count ≤ entry_limit;
  standing : Standing l.counted l.text (lines (drop l.bytes-iterator.at l.bytes-iterator.bytes.now)) l.count (due_of l.due);
}
