-- put_entries meets its contract: the lines of the entries passed are appended. Assumes nothing.
use mathlib.Core.Path.{ap}
use native.Mathlib.Omega.{arith}
use Rattle.lines.specs.Lines.{entries_below}
use Rattle.appending.proofs.Storing.{appends_none, appends_then, appends_same}
use Rattle.lines.proofs.Passed.{entries_next}
use Rattle.lines.proofs.put_entries.Goals as goal

pub loop-i-init : goal.loop-i-init
unfolding entries_below
loop-i-init c = appends_none c.args.out.now c.args.at

pub loop-i-preserved : goal.loop-i-preserved
loop-i-preserved c =
    let a = c.args in
    appends_same (entries_next a.rule.0 a.words.now c.loop-i.i c.verdict_digit.result c.verdict_digit.ensures) (appends_then c.loop-i.invariant c.put_entry-next.ensures)

pub returns : goal.returns
returns c = let a = c.args in appends_same (ap (entries_below a.rule.0 a.words.now) (omega arith)) c.loop-i.invariant
