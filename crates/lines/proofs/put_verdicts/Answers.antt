-- put_verdicts meets its contract: the entries are appended, then the rule. Assumes nothing.
use Prim.Native.Nat.{ℕ}
use mathlib.Core.Path.{ap}
use Rattle.lines.specs.Lines.{entries_in, rule_line, verdict_lines}
use Rattle.appending.proofs.Storing.{appends_then, appends_same}
use Rattle.lines.proofs.put_verdicts.Goals as goal

pub returns : goal.returns
unfolding verdict_lines
returns c =
    let a = c.args in
    appends_then c.put_entries-rule_at.ensures (appends_same (ap (λ (b : ℕ). rule_line b a.held (entries_in a.words.now)) c.verdict_digit-verdict.ensures) c.put_rule.ensures)
