-- `rozsvelen_entry_bearing` meets its contract: the entry where a count stands, or the refusal. Assumes nothing.
use mathlib.Core.Path.{ap, sym, ◌∙◌}
use Rattle.joblog.specs.Counted.{found_of}
use Rattle.exports.specs.Answers.{looked_up}
use Rattle.exports.proofs.rozsvelen_entry_bearing.Goals as goal

pub returns-in-Ok : goal.returns-in-Ok
returns-in-Ok c = rw c.from.ensures at c.code.ensures ∙ ap looked_up (ap found_of (sym c.in-Ok.is) ∙ c.entry_bearing.ensures.0)

pub returns-in-Err : goal.returns-in-Err
returns-in-Err c = rw c.number.ensures at c.code-in-Err.ensures ∙ ap looked_up (ap found_of (sym c.in-Err.is) ∙ c.entry_bearing.ensures.0)
