-- `rozsvelen_steps_between` meets its contract: the steps, where a count stands. Assumes nothing.
use mathlib.Core.Path.{ap, ◌∙◌}
use Rattle.exports.specs.Answers.{accepted}
use Rattle.exports.proofs.rozsvelen_steps_between.Goals as goal

pub returns : goal.returns
returns c = c.code.ensures ∙ ap accepted (c.from.ensures ∙ c.steps_between-n.ensures)
