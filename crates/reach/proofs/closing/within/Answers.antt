-- `within` meets its contract where the states that stay are not asked for: none is added. Assumes nothing.
use Rattle.reach.proofs.Pulled.{beside_off}
use lib.Bits.{or_zero_r}
use mathlib.Core.Path.{sym, ◌∙◌}
use Rattle.reach.proofs.closing.within.Goals as goal

pub returns-else-asked : goal.returns-else-asked
returns-else-asked c = let a = c.args in
    record { within = 0; beside = beside_off _ a.steps.now a.place a.grown (sym c.asked.ensures ∙ c.if-asked.false); result = sym (or_zero_r a.grown) }
