-- `past` meets its contract where the part's end is found. Assumes nothing.
use Rattle.cases.proofs.Parts.{past_here}
use Rattle.cases.proofs.past.Goals as goal

pub returns-then-n-rest : goal.returns-then-n-rest
returns-then-n-rest c = past_here _ _ _ _ _ c.rest_from-rest.ensures c.up_to-n.ensures.0 c.if-n-rest.true
