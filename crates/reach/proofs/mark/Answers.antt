-- `mark` meets its contract: what the sweep and the turns make of the seeds is what is reached of the goal. Assumes nothing.
use Rattle.reach.proofs.Goals.{marking_start, reaching, seeds_fit}
use Rattle.reach.proofs.Turns.{swept_all}
use Rattle.reach.specs.Marks.{paired}
use mathlib.Core.Path.{sym, ◌∙◌}
use native.Mathlib.Omega.{arith}
use Rattle.reach.proofs.mark.Goals as goal

pub returns-then-has : goal.returns-then-has
returns-then-has c =
    let g = c.args.goal in
    let W = paired c.args.words.now in
    let r = c.seed in
    let seeds = r.new.masks in
    λ E f told F. reaching E f g W seeds _ r.ensures
    (c.rise.ensures.moves E W seeds f told F
    (c.sweep.ensures.moves E W seeds f told F
    (marking_start E g.exits W seeds (r.auto.masks ∙ c.requires.node_lt_node_limit.1) (seeds_fit g W seeds (omega arith) r.ensures))))

pub returns-else-has : goal.returns-else-has
returns-else-has c =
    let g = c.args.goal in
    let W = paired c.args.words.now in
    let r = c.seed in
    let seeds = r.new.masks in
    λ E f told F. reaching E f g W seeds _ r.ensures
    (swept_all g.exits g.looks c.args.steps.now _ (sym c.has.ensures ∙ c.if-has.false) E W seeds f told F
    (c.sweep.ensures.moves E W seeds f told F
    (marking_start E g.exits W seeds (r.auto.masks ∙ c.requires.node_lt_node_limit.1) (seeds_fit g W seeds (omega arith) r.ensures))))
