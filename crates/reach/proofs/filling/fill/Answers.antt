-- `fill` meets its contract: the columns of one entry more at each turn, whatever entry is remembered. Assumes nothing.
use Rattle.reach.proofs.Paired.{length-paired}
use Rattle.reach.proofs.Shared.{filling_placed}
use Rattle.reach.specs.Columns.{Filling}
use Rattle.reach.specs.Marks.{paired}
use lib.ListN.{length}
use mathlib.Core.Path.{subst}
use native.Mathlib.Omega.{arith}
use Rattle.reach.proofs.filling.fill.Goals as goal

pub holding-requires : goal.holding-requires
holding-requires c = omega (arith, c.loop-i-test.true, length-paired c.args.words.now)

pub place_entry-requires-clause-words_len_bound : goal.place_entry-requires-clause-words_len_bound
place_entry-requires-clause-words_len_bound c = (c.requires.steps_len.1, omega (arith, c.loop-i-test.true, length-paired c.args.words.now))

pub overflow_cast-seen : goal.overflow_cast-seen
overflow_cast-seen c = omega (arith, c.loop-i-test.true, length-paired c.args.words.now, c.requires.steps_len.1)

pub returns : goal.returns
returns c =
    let l = c.loop-i in
    let E = c.args.edges.now in
    let W = paired c.args.words.now in
    let whole = subst (λ z. Filling E W (length W) z l.steps) (omega (arith, l.auto.i-end, c.loop-i-test.false, length-paired c.args.words.now)) l.invariant.1 in
    record { told = c.traits_of-traits.ensures.0; placed = filling_placed E W (length W) l.steps whole; filled = whole.filled }
