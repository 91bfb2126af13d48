-- `place_entry` meets its contract: the place of an entry that is like this one, or columns of its own. Assumes nothing.
use Prim.Native.Nat.{◌+◌, ◌*◌, ◌/◌}
use Rattle.reach.proofs.Paired.{length-paired, pair_room}
use Rattle.reach.proofs.Shared.{filling_like, filling_own}
use Rattle.reach.specs.Marks.{paired}
use lib.ListN.{length, length-set}
use mathlib.Core.Path.{◌∙◌}
use native.Mathlib.Omega.{arith}
use Rattle.reach.proofs.filling.place_entry.Goals as goal

pub alike-requires : goal.alike-requires
alike-requires c = pair_room c.args.words.now c.args.pair.entry c.requires.words_len_bound.1

pub offset_bounds-steps-j : goal.offset_bounds-steps-j
offset_bounds-steps-j c = omega (arith, (c.alike.ensures c.if-alike.true).0, c.requires.words_len_bound)

pub bounds-steps-j : goal.bounds-steps-j
bounds-steps-j c = omega (arith, (c.alike.ensures c.if-alike.true).0, c.requires.words_len_bound, c.requires.filling.long)

pub returns-then-alike : goal.returns-then-alike
returns-then-alike c =
    let W = paired c.args.words.now in
    let found = c.alike.ensures c.if-alike.true in
    filling_like c.args.edges.now c.requires.edges_fit W c.args.tested (length W) c.args.pair.entry c.args.pair.like c.args.steps.now
    c.requires.tested c.requires.words_len_bound.1 found.0 found.1 c.requires.filling

pub overflow_cast-steps : goal.overflow_cast-steps
overflow_cast-steps c = omega (arith, c.requires.words_len_bound, length-paired c.args.words.now)

pub make-requires : goal.make-requires
make-requires c = record { edges_fit = c.requires.edges_fit; i_in_bounds = (omega (arith, c.requires.words_len_bound), omega (arith, length-set c.args.steps.now c.args.pair.entry (length c.args.words.now / 2 + 48 * c.args.pair.entry), length-paired c.args.words.now, c.requires.words_len_bound, c.requires.filling.long)) }

pub shape_of-steps : goal.shape_of-steps
shape_of-steps c = c.make.ensures.apart.same ∙ length-set c.args.steps.now c.args.pair.entry _

pub returns : goal.returns
returns c =
    let W = paired c.args.words.now in
    filling_own c.args.edges.now c.requires.edges_fit W (length W) c.args.pair.entry _ c.args.steps.now _ c.requires.words_len_bound.1 (omega (arith, length-paired c.args.words.now)) c.requires.filling
    c.make.ensures.apart c.make.ensures.columns
