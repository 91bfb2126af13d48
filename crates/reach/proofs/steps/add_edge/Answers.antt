-- `add_edge` meets its contract: the edge's own column gets its state, where its node holds. Assumes nothing.
use Rattle.reach.proofs.Paired.{pair_room, reads as read_is}
use Rattle.reach.specs.Marks.{test_of}
use mathlib.Core.Path.{refl, sym, ◌∙◌}
use Rattle.reach.proofs.steps.add_edge.Goals as goal
use Rattle.reach.proofs.steps.add_edge.Goals.{then-on, else-on}

pub verdict-on-requires : goal.verdict-on-requires
verdict-on-requires c = (c.requires.edge_fits.test_fits, pair_room c.args.words.now c.args.i c.requires.i_in_bounds.0)

pub returns : goal.returns
returns c =
    let a = c.args in
    let read = c.verdict-on.ensures ∙ read_is a.words.now a.i (test_of a.p) c.requires.i_in_bounds.0 c.requires.edge_fits.test_fits in
    elim c.if-on.branch [
      | then-on w ↦ rw (w.steps-is, c.one_bit-from.ensures, c.column_of.ensures.0, sym read ∙ w.if-on.true) refl
      | else-on w ↦ rw (w.steps-is, c.column_of.ensures.0, sym read ∙ w.if-on.false) refl
    ]
