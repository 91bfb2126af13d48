-- `mark_all` meets its contract: the pass from place k down is what is left. Assumes nothing.
use mathlib.Core.Path.{◌∙◌}
use Rattle.aldlf.specs.Sheet.{sheet_of}
use Rattle.stands.proofs.MarkLaws.{from_next}
use Rattle.stands.proofs.marking.mark_all.Goals as goal

pub loop-k-preserved : goal.loop-k-preserved
loop-k-preserved c =
    let l = c.loop-k in
    let r = c.mark_turn in (
      r.auto.flags ∙ l.invariant.0,
      r.auto.taken ∙ l.invariant.1,
      λ t L. let M = r.ensures t L in (M.taken_are, from_next (sheet_of t) l.k l.flags _ c.loop-k-test.true M.flags_are ∙ (l.invariant.2 t L).1),
    )
