-- `ready` meets its contract: the steps are there, or are filled. Assumes nothing.
use Rattle.judge.proofs.KnownLaws.{asks}
use Rattle.judge.proofs.StepLaws.{ready_new}
use Rattle.reach.specs.Marks.{paired}
use mathlib.Core.Path.{◌∙◌, refl}
use Rattle.judge.proofs.nodes.ready.Goals as goal

pub fill-looks-requires-clause-edges_fit : goal.fill-looks-requires-clause-edges_fit
fill-looks-requires-clause-edges_fit c =
    (asks c.requires.by_index.0 c.requires.by_index.1 c.args.job c.requires.by_index.2 c.args.edges.now (paired c.args.words.now) c.requires.by_index.3 c.requires.modal).edges_ok

pub returns : goal.returns
returns c =
    let r = c.fill-looks in
    λ t row log K C. ready_new t row c.args.job log c.args.edges.now (paired c.args.words.now) K c.requires.modal _ _ refl (r.auto.steps ∙ c.requires.steps_len.0)
    (record { told = r.ensures.told; placed = r.ensures.placed; filled = r.ensures.filled })
