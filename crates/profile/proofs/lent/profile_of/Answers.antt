-- `profile_of` meets its contract, part by part. Assumes nothing.
use mathlib.Core.Path.{◌∙◌}
use Rattle.profile.proofs.Laws.{parts_of}
use Rattle.profile.proofs.lent.profile_of.Goals as goal

pub returns : goal.returns
returns c = λ t R.
    parts_of t _ _ _ c.used_in-used.result (c.profile_lines.ensures t R) (c.kept_automata.ensures t R) (c.kept_edges.ensures t R)
    (c.used_in-used.ensures ∙ R.packed.used_is)
