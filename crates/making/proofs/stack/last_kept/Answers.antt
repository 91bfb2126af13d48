-- `last_kept` meets its contract: zeros, or the number below the top. Assumes nothing.
use mathlib.Core.Path.{◌∙◌}
use Rattle.making.proofs.Pushed.{last_is}
use Rattle.making.proofs.stack.last_kept.Goals as goal

pub returns : goal.returns
returns c =
    let a = c.args in
    c.kept_in.ensures ∙ rw (c.unwrap_or.ensures, c.copied.ensures, c.last.ensures.value) (last_is a.stack.now a.top c.requires)
