-- word_by meets its contract: the facts follow the comma, or are the line. Assumes nothing.
use Rattle.std.proofs.Common.{◌≡◌, ap, ◌∙◌}
use Rattle.std.specs.Result.{result_unwrap_or}
use Rattle.joblog.specs.Log.{facts_of, word_in}
use Rattle.joblog.specs.Steps.{facts_by}
use Rattle.joblog.proofs.Results.{facts_word}
use Rattle.joblog.proofs.forms.word_by.Goals as goal
use Rattle.joblog.proofs.forms.word_by.Goals.{then-counted, else-counted}

pub returns : goal.returns
returns c =
    let a = c.args in
    let f : facts_of c.if-counted.facts.now ≡ facts_by a.counted a.line.now = elim c.if-counted.branch [
      | then-counted w ↦ rw (w.if-counted.true, w.facts-is, w.after_comma-facts.ensures)
      | else-counted w ↦ rw (w.if-counted.false, w.facts-is)
    ] in
    c.unwrap_or.ensures ∙ ap (λ r. result_unwrap_or r 0) c.facts_of.ensures ∙ facts_word (facts_of c.if-counted.facts.now) ∙ ap word_in f
