-- read_log meets its contract: the reading by form is the definition's. Assumes nothing.
use Rattle.std.proofs.Common.{length, ap, ◌∙◌}
use Rattle.joblog.specs.Log.{LogRead, outcome_of}
use Rattle.joblog.proofs.BothForms.{read_plain}
use Rattle.joblog.proofs.read_log.Goals as goal

pub returns : goal.returns
returns c =
    let a = c.args in
    c.read_by.ensures ∙ ap (λ (x : LogRead). outcome_of x a.words.now) (read_plain a.text.now (length a.words.now))
