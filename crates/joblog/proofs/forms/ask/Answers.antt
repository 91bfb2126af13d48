-- ask meets its contract: the questions of the line's form. Assumes nothing.
use Rattle.std.proofs.Common.{◌≡◌, sym, refl, ◌∙◌, Err, rules}
use Rattle.joblog.specs.Log.{facts_of}
use Rattle.joblog.proofs.Results.{facts_ok, facts_err}
use Rattle.joblog.proofs.forms.ask.Goals as goal

pub returns-then-counted : goal.returns-then-counted
returns-then-counted c = rw c.if-counted.true c.ask_counted.ensures

pub returns-in_err-facts_of : goal.returns-in_err-facts_of
returns-in_err-facts_of c =
    let e : c.from_residual.result ≡ Err c.in_err-facts_of.field-0.0 = search rules in
    rw (e, c.if-counted.false) (facts_err (facts_of c.args.line.now) c.in_err-facts_of.field-0.0 (sym c.facts_of.ensures ∙ c.in_err-facts_of.was))

pub returns : goal.returns
returns c = rw c.if-counted.false (facts_ok (facts_of c.args.line.now) c.in_ok-facts_of.field-0 (sym c.facts_of.ensures ∙ c.in_ok-facts_of.was), refl)
