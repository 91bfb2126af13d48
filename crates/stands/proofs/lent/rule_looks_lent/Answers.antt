-- `rule_looks_lent` meets its contract, for a table that some sheet gives and for any other. Assumes nothing.
use mathlib.Core.Path.{sym}
use Rattle.std.proofs.lemmas.Result.{err_from_is_err_and}
use Rattle.stands.proofs.Request.{looks_no, looks_yes}
use Rattle.stands.proofs.lent.rule_looks_lent.Goals as goal

pub returns-in_err-given_rule_numbers : goal.returns-in_err-given_rule_numbers
returns-in_err-given_rule_numbers c =
    let p = err_from_is_err_and c.from_residual.result c.from_residual.ensures.1 in
    let q = c.in_err-given_rule_numbers.ensures in
    λ t P. rw (p.1, p.2, q.refused) (looks_no t (sym (q.asked t P)))

pub returns : goal.returns
returns c =
    let q = c.in_ok-given_rule_numbers.ensures in
    λ t P. looks_yes t c.rule_ways.result (sym (q.asked t P)) (c.rule_ways.ensures t (q.lent t P))
