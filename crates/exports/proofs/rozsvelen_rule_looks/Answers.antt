-- `rozsvelen_rule_looks` meets its contract: the lent numbers are asked, and the ways are counted by their numbers. Assumes nothing.
use Prim.Native.Nat.{ℕ, ◌+◌, ◌*◌}
use mathlib.Core.Path.{ap, ap₂, ◌∙◌}
use Rattle.aldlf.specs.Outcomes.{one}
use Rattle.stands.specs.Answers.{RuleLooks}
use Rattle.crossing.specs.Numbers.{table_of}
use Rattle.exports.specs.Answers.{answer_code, looks_asked}
use Rattle.exports.proofs.rozsvelen_rule_looks.Goals as goal

pub returns-in-Ok : goal.returns-in-Ok
unfolding looks_asked
returns-in-Ok c =
    let t = table_of c.args.table.now in
    c.code.ensures
    ∙ ap₂ (λ (a b : ℕ). answer_code 0 0 (a + 2 * b) 0) c.one.ensures.0 c.one-in-Ok.ensures.0
    ∙ ap (λ (a : RuleLooks). answer_code a.number 0 (one a.ahead + 2 * one a.back) 0) (c.in-Ok.ensures t c.lend_table.ensures)

pub returns-in-Err : goal.returns-in-Err
unfolding looks_asked
returns-in-Err c =
    let t = table_of c.args.table.now in
    c.code-in-Err.ensures
    ∙ ap (λ (q : ℕ). answer_code q 0 0 0) c.number.ensures
    ∙ ap (λ (a : RuleLooks). answer_code a.number 0 (one a.ahead + 2 * one a.back) 0) (c.in-Err.ensures t c.lend_table.ensures)
