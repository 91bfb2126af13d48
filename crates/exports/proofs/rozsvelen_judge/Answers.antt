-- `rozsvelen_judge` meets its contract: the answer of judging the table that the numbers give. Assumes nothing.
use Prim.Native.Nat.{ℕ}
use mathlib.Core.Path.{refl, ap, ◌∙◌}
use Rattle.crossing.specs.Numbers.{table_of}
use native.Mathlib.Omega.{arith}
use Rattle.exports.specs.Answers.{refusal}
use Rattle.exports.proofs.Judging.{held_count, judge_held, judge_refused}
use Rattle.exports.proofs.rozsvelen_judge.Goals as goal

pub code-requires : goal.code-requires
code-requires c =
    let a = c.args in
    let t = table_of a.table.now in
    let j = c.judge_lent in
    let v = c.in-Ok in
    (omega arith, omega (arith, held_count _ _ a.log.now a.verdicts.now _ j.result v.held (j.ensures.verdicts_after t c.lend_table.ensures) v.is))

pub returns-in-Ok : goal.returns-in-Ok
returns-in-Ok c =
    let a = c.args in
    let t = table_of a.table.now in
    let j = c.judge_lent in
    let v = c.in-Ok in
    judge_held a.table.now a.log.now a.verdicts.now _ t j.result _ refl (j.ensures.verdicts_after t c.lend_table.ensures) v.held v.is c.code.ensures

pub returns-in-Err : goal.returns-in-Err
returns-in-Err c =
    let a = c.args in
    let t = table_of a.table.now in
    let j = c.judge_lent in
    let v = c.in-Err in
    judge_refused a.table.now a.log.now a.verdicts.now _ t j.result _ refl (j.ensures.verdicts_after t c.lend_table.ensures) v.refusal v.is (c.code-in-Err.ensures ∙ ap (λ (q : ℕ). refusal q) c.number.ensures)
