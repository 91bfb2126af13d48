-- `rozsvelen_judge_logs` meets its contract: the answer of judging the list by the table that the numbers give. Assumes nothing.
use Prim.Native.Nat.{ℕ}
use mathlib.Core.Path.{refl, ap, ◌∙◌}
use Rattle.aldlf.specs.Refusals.{refusal_number}
use Rattle.crossing.specs.Numbers.{table_of}
use native.Mathlib.Omega.{arith}
use Rattle.exports.specs.Lists.{list_code}
use Rattle.exports.proofs.Lists.{log_number, list_is}
use Rattle.exports.proofs.rozsvelen_judge_logs.Goals as goal

pub list_code-requires-in-Err : goal.list_code-requires-in-Err
list_code-requires-in-Err c =
    let a = c.args in
    let t = table_of a.table.now in
    let r = c.in-Err.why in
    omega (arith, log_number t a.words.now a.lengths.now a.verdicts.now a.held.now _ _ (record { number = refusal_number r.question; log = r.log }) (c.in-Err.ensures t c.lend_table.ensures))

pub returns-in-Ok : goal.returns-in-Ok
returns-in-Ok c =
    let a = c.args in
    let t = table_of a.table.now in
    list_is t a.words.now a.lengths.now a.verdicts.now a.held.now _ _ (record { number = 0; log = 0 }) (c.in-Ok.ensures t c.lend_table.ensures) a.table.now refl _ c.list_code.ensures

pub returns-in-Err : goal.returns-in-Err
returns-in-Err c =
    let a = c.args in
    let t = table_of a.table.now in
    let r = c.in-Err.why in
    list_is t a.words.now a.lengths.now a.verdicts.now a.held.now _ _ (record { number = refusal_number r.question; log = r.log }) (c.in-Err.ensures t c.lend_table.ensures) a.table.now refl _
    (c.list_code-in-Err.ensures ∙ ap (λ (q : ℕ). list_code q r.log) c.number.ensures)
