-- `rozsvelen_print_rule` meets its contract: the rule of the table that the numbers give, printed in the places that an answer can say. Assumes nothing.
use Prim.Native.Nat.{ℕ}
use native.Mathlib.Omega.{arith}
use mathlib.Core.Path.{ap, ◌∙◌}
use Rattle.crossing.specs.Numbers.{table_of}
use Rattle.exports.specs.RuleTexts.{length_code}
use Rattle.exports.proofs.RuleTexts.{rule_length, rule_is}
use Rattle.exports.proofs.rules.rozsvelen_print_rule.Goals as goal

pub length_code-requires : goal.length_code-requires
length_code-requires c =
    let a = c.args in
    omega (arith, rule_length a.table.now a.text.now _ _ 0 c.in-Ok.bytes c.min-room.ensures (c.in-Ok.ensures (table_of a.table.now) c.lend_table.ensures))

pub returns-in-Ok : goal.returns-in-Ok
returns-in-Ok c =
    let a = c.args in
    rule_is a.table.now a.text.now _ _ _ _ c.min-room.ensures (c.in-Ok.ensures (table_of a.table.now) c.lend_table.ensures) _ c.length_code.ensures

pub returns-in-Err : goal.returns-in-Err
returns-in-Err c =
    let a = c.args in
    rule_is a.table.now a.text.now _ _ _ _ c.min-room.ensures (c.in-Err.ensures (table_of a.table.now) c.lend_table.ensures) _
    (c.length_code-in-Err.ensures ∙ ap (λ (n : ℕ). length_code n 0) c.number.ensures)
