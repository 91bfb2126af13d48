-- `rozsvelen_profile` meets its contract: question 35, then the profile's own answer, then its table's numbers. Assumes nothing.
use Prim.Native.Nat.{ℕ}
use mathlib.Core.Path.{refl, ap, ◌∙◌}
use Rattle.crossing.specs.Numbers.{table_of}
use Rattle.profile.proofs.Laws.{refused}
use Rattle.exports.specs.Answers.{answer_code}
use Rattle.exports.proofs.Sheets.{profile_short, profile_refused, profile_put}
use Rattle.exports.proofs.rozsvelen_profile.Goals as goal

pub returns-then-out-ne-TABLE : goal.returns-then-out-ne-TABLE
returns-then-out-ne-TABLE c =
    let a = c.args in
    profile_short a.table.now a.out.now _ c.if-out-ne-TABLE.true c.code.ensures

pub returns-in-Ok : goal.returns-in-Ok
returns-in-Ok c =
    let a = c.args in
    profile_put a.table.now a.out.now _ _ c.if-out-ne-TABLE.false (c.in-Ok.ensures (table_of a.table.now) c.lend_table.ensures) c.code-in-Ok.ensures _ refl c.put_table.ensures

pub returns-in-Err : goal.returns-in-Err
returns-in-Err c =
    let a = c.args in
    profile_refused a.table.now a.out.now _ _ c.if-out-ne-TABLE.false (c.in-Err.ensures (table_of a.table.now) c.lend_table.ensures)
    (c.code-in-Err.ensures ∙ ap (λ (n : ℕ). answer_code n 0 0 0) c.number.ensures) (refused _)
