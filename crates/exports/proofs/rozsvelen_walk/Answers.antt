-- `rozsvelen_walk` meets its contract: the answer of showing a walk of the table that the numbers give. Assumes nothing.
use mathlib.Core.Path.{refl, ap, ◌∙◌}
use Rattle.exports.specs.Answers.{refusal}
use Rattle.crossing.specs.Numbers.{table_of}
use native.Mathlib.Omega.{arith}
use Rattle.walk.proofs.Told.{told_count}
use Rattle.exports.proofs.Walks.{walk-shown, walk_refused}
use Rattle.exports.proofs.rozsvelen_walk.Goals as goal

pub code-requires : goal.code-requires
code-requires c =
    let a = c.args in
    let t = table_of a.table.now in
    let w = c.walk_lent in
    let s = c.in-Ok in
    let few = told_count t a.log.now _ _ a.edges.now _ w.result (w.ensures t c.lend_table.ensures) s.length s.is in
    (omega arith, omega (arith, few.1))

pub returns-in-Ok : goal.returns-in-Ok
returns-in-Ok c =
    let a = c.args in
    let t = table_of a.table.now in
    let k = c.node_of in
    let i = c.entry_of in
    let w = c.walk_lent in
    let s = c.in-Ok in
    walk-shown a.table.now a.log.now a.node a.entry _ _ a.edges.now _ t w.result _ refl k.ensures i.ensures (w.ensures t c.lend_table.ensures) s.length s.is c.code.ensures

pub returns-in-Err : goal.returns-in-Err
returns-in-Err c =
    let a = c.args in
    let t = table_of a.table.now in
    let k = c.node_of in
    let i = c.entry_of in
    let w = c.walk_lent in
    let s = c.in-Err in
    walk_refused a.table.now a.log.now a.node a.entry _ _ a.edges.now _ t w.result _ refl k.ensures i.ensures (w.ensures t c.lend_table.ensures) s.why s.is (c.code-in-Err.ensures ∙ ap refusal c.number.ensures)
