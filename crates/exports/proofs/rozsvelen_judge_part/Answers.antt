-- `rozsvelen_judge_part` meets its contract: questions 35 and 43, then the part's own answer, then its row. Assumes nothing.
use Rattle.crossing.specs.Numbers.{table_of}
use Prim.Native.Nat.{ℕ}
use mathlib.Core.Path.{refl, sym, ap, ◌∙◌}
use Rattle.aldlf.specs.Outcomes.{no_row}
use Rattle.aldlf.specs.Refusals.{refusal_number}
use Rattle.judge.proofs.OutcomeLaws.{some_number}
use Rattle.exports.specs.Answers.{answer_code}
use Rattle.exports.proofs.Judging.{part_short, part_no_way, part_refused, part-judged}
use Rattle.exports.proofs.rozsvelen_judge_part.Goals as goal

pub returns-then-row-ne-NODES : goal.returns-then-row-ne-NODES
returns-then-row-ne-NODES c =
    let a = c.args in
    part_short a.table.now a.way a.row.now a.words.now a.verdicts.now _ c.if-row-ne-NODES.true c.code.ensures

pub returns-then-not-is_way : goal.returns-then-not-is_way
returns-then-not-is_way c =
    let a = c.args in
    let y = c.is_way in
    part_no_way a.table.now a.way a.row.now a.words.now a.verdicts.now _ c.if-row-ne-NODES.false (sym y.ensures ∙ c.if-not-is_way.true) c.code-then-not-is_way.ensures

pub returns-in-Ok : goal.returns-in-Ok
returns-in-Ok c =
    let a = c.args in
    let t = table_of a.table.now in
    let y = c.way_of-w in
    let o = c.row_of-given in
    part-judged a.table.now a.way a.row.now a.words.now a.verdicts.now t y.result o.result (record { number = 0; row = c.in-Ok.next }) _ _ c.if-row-ne-NODES.false (sym c.is_way.ensures ∙ c.if-not-is_way.false) refl y.ensures o.ensures
    (c.in-Ok.ensures t c.lend_table.ensures) c.code-in-Ok.ensures _ refl c.put_row.ensures

pub returns-in-Err : goal.returns-in-Err
returns-in-Err c =
    let a = c.args in
    let t = table_of a.table.now in
    let y = c.way_of-w in
    let o = c.row_of-given in
    let r = c.in-Err.why in
    part_refused a.table.now a.way a.row.now a.words.now a.verdicts.now t y.result o.result (record { number = refusal_number r; row = no_row }) _ _ c.if-row-ne-NODES.false (sym c.is_way.ensures ∙ c.if-not-is_way.false) refl y.ensures o.ensures
    (c.in-Err.ensures t c.lend_table.ensures) (c.code-in-Err.ensures ∙ ap (λ (q : ℕ). answer_code q 0 0 0) c.number.ensures) (some_number r)
