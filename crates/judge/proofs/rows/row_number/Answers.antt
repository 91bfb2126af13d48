-- `row_number` meets its contract, without entries and with some. Assumes nothing.
use Rattle.std.specs.Option.{option_copied}
use Rattle.std.specs.Prelude.{◌-◌, length}
use Rattle.aldlf.specs.Parts.{row_entry}
use Rattle.aldlf.specs.declared.Way.{Way}
use Rattle.judge.proofs.RowLaws.{got_none, got_some}
use mathlib.Core.Path.{◌∙◌, ap, sym}
use Rattle.judge.proofs.rows.row_number.Goals as goal
use Rattle.judge.proofs.rows.row_number.Goals.{in-Ahead, in-Back, in-Some, in-None}

pub returns : goal.returns
returns c =
    let a = c.args in
    let M = a.masks.now in
    elim c.match-job.branch [
      | in-Ahead w ↦
          let is = sym (ap (λ (x : Way). row_entry x (length M)) w.in-Ahead.is) in
          elim c.match-entry.branch [
            | in-Some v ↦ got_some a.job a.want M 0 is _ _ c.low_bits.ensures _ (sym w.first-entry.ensures.value ∙ ap option_copied (sym w.entry-is ∙ v.in-Some.is)) (v.x-is ∙ v.facing_mask-x.ensures)
            | in-None v ↦ got_none a.job a.want M 0 is _ _ c.low_bits.ensures (sym w.first-entry.ensures.value ∙ ap option_copied (sym w.entry-is ∙ v.in-None.is)) v.x-is
          ]
      | in-Back w ↦
          let is = sym (ap (λ (x : Way). row_entry x (length M)) w.in-Back.is) in
          elim c.match-entry.branch [
            | in-Some v ↦ got_some a.job a.want M (length M - 1) is _ _ c.low_bits.ensures _ (sym w.last-entry.ensures.value ∙ ap option_copied (sym w.entry-is ∙ v.in-Some.is)) (v.x-is ∙ v.facing_mask-x.ensures)
            | in-None v ↦ got_none a.job a.want M (length M - 1) is _ _ c.low_bits.ensures (sym w.last-entry.ensures.value ∙ ap option_copied (sym w.entry-is ∙ v.in-None.is)) v.x-is
          ]
    ]
