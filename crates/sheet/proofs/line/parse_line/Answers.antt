-- `parse_line` meets its contract: the line is that of its fields, cut one at a time. Assumes nothing.
use Rattle.sheet.proofs.Parse.{fields_first, line_fields}
use lib.ListN.{length-take}
use lib.ListN.{length-take}
use native.Mathlib.Omega.{arith}
use lib.ListN.{length-take}
use Rattle.sheet.proofs.line.parse_line.Goals as goal

pub slice_bounds-letter_of-end : goal.slice_bounds-letter_of-end
slice_bounds-letter_of-end c = simp length-take (omega arith)

pub returns : goal.returns
returns c =
    let s = c.args.s.now in
    let n = c.up_to-n in
    let x = c.letter_of-letter in
    let f₁ = c.field_after-f1 in
    let f₂ = c.field_after-f2 in
    let f₃ = c.field_after-f3 in
    let f₄ = c.field_after-f4 in
    let f₅ = c.field_after-f5 in
    line_fields s n.result x.result f₁.result f₂.result f₃.result f₄.result f₅.result (fields_first s n.result n.ensures.0) x.ensures f₁.ensures f₂.ensures f₃.ensures f₄.ensures f₅.ensures
