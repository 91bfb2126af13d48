-- refused_page meets its contract: the line fits in the buffer, and what is there is handed over. Assumes nothing.
use Prim.Native.Nat.{ℕ}
use mathlib.Core.Path.{ap, sym, ◌∙◌}
use mathlib.Core.List.{List}
use native.Mathlib.Omega.{arith}
use lib.ListN.{replicate, length-replicate}
use lib.Seq.{length-take-le}
use Rattle.appending.specs.Placed.{placed}
use Rattle.appending.proofs.Storing.{appends_whole}
use Rattle.appending.proofs.Placed.{stored_there}
use Rattle.lines.specs.Lines.{sheet_refusal_line}
use Rattle.lines.proofs.Lengths.{sheet_refusal_length}
use Rattle.report.proofs.refused_page.Goals as goal

pub slice_bounds-buffer-end : goal.slice_bounds-buffer-end
slice_bounds-buffer-end c = let p = c.put_sheet_refusal-n in omega (arith, (appends_whole _ _ _ _ p.ensures).place, p.auto.out)

pub slice_bounds-hand_over-end : goal.slice_bounds-hand_over-end
slice_bounds-hand_over-end c =
    let p = c.put_sheet_refusal-n in
    sym (length-take-le p.result p.new.out (omega (arith, (appends_whole _ _ _ _ p.ensures).place, p.auto.out)))

pub returns : goal.returns
returns c =
    let a = c.args in
    let r = a.refusal in
    let q = c.number-number in
    let p = c.put_sheet_refusal-n in
    let fits = sheet_refusal_length q.result r.line r.field (omega arith) (omega arith) (omega arith) in
    c.hand_over.ensures
    ∙ ap (λ (l : List ℕ). placed 44 l a.out.now)
    (stored_there (sheet_refusal_line q.result r.line r.field) (replicate 22 0) p.new.out p.result (omega (arith, fits, length-replicate {A = ℕ} 22 0)) (appends_whole _ _ _ _ p.ensures)
    ∙ ap (λ (n : ℕ). sheet_refusal_line n r.line r.field) q.ensures)
