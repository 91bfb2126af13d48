-- page_by_way_of meets its contract: the page is stored in a buffer of N bytes, more than are lent, and handed over. Assumes nothing.
use Prim.Native.Nat.{ℕ}
use mathlib.Core.Path.{sym, ◌∙◌}
use native.Mathlib.Omega.{arith}
use lib.ListN.{replicate, length-replicate}
use lib.Seq.{length-take-le}
use Rattle.report.specs.Page.{rule_page}
use Rattle.appending.proofs.Placed.{placed_by}
use Rattle.report.proofs.page_by_way_of.Goals as goal

pub shared_whole_as_front-hand_over : goal.shared_whole_as_front-hand_over
shared_whole_as_front-hand_over g c = let p = c.put_page-n in (omega (arith, p.ensures.place, p.auto.out), omega (arith, c.requires.size))

pub slice_bounds-hand_over-end : goal.slice_bounds-hand_over-end
slice_bounds-hand_over-end g c =
    let p = c.put_page-n in
    sym (length-take-le p.result p.new.out (omega (arith, p.ensures.place, p.auto.out)))

pub returns : goal.returns
returns g c =
    let a = c.args in
    let p = c.put_page-n in
    c.hand_over.ensures
    ∙ placed_by 44 (rule_page a.table a.steps.now) a.out.now (replicate g.row.N 0) p.new.out p.result (omega (arith, c.requires.smaller, length-replicate {A = ℕ} g.row.N 0)) p.ensures
