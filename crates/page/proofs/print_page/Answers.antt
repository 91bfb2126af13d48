-- print_page is safe: no page is refused, and its count is within the buffer. Assumes nothing.
use Prim.Native.Nat.{◌≤◌}
use Rattle.std.proofs.Common.{length, arith, sym}
use Rattle.std.proofs.lemmas.List.{length-take-le}
use Rattle.report.proofs.Fits.{page_few, page_ok}
use Rattle.page.proofs.print_page.Goals as goal
use Rattle.page.proofs.print_page.Goals.{After-unwrap-n}

-- so many bytes are in the buffer
few : (g : _) (c : After-unwrap-n g) → c.unwrap-n.result ≤ length c.page.new.out
few g c = let p = c.page in omega (arith, page_few _ _ _ p.new.out p.result _ c.unwrap-n.ensures p.ensures, p.auto.out)

pub unwrap-n-requires : goal.unwrap-n-requires
unwrap-n-requires g c = page_ok _ _ _ c.page.new.out c.page.result (omega arith) c.page.ensures

pub slice_bounds-out-end : goal.slice_bounds-out-end
slice_bounds-out-end g c = few g (goal.at.slice_bounds-out-end g c).After-unwrap-n

pub slice_bounds-write_all-end : goal.slice_bounds-write_all-end
slice_bounds-write_all-end g c = sym (length-take-le c.unwrap-n.result c.page.new.out (few g (goal.at.slice_bounds-write_all-end g c).After-unwrap-n))
