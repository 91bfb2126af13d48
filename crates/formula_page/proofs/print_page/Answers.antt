-- print_page is safe: the formula is within the file's bytes, no page is refused, and the page's count is within the buffer. Assumes nothing.
use Prim.Native.Nat.{◌≤◌}
use Rattle.std.proofs.Common.{length, arith, sym}
use Rattle.std.proofs.lemmas.List.{length-take-le}
use Rattle.formula_report.proofs.Fits.{formula_page_few, formula_page_ok}
use Rattle.formula_page.proofs.Rule.{bytes_fit}
use Rattle.formula_page.proofs.print_page.Goals as goal
use Rattle.formula_page.proofs.print_page.Goals.{After-unwrap-n}

-- so many bytes are in the buffer
few : (g : _) (c : After-unwrap-n g) → c.unwrap-n.result ≤ length c.formula_page.new.out
few g c = let p = c.formula_page in omega (arith, formula_page_few _ _ _ p.new.out p.result _ c.unwrap-n.ensures p.ensures, p.auto.out)

pub slice_bounds-formula_page-end : goal.slice_bounds-formula_page-end
slice_bounds-formula_page-end g c =
    let k = c.formula_bytes-k in
    sym (length-take-le k.result c.args.rule.now (bytes_fit c.args.rule.now k.result k.ensures))

pub unwrap-n-requires : goal.unwrap-n-requires
unwrap-n-requires g c = formula_page_ok _ _ _ (omega arith) c.formula_page.new.out c.formula_page.result c.formula_page.ensures

pub slice_bounds-out-end : goal.slice_bounds-out-end
slice_bounds-out-end g c = few g (goal.at.slice_bounds-out-end g c).After-unwrap-n

pub slice_bounds-write_all-end : goal.slice_bounds-write_all-end
slice_bounds-write_all-end g c = sym (length-take-le c.unwrap-n.result c.formula_page.new.out (few g (goal.at.slice_bounds-write_all-end g c).After-unwrap-n))
