-- rule_page meets its contract: a buffer of 40,000 bytes takes every page; a smaller one is handed what fits. Assumes nothing.
use native.Mathlib.Omega.{arith}
use Rattle.report.specs.Page.{rule_page}
use Rattle.report.proofs.Fits.{rule_page_fits}
use Rattle.appending.proofs.Placed.{placed_stored}
use Rattle.report.proofs.rule_page.Goals as goal

pub returns-then-out-ge-BYTES : goal.returns-then-out-ge-BYTES
returns-then-out-ge-BYTES c =
    let a = c.args in
    let p = c.put_page in
    let fits = rule_page_fits a.table a.steps.now in
    placed_stored 44 (rule_page a.table a.steps.now) a.out.now p.new.out p.result (omega (arith, fits, c.if-out-ge-BYTES.true)) p.ensures
