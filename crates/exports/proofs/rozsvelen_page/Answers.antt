-- `rozsvelen_page` meets its contract: the page's own, and no page has as many as 65,536 bytes. Assumes nothing.
use Prim.Native.Nat.{ℕ}
use native.Mathlib.Omega.{arith}
use mathlib.Core.Path.{ap, ◌∙◌}
use Rattle.exports.specs.Answers.{answer_code}
use Rattle.exports.proofs.Pages.{page_count, page_is}
use Rattle.exports.proofs.rozsvelen_page.Goals as goal

pub code-requires : goal.code-requires
code-requires c =
    let a = c.args in
    let few = page_count a.rules.now a.steps.now a.page.now _ c.in-Ok.bytes c.in-Ok.ensures in
    (omega arith, omega arith)

pub returns-in-Ok : goal.returns-in-Ok
returns-in-Ok c =
    let a = c.args in
    page_is a.rules.now a.steps.now a.page.now _ _ _ _ c.in-Ok.ensures c.code.ensures

pub returns-in-Err : goal.returns-in-Err
returns-in-Err c =
    let a = c.args in
    page_is a.rules.now a.steps.now a.page.now _ _ _ _ c.in-Err.ensures (c.code-in-Err.ensures ∙ ap (λ (n : ℕ). answer_code n 0 0 0) c.number.ensures)
