-- `after_state` meets its contract: the fields are checked from the first to the last. Assumes nothing.
use mathlib.Core.Path.{ap, ◌∙◌}
use mathlib.Core.Bool.{Bool, cond}
use native.Mathlib.Omega.{arith}
use Rattle.std.proofs.lemmas.Result.{err_from_is_err_and}
use Rattle.sheet.specs.Ranges.{stop_at, going_on, is_of_kind, first_wrong}
use Rattle.sheet.proofs.Stops.{stops, passes}
use Rattle.sheet.proofs.ranges.after_state.Goals as goal

pub returns-in_err-check : goal.returns-in_err-check
unfolding is_of_kind first_wrong
returns-in_err-check c =
    let p = err_from_is_err_and c.from_residual.result c.from_residual.ensures.1 in
    rw (p.1, p.2) (stops _ _ _ c.is_direction.ensures c.in_err-check.ensures)

pub returns-in_err-check-2 : goal.returns-in_err-check-2
unfolding is_of_kind first_wrong
returns-in_err-check-2 c =
    let p = err_from_is_err_and c.from_residual-in_err-check-2.result c.from_residual-in_err-check-2.ensures.1 in
    rw (p.1, p.2) (stops _ _ _ c.is_node.ensures c.in_err-check-2.ensures ∙ passes _ _ _ (λ z. omega (arith, z)) c.is_direction.ensures c.in_ok-check.ensures)

pub returns : goal.returns
unfolding is_of_kind first_wrong
returns c =
    c.check-3.ensures
    ∙ ap (λ (b : Bool). cond b going_on (stop_at 74 5)) c.is_state.ensures
    ∙ passes _ _ _ (λ z. omega (arith, z)) c.is_node.ensures c.in_ok-check-2.ensures
    ∙ passes _ _ _ (λ z. omega (arith, z)) c.is_direction.ensures c.in_ok-check.ensures
