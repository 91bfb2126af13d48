-- `touch` meets its contract: the flag of the entry after, and where edges go ahead that of the entry before. Assumes nothing.
use Rattle.reach.proofs.Turns.{touched_after, touched_both}
use Rattle.reach.specs.Steps.{Touched}
use mathlib.Core.Bool.{Bool, true≢false}
use mathlib.Core.Path.{refl, sym, subst, ◌∙◌}
use native.Mathlib.Omega.{arith}
use Rattle.reach.proofs.spreading.touch.Goals as goal
use Rattle.reach.proofs.spreading.touch.Goals.{else-ahead-via-then-ahead+else-i-gt0, else-ahead-via-else-ahead}

pub returns-then-i-gt0 : goal.returns-then-i-gt0
returns-then-i-gt0 c =
    let T = c.args.todo.now in
    subst (λ (b : Bool). Touched b c.args.i T c.raise-then-i-gt0.new.todo) (sym c.if-ahead.true)
    (touched_both c.args.i T _ _ c.if-i-gt0.true c.requires (c.raise.ensures 2 (omega arith) refl) (c.raise-then-i-gt0.ensures 1 (omega arith) refl))

pub returns-else-ahead : goal.returns-else-ahead
returns-else-ahead c =
    touched_after c.args.ahead c.args.i c.args.todo.now _ (elim c.else-ahead.branch [
      | else-ahead-via-then-ahead+else-i-gt0 w ↦ λ _. omega (arith, w.if-i-gt0.false)
      | else-ahead-via-else-ahead w ↦ λ on. absurd (true≢false (sym on ∙ w.if-ahead.false))
    ]) (c.raise.ensures 2 (omega arith) refl)
