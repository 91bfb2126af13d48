-- `turn` meets its contract: nothing due, visited with no change, or visited and the entries beside made due. Assumes nothing.
use Rattle.reach.proofs.Turns.{turned_more, turned_same, turned_skip}
use Rattle.reach.specs.Steps.{Touched, Turned}
use lib.ListN.{length-set, set}
use mathlib.Core.Bool.{Bool}
use mathlib.Core.Path.{refl, sym, subst, ◌∙◌}
use native.Mathlib.Omega.{arith}
use Rattle.reach.proofs.spreading.turn.Goals as goal

pub returns-then-due-eq0 : goal.returns-then-due-eq0
returns-then-due-eq0 c = turned_skip c.args.v.exits c.args.v.looks c.args.steps.now c.args.masks.now c.args.todo.now c.args.v.entry c.if-due-eq0.true

pub returns-then-not-visit_entry : goal.returns-then-not-visit_entry
returns-then-not-visit_entry c =
    turned_same _ c.args.steps.now c.args.masks.now c.args.todo.now _ _ c.visit_entry.ensures refl c.requires.v_in_bounds.0 c.requires.v_in_bounds.1 c.if-not-visit_entry.true

pub touch-requires : goal.touch-requires
touch-requires c = omega (arith, length-set c.args.todo.now c.args.v.entry 0, c.requires.v_in_bounds)

pub shape_of-todo : goal.shape_of-todo
shape_of-todo c = c.touch.ensures.same ∙ length-set c.args.todo.now c.args.v.entry 0

pub returns : goal.returns
returns c =
    let ahead = c.has-ahead.ensures in
    let T = c.args.todo.now in
    subst (Turned c.args.v.exits c.args.v.looks c.args.steps.now c.args.v.entry c.args.masks.now T c.visit_entry.new.masks c.touch.new.todo) (sym ahead)
    (turned_more _ c.args.steps.now c.args.masks.now T _ _ c.visit_entry.ensures refl c.requires.v_in_bounds.0 c.requires.v_in_bounds.1 c.if-not-visit_entry.false
    c.touch.new.todo
    (subst (λ (b : Bool). Touched b c.args.v.entry (set T c.args.v.entry 0) c.touch.new.todo) ahead c.touch.ensures))
