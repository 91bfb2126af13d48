-- `plain_node` meets its contract, letter by letter. Assumes nothing.
use Rattle.sheet.proofs.Asked.{plain_leaf, plain_not, plain_two, plain_other}
use mathlib.Core.Path.{◌∙◌}
use Rattle.sheet.proofs.questions.plain_node.Goals as goal

pub returns-in-84 : goal.returns-in-84
returns-in-84 c = plain_leaf c.args.p.now c.args.x c.in-84.is

pub returns-in-78 : goal.returns-in-78
returns-in-78 c = c.flag_at.ensures ∙ plain_not c.args.p.now c.args.x c.in-78.is

pub returns-in-65 : goal.returns-in-65
returns-in-65 c =
    let s = c.args in
    rw (c.flag_at-in-65.ensures, c.flag_at-in-65-2.ensures) (plain_two s.p.now s.x c.in-65.is)

pub returns-in_default : goal.returns-in_default
returns-in_default c = plain_other c.args.p.now c.args.x c.in_default.in_default-own.rest.0.0.1 c.in_default.in_default-own.rest.0.1 c.in_default.in_default-own.rest.1
