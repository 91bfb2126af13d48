-- `plains_of` meets its contract: what is left of the nodes always gives the whole list's flags. Assumes nothing.
use mathlib.Core.Path.{sym, ◌∙◌}
use native.Mathlib.Omega.{arith}
use lib.ListN.{length-set}
use Rattle.sheet.proofs.Asked.{plains_on, plains_end}
use Rattle.sheet.proofs.questions.plains_of.Goals as goal

pub loop-i-preserved : goal.loop-i-preserved
loop-i-preserved c =
    let l = c.loop-i in
    let xs = c.args.nodes.now in
    (simp length-set l.invariant.0, rw c.plain_node.ensures (sym (plains_on xs l.i l.p (omega arith)) ∙ l.invariant.1))

pub returns : goal.returns
returns c =
    let l = c.loop-i in
    let xs = c.args.nodes.now in
    sym (plains_end xs l.i l.p (omega arith)) ∙ l.invariant.1
