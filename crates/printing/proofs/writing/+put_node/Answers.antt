-- `put_node` meets its contract: the pieces of a line around the texts of the nodes that it names. The measure is the node number. Assumes nothing.
use native.Mathlib.Omega.{arith}
use Prim.Native.Nat.{ℕ, ◌<◌}
use mathlib.Core.Path.{◌≡◌, sym, ap, ◌∙◌}
use mathlib.Core.List.{[], ◌∷◌}
use Rattle.aldlf.specs.Sheet.{sheet_of}
use Rattle.appending.proofs.Storing.{appends_same}
use Rattle.printing.specs.Pieces.{operand_of}
use Rattle.printing.specs.Print.{node_text}
use Rattle.printing.proofs.Bracketed.{appends_one, appends_two}
use Rattle.printing.proofs.LineTexts.{two_text, two_lower, one_text, one_lower, leaf-text}
use Rattle.sheet.proofs.InUse.{line_lent}
use Rattle.sheet.specs.Facts.{node_at}
use Rattle.printing.proofs.writing.+put_node.Goals as goal
use Rattle.printing.proofs.writing.+put_node.Goals.{In-65, In-78}

-- of the two nodes of an A or O, both numbers are lower
lower : (t : ℕ) (c : In-65 t) → let x = c.line_at-line.result in let k = c.args.node.0 in (x.a < k) × (x.b < k)
lower t c =
    let (u, L) = c.requires.lent in
    two_lower u L.facts c.args.node.0 c.line_at-line.result (c.line_at-line.ensures ∙ line_lent u c.args.numbers.now L c.args.node.0 c.requires.node_bound) c.in-65.is

-- so is that of the node of an N, D or B
under : (t : ℕ) (c : In-78 t) → operand_of c.line_at-line.result < c.args.node.0
under t c =
    let (u, L) = c.requires.lent in
    one_lower u L.facts c.args.node.0 c.line_at-line.result (c.line_at-line.ensures ∙ line_lent u c.args.numbers.now L c.args.node.0 c.requires.node_bound) c.in-78.is

pub put_node-left-requires : goal.put_node-left-requires
put_node-left-requires t c =
    let low = (lower t (goal.at.put_node-left-requires t c).In-65).0 in
    (omega (arith, low, c.decreases), (c.requires.lent, omega (arith, low, c.requires.node_bound)))

pub put_node-right-requires : goal.put_node-right-requires
put_node-right-requires t c =
    let low = (lower t (goal.at.put_node-right-requires t c).In-65).1 in
    (omega (arith, low, c.decreases), (c.requires.lent, omega (arith, low, c.requires.node_bound)))

pub returns-in-65 : goal.returns-in-65
returns-in-65 t c = λ u L.
    let x = c.line_at-line.result in
    let read : x ≡ node_at u c.args.node.0 = c.line_at-line.ensures ∙ line_lent u c.args.numbers.now L c.args.node.0 c.requires.node_bound in
    appends_same (sym (two_text u L.facts c.args.node.0 x read c.in-65.is))
    (appends_two c.put-opened.ensures (c.put_node-left.ensures u L) (appends_same (ap (λ (o : ℕ). o ∷ []) c.operator.ensures) c.put-parted.ensures) (c.put_node-right.ensures u L) c.put.ensures)

pub put_node-next-requires : goal.put_node-next-requires
put_node-next-requires t c =
    let low = under t (goal.at.put_node-next-requires t c).In-78 in
    (omega (arith, low, c.operand.ensures, c.decreases), (c.requires.lent, omega (arith, low, c.operand.ensures, c.requires.node_bound)))

pub returns-in-78 : goal.returns-in-78
returns-in-78 t c = λ u L.
    let x = c.line_at-line.result in
    let read : x ≡ node_at u c.args.node.0 = c.line_at-line.ensures ∙ line_lent u c.args.numbers.now L c.args.node.0 c.requires.node_bound in
    appends_same (sym (one_text u L.facts c.args.node.0 x read c.in-78.is))
    (appends_one c.put-opened-in-78.ensures c.put_prefix-marked.ensures (appends_same (ap (node_text (sheet_of u)) c.operand.ensures) (c.put_node-next.ensures u L)) c.put-in-78.ensures)

pub returns-in_default : goal.returns-in_default
returns-in_default t c = λ u L.
    let x = c.line_at-line.result in
    let read : x ≡ node_at u c.args.node.0 = c.line_at-line.ensures ∙ line_lent u c.args.numbers.now L c.args.node.0 c.requires.node_bound in
    appends_same (sym (leaf-text u L.facts c.args.node.0 x read (grind arith, grind arith) (omega arith))) c.put_leaf.ensures
