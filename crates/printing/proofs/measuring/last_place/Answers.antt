-- `last_place` meets its contract, letter by letter, from the last places of the nodes that the line names. Assumes nothing.
use native.Mathlib.Omega.{arith}
use Prim.Native.Nat.{ℕ, ◌+◌, ◌<◌, min}
use mathlib.Core.Path.{ap, ◌∙◌}
use lib.ListN.{length, get_or}
use Rattle.aldlf.specs.Sheet.{sheet_of}
use Rattle.printing.specs.Print.{node_text}
use Rattle.printing.specs.Pieces.{prefix_text, operand_of, operator_of}
use Rattle.printing.proofs.Texts.{text_some}
use Rattle.printing.proofs.LineTexts.{two_text, two_lower, one_text, one_lower, leaf-text}
use Rattle.sheet.proofs.InUse.{node_few, line_lent}
use Rattle.printing.proofs.Bracketed.{last_one, last_two}
use Rattle.printing.proofs.Measures.{measured_low}
use Rattle.printing.proofs.measuring.last_place.Goals as goal
use Rattle.printing.proofs.measuring.last_place.Goals.{In-65, In-78}

-- of the two nodes of an A or O, both numbers are lower
lower : (c : In-65) → let x = c.line_at-line.result in let k = c.args.node.0 in (x.a < k) × (x.b < k)
lower c =
    let (t, L, M) = c.requires.lent in
    two_lower t L.facts c.args.node.0 c.line_at-line.result (c.line_at-line.ensures ∙ line_lent t c.args.numbers.now L c.args.node.0 c.requires.node_bound) c.in-65.is

-- so is that of the node of an N, D or B
under : (c : In-78) → operand_of c.line_at-line.result < c.args.node.0
under c =
    let (t, L, M) = c.requires.lent in
    one_lower t L.facts c.args.node.0 c.line_at-line.result (c.line_at-line.ensures ∙ line_lent t c.args.numbers.now L c.args.node.0 c.requires.node_bound) c.in-78.is

pub line_at-line-requires : goal.line_at-line-requires
line_at-line-requires c = let (t, L, M) = c.requires.lent in (L.packed.size, node_few t c.args.numbers.now L c.args.node.0 c.requires.node_bound)

pub bounds-lasts-line : goal.bounds-lasts-line
bounds-lasts-line c = let (t, L, M) = c.requires.lent in omega (arith, (lower (goal.at.bounds-lasts-line c).In-65).0, M.size, node_few t c.args.numbers.now L c.args.node.0 c.requires.node_bound)

pub bounds-lasts-line-in-65 : goal.bounds-lasts-line-in-65
bounds-lasts-line-in-65 c = let (t, L, M) = c.requires.lent in omega (arith, (lower (goal.at.bounds-lasts-line-in-65 c).In-65).1, M.size, node_few t c.args.numbers.now L c.args.node.0 c.requires.node_bound)

pub further-both-requires : goal.further-both-requires
further-both-requires c = let (t, L, M) = c.requires.lent in measured_low (sheet_of t) _ _ _ M _ (lower (goal.at.further-both-requires c).In-65).0

pub returns-in-65 : goal.returns-in-65
returns-in-65 c =
    let k = c.args.node.0 in
    let x = c.line_at-line.result in
    λ t L M.
    let low = lower (goal.at.returns-in-65 c).In-65 in
    last_two c.args.room (node_text (sheet_of t) x.a) (node_text (sheet_of t) x.b) (node_text (sheet_of t) k) (operator_of x) _ _ _ _
    (two_text t L.facts k x (c.line_at-line.ensures ∙ line_lent t c.args.numbers.now L k c.requires.node_bound) c.in-65.is) (text_some (sheet_of t) x.a) (text_some (sheet_of t) x.b) (M.each x.a low.0) (M.each x.b low.1) c.further-both.ensures (omega (arith, c.further.ensures))

pub bounds-lasts-under : goal.bounds-lasts-under
bounds-lasts-under c = let (t, L, M) = c.requires.lent in omega (arith, under (goal.at.bounds-lasts-under c).In-78, c.operand-under.ensures, M.size, node_few t c.args.numbers.now L c.args.node.0 c.requires.node_bound)

pub overflow_add-prefix_bytes : goal.overflow_add-prefix_bytes
overflow_add-prefix_bytes c = omega (arith, c.prefix_bytes.ensures.1)

pub further-requires-in-78 : goal.further-requires-in-78
further-requires-in-78 c = let (t, L, M) = c.requires.lent in measured_low (sheet_of t) _ _ _ M _ (omega (arith, under (goal.at.further-requires-in-78 c).In-78, c.operand-under.ensures))

pub returns-in-78 : goal.returns-in-78
returns-in-78 c =
    let k = c.args.node.0 in
    let x = c.line_at-line.result in
    λ t L M.
    last_one c.args.room (prefix_text x) (node_text (sheet_of t) (operand_of x)) (node_text (sheet_of t) k) _ _
    (one_text t L.facts k x (c.line_at-line.ensures ∙ line_lent t c.args.numbers.now L k c.requires.node_bound) c.in-78.is) (text_some (sheet_of t) (operand_of x))
    (ap (λ (j : ℕ). get_or c.args.lasts.now j 0) c.operand-under.ensures ∙ M.each (operand_of x) (under (goal.at.returns-in-78 c).In-78))
    (c.further-in-78.ensures ∙ ap (λ (n : ℕ). min (get_or c.args.lasts.now c.operand-under.result.0 0 + (n + 2)) c.args.room) c.prefix_bytes.ensures.0)

pub overflow_sub-leaf_bytes : goal.overflow_sub-leaf_bytes
overflow_sub-leaf_bytes c = omega (arith, c.leaf_bytes.ensures.1)

pub returns-in_default : goal.returns-in_default
returns-in_default c =
    let k = c.args.node.0 in
    let x = c.line_at-line.result in
    λ t L M.
    let e = ap length (leaf-text t L.facts k x (c.line_at-line.ensures ∙ line_lent t c.args.numbers.now L k c.requires.node_bound) (grind arith, grind arith) (omega arith)) in
    omega (arith, e, c.further-in_default.ensures, c.leaf_bytes.ensures.0)
