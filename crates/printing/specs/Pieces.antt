-- For the code's own contracts: the pieces of a node line's text, by the line as the table has it.
use Rattle.std.specs.Prelude.{ℕ, cond, List, [], ◌∷◌, eqb}
use Rattle.aldlf.specs.Constants.{letter_t, letter_p, letter_n, letter_a, letter_d}
use Rattle.aldlf.specs.declared.NodeLine.{NodeLine}
use Rattle.appending.specs.Appending.{decimal}
use Rattle.printing.specs.Print.{true_text, false_text, marked}

-- a line that names no node: `true`, `f3`, `false`
unfoldable pub leaf_text : NodeLine → List ℕ
leaf_text x = cond (eqb x.kind letter_t) true_text (cond (eqb x.kind letter_p) (102 ∷ decimal x.a) false_text)

-- what stands between the bracket and the node of an N, D or B: `!`, `<m3>`, `[m3]`
unfoldable pub prefix_text : NodeLine → List ℕ
prefix_text x = cond (eqb x.kind letter_n) (33 ∷ []) (cond (eqb x.kind letter_d) (marked 60 x.a 62) (marked 91 x.a 93))

-- the node of an N, D or B
unfoldable pub operand_of : NodeLine → ℕ
operand_of x = cond (eqb x.kind letter_n) x.a x.b

-- what stands between the two nodes of an A or O: `&`, `|`
unfoldable pub operator_of : NodeLine → ℕ
operator_of x = cond (eqb x.kind letter_a) 38 124
