-- THE RULE AS TEXT (document 02, S-7): each node in full brackets, automata as `m` and their number, down to the facts; what printing it answers.
use Rattle.std.specs.Prelude.{Result, Ok, Err, ℕ, zero, suc, ◌-◌, Bool, true, false, cond, List, [], ◌∷◌, ◌++◌, eqb}
use Rattle.aldlf.specs.Sheet.{Sheet, Line, T, F, P, N, A, O, D, B}
use Rattle.aldlf.specs.Refusals.{refusal_number}
use Rattle.aldlf.specs.declared.Refusal.{Refusal}
use Rattle.appending.specs.Appending.{decimal}
use Rattle.appending.specs.Placed.{Printed, unprinted, placed}

-- `true` and `false`
abbrev pub true_text : List ℕ
true_text = 116 ∷ 114 ∷ 117 ∷ 101 ∷ []

abbrev pub false_text : List ℕ
false_text = 102 ∷ 97 ∷ 108 ∷ 115 ∷ 101 ∷ []

-- a text in brackets: `(` .. `)`
abbrev pub bracketed : List ℕ → List ℕ
bracketed text = 40 ∷ (text ++ (41 ∷ []))

-- an automaton, `m` and its number, between the marks of a path: `<m3>` or `[m3]`
abbrev pub marked : (left m right : ℕ) → List ℕ
marked left m right = left ∷ 109 ∷ (decimal m ++ (right ∷ []))

-- A node line's text, from the texts of the nodes that it names: `true`, `false`, `f3`, `(!a)`, `(a&b)`, `(a|b)`, `(<m3>a)`, `([m3]a)`.
abbrev pub line_text : (ℕ → List ℕ) → Line → List ℕ
line_text of T = true_text
line_text of F = false_text
line_text of (P f) = 102 ∷ decimal f
line_text of (N a) = bracketed (33 ∷ of a)
line_text of (A a b) = bracketed (of a ++ (38 ∷ of b))
line_text of (O a b) = bracketed (of a ++ (124 ∷ of b))
line_text of (D m a) = bracketed (marked 60 m 62 ++ of a)
line_text of (B m a) = bracketed (marked 91 m 93 ++ of a)

-- The texts of the nodes below n: that of node k.
unfoldable pub texts_below : Sheet → (n k : ℕ) → List ℕ
texts_below S zero k = []
texts_below S (suc n) k = elim (eqb k n) [ true ↦ line_text (texts_below S n) (S.line n) | false ↦ texts_below S n k ]

-- The text of node k, and of the rule, the last node.
abbrev pub node_text : Sheet → (k : ℕ) → List ℕ
node_text S k = texts_below S (suc k) k

abbrev pub rule_text : Sheet → List ℕ
rule_text S = node_text S (S.nodes - 1)

-- What printing answers, beside the buffer as the call ends: how many bytes, or a refusal by its number, with no byte.
abbrev pub printed_of : Result ℕ Refusal → List ℕ → Printed
printed_of (Ok n) buffer = record { number = 0; count = n; buffer = buffer }
printed_of (Err r) buffer = record { number = refusal_number r; count = 0; buffer = buffer }

-- Printing the rule of a sheet's table: 31 where no sheet gives the table, then 55 where the text is longer than the buffer.
unfoldable pub print_outcome : (given : Bool) → Sheet → (lent : List ℕ) → Printed
print_outcome given S lent = cond given (placed 55 (rule_text S) lent) (unprinted 31 lent)
