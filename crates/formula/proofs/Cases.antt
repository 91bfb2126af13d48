-- Texts worked by hand come out by the definitions alone: the formula that they are read to, the place of a refusal, the table made, and what just fits a sheet.
use Prim.Native.Nat.{ℕ, zero, suc, ◌-◌}
use Prim.Native.Char.{code}
use Prim.Native.String.{String, [] as none, ◌∷◌ as ◌then◌}
use mathlib.Core.Path.{◌≡◌, refl}
use mathlib.Core.List.{List, [], ◌∷◌, ◌++◌}
use lib.ListN.{replicate}
use Rattle.aldlf.specs.Constants.{node_limit, automaton_limit, edge_limit, letter_t, letter_p, letter_a, letter_o, letter_d}
use Rattle.aldlf.specs.Sheet.{ahead, back, stay, no_line, no_edge, no_automaton}
use Rattle.aldlf.specs.declared.NodeLine.{NodeLine}
use Rattle.aldlf.specs.declared.Edge.{Edge}
use Rattle.aldlf.specs.declared.Automaton.{Automaton}
use Rattle.aldlf.specs.declared.Table.{Table}
use Rattle.sheet.specs.Questions.{with_node}
use Rattle.formula.specs.Signs.{sign_not, sign_and, sign_or, sign_seq, sign_alt, sign_star, sign_back, sign_test, round_open, round_close, curly_open, curly_close, angle_open, angle_close, square_open, square_close, sign_fact, word_true}
use Rattle.formula.specs.Formula.{fact, neg, both, either, some, step, seq, alt, many}
use Rattle.formula.specs.Parse.{ok, bad, deep, byte, closed, chain, fact_at, true_at, stepped, starred_from, atom_at, prefix_at, operand_from, piece_at, inner, parsed}
use Rattle.formula.specs.Numbering.{edge_of, made, table_of}
use Rattle.formula.specs.Outcome.{fits_sheet, Read, accepted, refused, read_formula}

-- the bytes of a text, and of n such texts in a row
abbrev bytes : String → List ℕ
bytes none = []
bytes (c then s) = code c ∷ bytes s

abbrev times : ℕ → String → List ℕ
times zero s = []
times (suc n) s = bytes s ++ times n s

-- the number of an answer: 0 for a table
abbrev number : Read → ℕ
number (accepted t) = 0
number (refused n x) = n

-- the signs are what they are called
pub signs : bytes "!&|;+*-?(){}<>[]f"
    ≡ sign_not ∷ sign_and ∷ sign_or ∷ sign_seq ∷ sign_alt ∷ sign_star ∷ sign_back ∷ sign_test ∷ round_open ∷ round_close ∷ curly_open ∷ curly_close ∷ angle_open ∷ angle_close ∷ square_open ∷ square_close ∷ sign_fact ∷ []
signs = refl

pub word : bytes "true" ≡ word_true
word = refl

-- where no formula can go on, or the text stops short: words, facts, brackets and operators, space and LF, steps and paths out of place
pub stops : (parsed [] ≡ bad 0)
    × (parsed (bytes "tru") ≡ bad 3)
    × (parsed (bytes "tRue") ≡ bad 1)
    × (parsed (bytes "false") ≡ bad 1)
    × (parsed (bytes "f") ≡ bad 1)
    × (parsed (bytes "f32") ≡ bad 2)
    × (parsed (bytes "f01") ≡ bad 2)
    × (parsed (bytes "f1)") ≡ bad 2)
    × (parsed (bytes "(f1") ≡ bad 3)
    × (parsed (bytes "f1&") ≡ bad 3)
    × (parsed (bytes "f1\n") ≡ bad 2)
    × (parsed (bytes "f1 ") ≡ bad 2)
    × (parsed (bytes " f1") ≡ bad 0)
    × (parsed (bytes "{f1}") ≡ bad 0)
    × (parsed (bytes "<f1>f2") ≡ bad 1)
    × (parsed (bytes "<>f1") ≡ bad 1)
    × (parsed (bytes "<{f1};>f2") ≡ bad 6)
    × (parsed (bytes "<{f1}>") ≡ bad 6)
    × (parsed (bytes "<{f1}]f2") ≡ bad 5)
    × (parsed (bytes "<{f1}*->f2") ≡ bad 6)
    × (parsed (bytes "<({f1};{f2})->f3") ≡ bad 12)
unfolding parsed inner chain closed byte stepped starred_from operand_from prefix_at atom_at piece_at fact_at true_at
stops = (refl, refl, refl, refl, refl, refl, refl, refl, refl, refl, refl, refl, refl, refl, refl, refl, refl, refl, refl, refl, refl)

-- `&` before `|`, to the left, prefixes before both; `*` before `;` before `+`; a path mark within a test
pub reads : (parsed (bytes "f1|f2&f3") ≡ ok (either (fact 1) (both (fact 2) (fact 3))) 8)
    × (parsed (bytes "f1|f2|f3") ≡ ok (either (either (fact 1) (fact 2)) (fact 3)) 8)
    × (parsed (bytes "f1&f2&f3") ≡ ok (both (both (fact 1) (fact 2)) (fact 3)) 8)
    × (parsed (bytes "!f1&f2") ≡ ok (both (neg (fact 1)) (fact 2)) 6)
    × (parsed (bytes "<{f1}>f2&f3") ≡ ok (both (some (step ahead (fact 1)) (fact 2)) (fact 3)) 11)
    × (parsed (bytes "!<{f1}>f2") ≡ ok (neg (some (step ahead (fact 1)) (fact 2))) 9)
    × (parsed (bytes "!<{f1}->f2&f31") ≡ ok (both (neg (some (step back (fact 1)) (fact 2))) (fact 31)) 14)
    × (parsed (bytes "<{f1}+{f2};{f3}?**>f4") ≡ ok (some (alt (step ahead (fact 1)) (seq (step ahead (fact 2)) (many (many (step stay (fact 3)))))) (fact 4)) 21)
    × (parsed (bytes "<{<{f1}>f2}?>f3") ≡ ok (some (step stay (some (step ahead (fact 1)) (fact 2))) (fact 3)) 15)
unfolding parsed inner chain closed byte stepped starred_from operand_from prefix_at atom_at piece_at fact_at true_at
reads = (refl, refl, refl, refl, refl, refl, refl, refl, refl)

-- 16 marks open, of one kind or several; a 17th, whatever follows; a 17th that no formula has there; a 17th of another kind
pub depths : (parsed (times 16 "(" ++ (bytes "f1" ++ times 16 ")")) ≡ ok (fact 1) 34)
    × (parsed (times 14 "(" ++ (bytes "<{f1}>f2" ++ times 14 ")")) ≡ ok (some (step ahead (fact 1)) (fact 2)) 36)
    × (parsed (times 17 "(" ++ bytes "%") ≡ deep 17)
    × (parsed (times 16 "(" ++ bytes "{") ≡ bad 16)
    × (parsed (times 15 "(" ++ bytes "<{f1}>f2") ≡ deep 17)
unfolding parsed inner chain closed byte stepped starred_from operand_from prefix_at atom_at piece_at fact_at true_at
depths = (refl, refl, refl, refl, refl)

-- the answers: over 4,096 bytes 50; 51 with its place; 52; 54 within an ahead and a back step, and before 53 where both apply
pub refusals : (read_formula (times 4095 "!" ++ bytes "f0") ≡ refused 50 0)
    × (read_formula (bytes "f1)") ≡ refused 51 2)
    × (read_formula (times 17 "(" ++ bytes "%") ≡ refused 52 0)
    × (read_formula (bytes "<{<{f1}>f2}>f3") ≡ refused 54 0)
    × (read_formula (bytes "<{(!<{f1}>f2)}->f3") ≡ refused 54 0)
    × (read_formula (bytes "<{<{true}*>f1}*>f2") ≡ refused 54 0)
    × (read_formula (bytes "<{<{f0}>f1}>" ++ (times 200 "!" ++ bytes "f0")) ≡ refused 54 0)
unfolding parsed inner chain closed byte stepped starred_from operand_from prefix_at atom_at piece_at fact_at true_at read_formula fits_sheet table_of made with_node
refusals = (refl, refl, refl, refl, refl, refl, refl)

-- the rules of docs/FORMULAS.md have a table each
pub desk : (number (read_formula (bytes "[{true}*](!f2|<{!f0}-*>f1)")) ≡ 0)
    × (number (read_formula (bytes "[{true}*](!f0|<{true}*>f1)")) ≡ 0)
    × (number (read_formula (bytes "[{true}*](!f0|[{!f1}*](f1|!f2))")) ≡ 0)
    × (number (read_formula (bytes "[{true}*](!f2|<{!f0}-*;{f1&!f0}-;{!f0}-*>f1)")) ≡ 0)
    × (number (read_formula (bytes "[{true}*](!f1|<{!f0}-*>f5&<{!f0}-*>f6)")) ≡ 0)
    × (number (read_formula (bytes "[{true}*](!f3|<{true}+{true};{true}+{true};{true};{true}>(f1|f4))")) ≡ 0)
    × (number (read_formula (bytes "[{true}*](!f4|[{true};{!f0}*](f0|!f3))")) ≡ 0)
    × (number (read_formula (bytes "[{true}*](!f2|!<{!f8}-*>f7)")) ≡ 0)
    × (number (read_formula (bytes "[{true}*](!f9|[{true}*]!f0)")) ≡ 0)
    × (number (read_formula (bytes "<{true}-*;{[{true}-]!true}?>f0")) ≡ 0)
    × (number (read_formula (bytes "<{true}*;{[{true}]!true}?>f9")) ≡ 0)
    × (number (read_formula (bytes "[{true}*](!f2|<{true}+{true}->f2)")) ≡ 0)
    × (number (read_formula (bytes "<({<{true}*>f1}?;{true})*>f2")) ≡ 0)
unfolding parsed inner chain closed byte stepped starred_from operand_from prefix_at atom_at piece_at fact_at true_at read_formula fits_sheet table_of made with_node
desk = (refl, refl, refl, refl, refl, refl, refl, refl, refl, refl, refl, refl, refl)

-- what just fits, and 53: 128 nodes by `&` and by `!`; 16 automata; 16 states by `;`, by `*` and by `+`; 256 edges
pub limits : (number (read_formula (bytes "f0" ++ times 63 "&f0")) ≡ 0)
    × (read_formula (bytes "f0" ++ times 64 "&f0") ≡ refused 53 0)
    × (number (read_formula (times 126 "!" ++ bytes "f0")) ≡ 0)
    × (read_formula (times 127 "!" ++ bytes "f0") ≡ refused 53 0)
    × (number (read_formula (times 16 "<{f0}>" ++ bytes "f1")) ≡ 0)
    × (read_formula (times 17 "<{f0}>" ++ bytes "f1") ≡ refused 53 0)
    × (number (read_formula (bytes "<{f0}" ++ (times 7 ";{f0}" ++ bytes ">f0"))) ≡ 0)
    × (read_formula (bytes "<{f0}" ++ (times 8 ";{f0}" ++ bytes ">f0")) ≡ refused 53 0)
    × (number (read_formula (bytes "<{f0}*******>f1")) ≡ 0)
    × (read_formula (bytes "<{f0}********>f1") ≡ refused 53 0)
    × (number (read_formula (bytes "<{f0}+{f0}+{f0}+{f0}>f1")) ≡ 0)
    × (read_formula (bytes "<{f0}+{f0}+{f0}+{f0}+{f0}>f1") ≡ refused 53 0)
    × (number (read_formula (bytes "<{f0}*******>f1" ++ times 7 "&<{f0}*******>f1")) ≡ 0)
    × (read_formula (bytes "<{f0}*******>f1" ++ times 8 "&<{f0}*******>f1") ≡ refused 53 0)
unfolding parsed inner chain closed byte stepped starred_from operand_from prefix_at atom_at piece_at fact_at true_at read_formula fits_sheet table_of made with_node
limits = (refl, refl, refl, refl, refl, refl, refl, refl, refl, refl, refl, refl, refl, refl)

-- a table of n node lines, m automata and e edges, the places not in use all zeros
abbrev table_with : List NodeLine → List Automaton → List Edge → (n m e : ℕ) → Table
table_with ns ms es n m e =
    record {
      nodes = ns ++ replicate (node_limit - n) no_line;
      automata = ms ++ replicate (automaton_limit - m) no_automaton;
      edges = es ++ replicate (edge_limit - e) no_edge;
      used = record { nodes = n; automata = m; edges = e };
    }

abbrev line : ℕ → ℕ → ℕ → NodeLine
line l a b = record { kind = l; a = a; b = b }

-- `T` `T`
pub makes_true : read_formula (bytes "true") ≡ accepted (table_with (line letter_t 0 0 ∷ line letter_t 0 0 ∷ []) [] [] 2 0 0)
unfolding parsed inner chain closed byte stepped starred_from operand_from prefix_at atom_at piece_at fact_at true_at read_formula fits_sheet table_of made with_node
makes_true = refl

-- `T` `P,1` `P,2` `P,3` `A,2,3` `O,1,4`
pub makes_both : read_formula (bytes "f1|f2&f3")
    ≡ accepted (table_with (line letter_t 0 0 ∷ line letter_p 1 0 ∷ line letter_p 2 0 ∷ line letter_p 3 0 ∷ line letter_a 2 3 ∷ line letter_o 1 4 ∷ []) [] [] 6 0 0)
unfolding parsed inner chain closed byte stepped starred_from operand_from prefix_at atom_at piece_at fact_at true_at read_formula fits_sheet table_of made with_node
makes_both = refl

-- `T` `T` `M,4,2` `G,3` `E,0,1,1,1` `E,2,0,0,0` `E,1,0,0,0` `E,1,0,0,3` `E,2,0,0,3` `P,1` `D,0,2`
pub makes_star : read_formula (bytes "<{true}*>f1")
    ≡ accepted (table_with (line letter_t 0 0 ∷ line letter_t 0 0 ∷ line letter_p 1 0 ∷ line letter_d 0 2 ∷ [])
    (record { states = 4; start = record { 0 = 2 }; accepting = 8; first = 0; count = 5; before = 2 } ∷ [])
    (edge_of 0 1 1 1 ∷ edge_of 2 0 0 0 ∷ edge_of 1 0 0 0 ∷ edge_of 1 0 0 3 ∷ edge_of 2 0 0 3 ∷ []) 4 1 5)
unfolding parsed inner chain closed byte stepped starred_from operand_from prefix_at atom_at piece_at fact_at true_at read_formula fits_sheet table_of made with_node
makes_star = refl

-- `T` `P,1` `P,2` `P,3` `M,10,8` `G,9`, the edges of three steps, of `*`, of `;` and of `+`, `P,4` `D,0,4`
pub makes_path : read_formula (bytes "<{f1}+{f2};{f3}*>f4")
    ≡ accepted (table_with (line letter_t 0 0 ∷ line letter_p 1 0 ∷ line letter_p 2 0 ∷ line letter_p 3 0 ∷ line letter_p 4 0 ∷ line letter_d 0 4 ∷ [])
    (record { states = 10; start = record { 0 = 8 }; accepting = 512; first = 0; count = 12; before = 4 } ∷ [])
    (edge_of 0 1 1 1 ∷ edge_of 2 1 2 3 ∷ edge_of 4 1 3 5 ∷ edge_of 6 0 0 4 ∷ edge_of 5 0 0 4 ∷ edge_of 5 0 0 7 ∷ edge_of 6 0 0 7 ∷ edge_of 3 0 0 6 ∷ edge_of 8 0 0 0 ∷ edge_of 8 0 0 2 ∷ edge_of 1 0 0 9 ∷ edge_of 7 0 0 9 ∷ []) 6 1 12)
unfolding parsed inner chain closed byte stepped starred_from operand_from prefix_at atom_at piece_at fact_at true_at read_formula fits_sheet table_of made with_node
makes_path = refl

-- `T` `P,1` `M,2,0` `G,1` `E,0,1,1,1` `P,2` `D,0,2` `M,2,0` `G,1` `E,0,0,3,1` `P,3` `D,1,4`: a test may hold a path mark
pub makes_test : read_formula (bytes "<{<{f1}>f2}?>f3")
    ≡ accepted (table_with (line letter_t 0 0 ∷ line letter_p 1 0 ∷ line letter_p 2 0 ∷ line letter_d 0 2 ∷ line letter_p 3 0 ∷ line letter_d 1 4 ∷ [])
    (record { states = 2; start = record { 0 = 0 }; accepting = 2; first = 0; count = 1; before = 2 } ∷ record { states = 2; start = record { 0 = 0 }; accepting = 2; first = 1; count = 1; before = 4 } ∷ [])
    (edge_of 0 1 1 1 ∷ edge_of 0 0 3 1 ∷ []) 6 2 2)
unfolding parsed inner chain closed byte stepped starred_from operand_from prefix_at atom_at piece_at fact_at true_at read_formula fits_sheet table_of made with_node
makes_test = refl
