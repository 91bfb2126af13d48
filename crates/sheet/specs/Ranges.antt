-- Question 7: each number on a line is in the range of its field's kind. The leftmost that is not decides: by its kind's number, and by its field, the letter being field 1.
use Rattle.std.specs.Prelude.{ℕ, ◌+◌, List, [], ◌∷◌, Bool, cond, ◌&&◌, ◌||◌, ltb, leb, eqb}
use Rattle.aldlf.specs.Constants.{state_limit, fact_limit, letter_p, letter_n, letter_a, letter_o, letter_d, letter_b, letter_m, letter_g, letter_e}
use Rattle.aldlf.specs.declared.Automaton.{Automaton}
use Rattle.aldlf.specs.declared.Used.{Used}
use Rattle.sheet.specs.declared.line.Line.{Line}
use Rattle.sheet.specs.Answers.{Stop}

-- The kinds, each by the number of its refusal, and which numbers are of the kind: a fact;
abbrev pub a_fact : ℕ
a_fact = 71

abbrev pub is_fact : ℕ → Bool
is_fact n = ltb n fact_limit

-- a node on an earlier line;
abbrev pub a_node : ℕ
a_node = 72

abbrev pub is_node : Used → ℕ → Bool
is_node u n = ltb n u.nodes

-- an automaton on an earlier line;
abbrev pub an_automaton : ℕ
an_automaton = 73

abbrev pub is_automaton : Used → ℕ → Bool
is_automaton u n = ltb n u.automata

-- one of q states, also the one to start from;
abbrev pub a_state : ℕ
a_state = 74

abbrev pub is_state : ℕ → ℕ → Bool
is_state q n = ltb n q

-- the direction of an edge;
abbrev pub a_direction : ℕ
a_direction = 75

abbrev pub is_direction : ℕ → Bool
is_direction n = ltb n 3

-- how many states an automaton has.
abbrev pub a_count : ℕ
a_count = 76

abbrev pub is_count : ℕ → Bool
is_count n = leb 1 n && leb n state_limit

-- Whether a number is of a kind, beside the nodes and automata on earlier lines and q states.
unfoldable pub is_of_kind : Used → (q kind number : ℕ) → Bool
is_of_kind u q k n =
    cond (eqb k a_fact) (is_fact n)
    (cond (eqb k a_node) (is_node u n)
    (cond (eqb k an_automaton) (is_automaton u n)
    (cond (eqb k a_state) (is_state q n)
    (cond (eqb k a_direction) (is_direction n)
    (is_count n)))))

-- The kinds of the fields after each letter, from left to right.
unfoldable pub kinds : ℕ → List ℕ
kinds l =
    cond (eqb l letter_p) (a_fact ∷ [])
    (cond (eqb l letter_n) (a_node ∷ [])
    (cond (eqb l letter_a || eqb l letter_o) (a_node ∷ a_node ∷ [])
    (cond (eqb l letter_d || eqb l letter_b) (an_automaton ∷ a_node ∷ [])
    (cond (eqb l letter_m) (a_count ∷ a_state ∷ [])
    (cond (eqb l letter_g) (a_state ∷ [])
    (cond (eqb l letter_e) (a_state ∷ a_direction ∷ a_node ∷ a_state ∷ [])
    []))))))

-- The numbers after a line's letter.
abbrev pub numbers_of : Line → List ℕ
numbers_of l = l.a ∷ l.b ∷ l.c ∷ l.d ∷ []

-- How many states there are: an M line says so itself, G and E lines belong to the automaton x.
abbrev pub states_on : Automaton → Line → ℕ
states_on x l = cond (eqb l.letter letter_m) l.a x.states

-- Where reading stops: by question n, at field f. It goes on where both are 0.
abbrev pub stop_at : ℕ → ℕ → Stop
stop_at n f = record { number = n; field = f }

abbrev pub going_on : Stop
going_on = stop_at 0 0

-- The first number that is not of its kind; the fields are counted from f.
unfoldable pub first_wrong : (fits : ℕ → ℕ → Bool) → (f : ℕ) → (kinds numbers : List ℕ) → Stop
first_wrong fits f [] ns = going_on
first_wrong fits f (k ∷ ks) [] = going_on
first_wrong fits f (k ∷ ks) (n ∷ ns) = cond (fits k n) (first_wrong fits (f + 1) ks ns) (stop_at k f)

-- Question 7 of a line, beside the nodes and automata on earlier lines and the automaton that it belongs to.
unfoldable pub out_of_range : Used → Automaton → Line → Stop
out_of_range u x l = first_wrong (is_of_kind u (states_on x l)) 2 (kinds l.letter) (numbers_of l)
