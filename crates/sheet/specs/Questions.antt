-- Questions 1 to 11 of document 01, in its order: a sheet's text to its table, or to the first question that gets a no, and the line and the field it is about. Question 7 stands in Ranges.
use Rattle.std.specs.Prelude.{ℕ, zero, suc, ◌+◌, ◌-◌, ◌^◌, min, List, [], ◌∷◌, Bool, true, false, cond, not, ◌&&◌, ◌||◌, length, get_or, take, drop, set, replicate, ltb, leb, eqb}
use Rattle.aldlf.specs.Constants.{node_limit, automaton_limit, edge_limit, letter_t, letter_f, letter_p, letter_n, letter_a, letter_o, letter_d, letter_b, letter_m, letter_g, letter_e}
use Rattle.aldlf.specs.Sheet.{bit, no_line, no_edge, no_automaton}
use Rattle.aldlf.specs.declared.NodeLine.{NodeLine}
use Rattle.aldlf.specs.declared.Edge.{Edge}
use Rattle.aldlf.specs.declared.Automaton.{Automaton}
use Rattle.aldlf.specs.declared.Used.{Used}
use Rattle.aldlf.specs.declared.Table.{Table}
use Rattle.text.specs.Text.{lines, fields, ends_in_lf, number, byte_limit, not_number}
use Rattle.sheet.specs.declared.line.Line.{Line}
use Rattle.sheet.specs.declared.build.Reading.{Reading}
use Rattle.sheet.specs.Answers.{Stop, SheetAnswer}
use Rattle.sheet.specs.Ranges.{going_on, stop_at, out_of_range}

-- The letter of a line's first field: its one byte; 0 for a field of another length.
abbrev pub letter_of : List ℕ → ℕ
letter_of [] = 0
letter_of (b ∷ []) = b
letter_of (b ∷ c ∷ bs) = 0

-- Field i of a line as a number (`not_number` where it is none); 0 where the line has no field i.
abbrev pub number_at : List (List ℕ) → ℕ → ℕ
number_at fs i = cond (ltb i (length fs)) (number (get_or fs i [])) 0

-- A line by its fields: its letter, how many fields follow it (5 for more than four), and the first four of those as numbers.
unfoldable pub parsed : List (List ℕ) → Line
parsed fs =
    record {
      letter = letter_of (get_or fs 0 []);
      count = min 5 (length fs - 1);
      a = number_at fs 1;
      b = number_at fs 2;
      c = number_at fs 3;
      d = number_at fs 4;
    }

-- How many fields follow each letter; 9, which no line has, for what is no letter of the table.
abbrev pub arity : ℕ → ℕ
arity l =
    cond (eqb l letter_t || eqb l letter_f) 0
    (cond (eqb l letter_p || eqb l letter_n || eqb l letter_g) 1
    (cond (eqb l letter_a || eqb l letter_o || eqb l letter_d || eqb l letter_b || eqb l letter_m) 2
    (cond (eqb l letter_e) 4
    9)))

-- Question 3: the first field is a letter of the table, and the line has that letter's number of fields.
unfoldable pub known_line : Line → Bool
known_line l = eqb l.count (arity l.letter)

-- Question 4: the other fields are all numbers.
unfoldable pub all_numbers : Line → Bool
all_numbers l = ltb l.a not_number && ltb l.b not_number && ltb l.c not_number && ltb l.d not_number

-- Question 5: there is room under the limits for one more node, automaton or edge.
unfoldable pub room_left : Used → Line → Bool
room_left u l =
    cond (eqb l.letter letter_m) (ltb u.automata automaton_limit)
    (cond (eqb l.letter letter_g) true
    (cond (eqb l.letter letter_e) (ltb u.edges edge_limit)
    (ltb u.nodes node_limit)))

-- Question 6: the line before a G or E line is M, G or E.
unfoldable pub belongs : Bool → Line → Bool
belongs inside l = cond (eqb l.letter letter_g || eqb l.letter letter_e) inside true

-- The automaton that G and E lines belong to: that of the last M line.
abbrev pub last : Table → Automaton
last t = get_or t.automata (t.used.automata - 1) no_automaton

-- Question 8: the state of a G line does not accept yet.
unfoldable pub newly_accepting : Automaton → Line → Bool
newly_accepting x l = cond (eqb l.letter letter_g) (not (bit x.accepting l.a)) true

-- Whether a node is neither D nor B and built on none, where p says so of the nodes before it.
abbrev pub plain_node : List Bool → NodeLine → Bool
plain_node p x =
    cond (eqb x.kind letter_t || eqb x.kind letter_f || eqb x.kind letter_p) true
    (cond (eqb x.kind letter_n) (get_or p x.a false)
    (cond (eqb x.kind letter_a || eqb x.kind letter_o) (get_or p x.a false && get_or p x.b false)
    false))

-- The same for the nodes from number i on, put into the flags p one after the other.
unfoldable pub plain_from : List NodeLine → ℕ → List Bool → List Bool
plain_from [] i p = p
plain_from (x ∷ xs) i p = plain_from xs (i + 1) (set p i (plain_node p x))

-- Of each node, whether it is neither D nor B and built on none.
abbrev pub plains : List NodeLine → List Bool
plains nodes = plain_from nodes 0 (replicate node_limit false)

-- Question 9: the node of an edge with d 1 or 2 is neither D nor B, and built on none.
unfoldable pub plain_step : List NodeLine → Line → Bool
plain_step nodes l = cond (eqb l.letter letter_e && not (eqb l.b 0)) (get_or (plains nodes) l.c false) true

-- A question about the line as a whole: it stops where the answer is no; where it is yes, the later questions are asked.
abbrev pub ask : Bool → ℕ → Stop → Stop
ask answer n later = cond answer later (stop_at n 0)

-- A question about the fields: where it stops at none, the later questions are asked.
abbrev pub ask_fields : Stop → Stop → Stop
ask_fields s later = cond (eqb s.number 0) later s

-- The first of questions 3 to 9 that gets a no; it goes on where there is none.
unfoldable pub question : Reading → Line → Stop
question r l =
    ask (known_line l) 3
    (ask (all_numbers l) 4
    (ask (room_left r.table.used l) 5
    (ask (belongs r.inside l) 6
    (ask_fields (out_of_range r.table.used (last r.table) l)
    (ask (newly_accepting (last r.table) l) 8
    (ask (plain_step r.table.nodes l) 9
    going_on))))))

-- The table with one node line more.
unfoldable pub with_node : Table → Line → Table
with_node t l =
    record {
      nodes = set t.nodes t.used.nodes (record { kind = l.letter; a = l.a; b = l.b });
      automata = t.automata;
      edges = t.edges;
      used = record { nodes = t.used.nodes + 1; automata = t.used.automata; edges = t.used.edges };
    }

-- The table with one M line more.
unfoldable pub with_automaton : Table → Line → Table
with_automaton t l =
    record {
      nodes = t.nodes;
      automata =
          set t.automata t.used.automata
          (record { states = l.a; start = record { 0 = l.b }; accepting = 0; first = t.used.edges; count = 0; before = t.used.nodes });
      edges = t.edges;
      used = record { nodes = t.used.nodes; automata = t.used.automata + 1; edges = t.used.edges };
    }

-- The table whose last automaton, x, accepts by p more.
abbrev pub accepting_by : Automaton → ℕ → Table → Table
accepting_by x p t =
    record {
      nodes = t.nodes;
      automata =
          set t.automata (t.used.automata - 1)
          (record { states = x.states; start = x.start; accepting = x.accepting + p; first = x.first; count = x.count; before = x.before });
      edges = t.edges;
      used = t.used;
    }

-- The table with one G line more.
unfoldable pub with_accepting : Table → Line → Table
with_accepting t l = accepting_by (last t) (2 ^ l.a) t

-- The table whose last automaton, x, has one edge more.
abbrev pub edge_by : Automaton → Table → Line → Table
edge_by x t l =
    record {
      nodes = t.nodes;
      automata =
          set t.automata (t.used.automata - 1)
          (record { states = x.states; start = x.start; accepting = x.accepting; first = x.first; count = x.count + 1; before = x.before });
      edges =
          set t.edges t.used.edges
          (record { from = record { 0 = l.a }; dir = l.b; test = record { 0 = l.c }; to = record { 0 = l.d } });
      used = record { nodes = t.used.nodes; automata = t.used.automata; edges = t.used.edges + 1 };
    }

-- The table with one E line more.
unfoldable pub with_edge : Table → Line → Table
with_edge t l = edge_by (last t) t l

-- The table with one line more.
unfoldable pub with_line : Table → Line → Table
with_line t l =
    cond (eqb l.letter letter_m) (with_automaton t l)
    (cond (eqb l.letter letter_g) (with_accepting t l)
    (cond (eqb l.letter letter_e) (with_edge t l)
    (with_node t l)))

-- Whether the letter c is M, G or E.
abbrev pub opens : ℕ → Bool
opens c = eqb c letter_m || eqb c letter_g || eqb c letter_e

-- The reading after line k, which is l.
unfoldable pub added : Reading → ℕ → Line → Reading
added r k l =
    record {
      table = with_line r.table l;
      inside = opens l.letter;
      mlines = cond (eqb l.letter letter_m) (set r.mlines r.table.used.automata k) r.mlines;
    }

-- A table all zeros.
abbrev pub empty_table : Table
empty_table =
    record {
      nodes = replicate node_limit no_line;
      automata = replicate automaton_limit no_automaton;
      edges = replicate edge_limit no_edge;
      used = record { nodes = 0; automata = 0; edges = 0 };
    }

-- The reading before the first line.
abbrev pub start : Reading
start = record { table = empty_table; inside = false; mlines = replicate automaton_limit 0 }

-- The answers: a table; what stops the reading at line k; and a question's number and a line, where it is about no field.
abbrev pub accepted : Table → SheetAnswer
accepted t = record { number = 0; line = 0; field = 0; table = t }

abbrev pub refused_by : Stop → ℕ → SheetAnswer
refused_by s k = record { number = s.number; line = k; field = s.field; table = empty_table }

abbrev pub refused : ℕ → ℕ → SheetAnswer
refused n k = refused_by (stop_at n 0) k

-- Whether the edge e leaves or enters state s.
abbrev pub stands_on : ℕ → Edge → Bool
stands_on s e = eqb e.from.0 s || eqb e.to.0 s

-- Whether state s stands on one of the edges.
unfoldable pub some_edge : ℕ → List Edge → Bool
some_edge s [] = false
some_edge s (e ∷ es) = stands_on s e || some_edge s es

-- The edges of the automaton x.
abbrev pub edges_of : List Edge → Automaton → List Edge
edges_of es x = take x.count (drop x.first es)

-- Whether each number below n passes the test f.
unfoldable pub each : (ℕ → Bool) → ℕ → Bool
each f zero = true
each f (suc n) = each f n && f n

-- Whether each state below q stands on one of the edges.
abbrev pub each_state : List Edge → ℕ → Bool
each_state es q = each (λ s. some_edge s es) q

-- How many automata stand before the first one that has a state on no edge of its own.
unfoldable pub whole : List Edge → List Automaton → ℕ
whole es [] = 0
whole es (x ∷ xs) = cond (each_state (edges_of es x) x.states) (suc (whole es xs)) 0

-- The same for the automata of a table.
abbrev pub whole_of : Table → ℕ
whole_of t = whole t.edges (take t.used.automata t.automata)

-- After the last line, which is line k. Question 10: each state stands on some edge of its automaton. Question 11: the last line is a node.
unfoldable pub finish : Reading → ℕ → SheetAnswer
finish r k =
    cond (ltb (whole_of r.table) r.table.used.automata) (refused 10 (get_or r.mlines (whole_of r.table) 0))
    (cond r.inside (refused 11 k)
    (accepted r.table))

-- The lines after line k: each is asked, and added where all answers are yes.
unfoldable pub read_lines : Reading → ℕ → List (List ℕ) → SheetAnswer
read_lines r k [] = finish r k
read_lines r k (l ∷ ls) =
    let x = parsed (fields l) in
    let q = question r x in
    let rest = read_lines (added r (k + 1) x) (k + 1) ls in
    cond (eqb q.number 0) rest (refused_by q (k + 1))

-- Question 1: at most 49,152 bytes. Question 2: the text ends in LF. Then its lines.
unfoldable pub read_sheet : List ℕ → SheetAnswer
read_sheet text =
    let rest = read_lines start 0 (lines text) in
    cond (leb (length text) byte_limit)
    (cond (ends_in_lf text) rest (refused 2 0))
    (refused 1 0)
