-- The starred jobs that document 01 works by hand, as one list, and what it is for all of them to come out right.
use Rattle.std.specs.Prelude.{ℕ, zero, suc, ◌+◌, ◌*◌, ◌≡◌, Bool, true, false, List, [], ◌∷◌, ◌++◌, length, drop, replicate}
use Rattle.aldlf.specs.Constants.{node_limit, automaton_limit, edge_limit, letter_t, letter_f, letter_p, letter_n, letter_o, letter_d, letter_b}
use Rattle.aldlf.specs.Sheet.{sheet_of, no_line, no_edge, no_automaton}
use Rattle.aldlf.specs.Stands.{rule_sheet}
use Rattle.aldlf.specs.Outcomes.{one, tabulate, verdict_at, bits_of, plain_row, Whole, whole_outcome, Part, part_outcome}
use Rattle.aldlf.specs.Walks.{Shown, walk_outcome}
use Rattle.aldlf.specs.declared.Table.{Table}
use Rattle.aldlf.specs.declared.NodeLine.{NodeLine}
use Rattle.aldlf.specs.declared.Edge.{Edge}
use Rattle.aldlf.specs.declared.Automaton.{Automaton}
use Rattle.aldlf.specs.declared.Row.{Row}
use Rattle.aldlf.specs.declared.Way.TheVariants.{Ahead}

-- Tables -----------------------------------------------------------------------------------------------------------------------

-- A node line, an edge and an automaton by their numbers.
abbrev node : ℕ → ℕ → ℕ → NodeLine
node kind a b = record { kind = kind; a = a; b = b }

abbrev edge : ℕ → ℕ → ℕ → ℕ → Edge
edge s d a t = record { from = record { 0 = s }; dir = d; test = record { 0 = a }; to = record { 0 = t } }

abbrev automaton : (states start accepting first count before : ℕ) → Automaton
automaton q r g f c b = record { states = q; start = record { 0 = r }; accepting = g; first = f; count = c; before = b }

-- The first ones, and the empty one up to the table's size.
abbrev padded : {X : Type 0} → ℕ → List X → X → List X
padded zero xs d = []
padded (suc n) [] d = d ∷ padded n [] d
padded (suc n) (x ∷ xs) d = x ∷ padded n xs d

abbrev table : List NodeLine → List Automaton → List Edge → Table
table ns ms es =
    record {
      nodes = padded node_limit ns no_line;
      automata = padded automaton_limit ms no_automaton;
      edges = padded edge_limit es no_edge;
      used = record { nodes = length ns; automata = length ms; edges = length es };
    }

-- The tables of the sheets W, X, Y and Z.
abbrev pub W : Table
W = table (node letter_t 0 0 ∷ node letter_p 1 0 ∷ node letter_d 0 1 ∷ []) (automaton 1 0 1 0 1 2 ∷ []) (edge 0 1 0 0 ∷ [])

abbrev pub X : Table
X = table (node letter_t 0 0 ∷ node letter_f 0 0 ∷ node letter_b 0 1 ∷ []) (automaton 2 0 2 0 1 2 ∷ []) (edge 0 2 0 1 ∷ [])

abbrev pub Y : Table
Y = table (node letter_t 0 0 ∷ node letter_d 0 0 ∷ []) (automaton 2 0 2 0 1 1 ∷ []) (edge 0 1 0 1 ∷ [])

abbrev pub Z : Table
Z =
    table
    (node letter_p 0 0
    ∷ node letter_p 1 0
    ∷ node letter_p 2 0
    ∷ node letter_n 0 0
    ∷ node letter_t 0 0
    ∷ node letter_d 0 1
    ∷ node letter_n 2 0
    ∷ node letter_o 6 5
    ∷ node letter_b 1 7
    ∷ [])
    (automaton 1 0 1 0 1 5 ∷ automaton 1 0 1 1 1 8 ∷ [])
    (edge 0 2 3 0 ∷ edge 0 1 4 0 ∷ [])

-- One state with a true test edge to itself: nodes T, F, B on F and D on T. `accepting` is 1 or 0.
abbrev pub circle : ℕ → Table
circle accepting =
    table (node letter_t 0 0 ∷ node letter_f 0 0 ∷ node letter_b 0 1 ∷ node letter_d 0 0 ∷ []) (automaton 1 0 accepting 0 1 2 ∷ []) (edge 0 0 0 0 ∷ [])

-- A sheet with a spare automaton that looks back: `T` `P,1` `M,1,0` `G,0` `E,0,1,0,0` `M,1,0` `G,0` `E,0,2,0,0` `D,1,1` `D,0,1`. The rule, node 3, does not stand on node 2.
abbrev pub spare : Table
spare =
    table (node letter_t 0 0 ∷ node letter_p 1 0 ∷ node letter_d 1 1 ∷ node letter_d 0 1 ∷ []) (automaton 1 0 1 0 1 2 ∷ automaton 1 0 1 1 1 2 ∷ []) (edge 0 1 0 0 ∷ edge 0 2 0 0 ∷ [])

-- A rule that stands on a node through another: `P,0` `N,0` `N,1`.
abbrev pub chain : Table
chain = table (node letter_p 0 0 ∷ node letter_n 0 0 ∷ node letter_n 1 0 ∷ []) [] []

-- A rule that looks back by what a test edge of its automaton tests: `T` `M,1,0` `G,0` `E,0,2,0,0` `D,0,0` `M,1,0` `G,0` `E,0,0,1,0` `D,1,0`.
abbrev pub tested : Table
tested =
    table (node letter_t 0 0 ∷ node letter_d 0 0 ∷ node letter_d 1 0 ∷ []) (automaton 1 0 1 0 1 1 ∷ automaton 1 0 1 1 1 2 ∷ []) (edge 0 2 0 0 ∷ edge 0 0 1 0 ∷ [])

-- Jobs -------------------------------------------------------------------------------------------------------------------------

-- A buffer as it is lent: n places and two more, all 9.
abbrev lent : ℕ → List ℕ
lent n = replicate (n + 2) 9

-- A buffer with what is wanted in its first places; the two more are as lent.
abbrev filled : List ℕ → List ℕ
filled wanted = wanted ++ lent 0

-- A buffer with the verdict on node k in place of the two words of each of its first n entries; the others are as they are.
abbrev column : (k n : ℕ) → List ℕ → List ℕ
column k n ws = tabulate n (λ i. one (verdict_at ws i k)) ++ drop (2 * n) ws

-- The words of facts 0, 1, 2 and of none: `0`, `1`, `2`, `-`.
abbrev f0 : ℕ
f0 = 1

abbrev f1 : ℕ
f1 = 2

abbrev f2 : ℕ
f2 = 4

-- A job: node k's verdicts on a whole log; its walk at entry i, or the number by which that is refused; its verdicts on a part that is given a row, with bit 0 of its number in the row that the part gives.
pub data Job : Type 0 where
  verdicts : Table → (log : List ℕ) → (k : ℕ) → List ℕ → Job
  walk : Table → (log : List ℕ) → (k i : ℕ) → List ℕ → Job
  refused : Table → (log : List ℕ) → (k i : ℕ) → (number : ℕ) → Job
  part : Table → Row → (words : List ℕ) → (k : ℕ) → List ℕ → (bit0 : Bool) → Job

-- By the defined outcomes, where `given` answers question 31:
module _ (given : Table → Bool) where
  -- judging a whole log, judging a part and showing a walk of n edges, each with a lent buffer
  abbrev whole_of : Table → List ℕ → Whole
  whole_of t log = whole_outcome (given t) (sheet_of t) log (lent (2 * length log))

  abbrev pub part_of : Table → Row → List ℕ → Part
  part_of t row words = part_outcome (given t) Ahead (sheet_of t) row words (lent (2 * length words))

  abbrev shown_of : Table → List ℕ → (k i n : ℕ) → Shown
  shown_of t log k i n = walk_outcome (given t) (sheet_of t) log k i (lent n)

  -- a job is right: the number (0: accepted) and the whole buffer are as wanted
  abbrev pub JobRight : Job → Type 0
  JobRight (verdicts t log k wanted) = ((whole_of t log).number ≡ 0) × (column k (length log) (whole_of t log).buffer ≡ filled wanted)
  JobRight (walk t log k i wanted) = shown_of t log k i (length wanted) ≡ record { number = 0; count = length wanted; buffer = filled wanted }
  JobRight (refused t log k i number) = shown_of t log k i 1 ≡ record { number = number; count = 0; buffer = lent 1 }
  JobRight (part t row words k wanted bit0) =
      ((part_of t row words).number ≡ 0)
      × (column k (length words) (part_of t row words).buffer ≡ filled wanted)
      × (bits_of (part_of t row words).row k 0 ≡ bit0)

  -- all of them are
  abbrev pub AllRight : List Job → Type 0
  AllRight [] = Unit {0}
  AllRight (j ∷ js) = JobRight j × AllRight js

-- The plain row of W, from which its parts start.
abbrev start_row : Row
start_row = plain_row (rule_sheet (sheet_of W))

-- The row that a part of W gives.
abbrev row_after : Row → List ℕ → Row
row_after row words = (part_of (λ t. true) W row words).row

-- The starred jobs, in document 01's order.
abbrev pub jobs : List Job
jobs =
    verdicts W (f0 ∷ f1 ∷ f2 ∷ []) 2 (1 ∷ 1 ∷ 0 ∷ [])
    ∷ verdicts W (0 ∷ []) 2 (0 ∷ [])
    ∷ verdicts X (0 ∷ 0 ∷ 0 ∷ []) 2 (1 ∷ 0 ∷ 0 ∷ [])
    ∷ verdicts Y (0 ∷ 0 ∷ 0 ∷ []) 1 (1 ∷ 1 ∷ 0 ∷ [])
    ∷ verdicts Y (0 ∷ []) 1 (0 ∷ [])
    ∷ verdicts Z (f0 ∷ f1 ∷ f2 ∷ f0 ∷ f2 ∷ []) 5 (0 ∷ 1 ∷ 1 ∷ 0 ∷ 0 ∷ [])
    ∷ verdicts Z (f0 ∷ f1 ∷ f2 ∷ f0 ∷ f2 ∷ []) 8 (0 ∷ 0 ∷ 0 ∷ 0 ∷ 0 ∷ [])
    ∷ verdicts Z (f0 ∷ f1 ∷ f2 ∷ f0 ∷ []) 8 (1 ∷ 1 ∷ 1 ∷ 1 ∷ [])
    ∷ verdicts (circle 1) (0 ∷ []) 2 (0 ∷ [])
    ∷ verdicts (circle 0) (0 ∷ []) 3 (0 ∷ [])
    ∷ verdicts (circle 0) (0 ∷ []) 2 (1 ∷ [])
    ∷ walk Z (f0 ∷ f1 ∷ f2 ∷ f0 ∷ f2 ∷ []) 8 4 []
    ∷ walk Z (f0 ∷ f1 ∷ f2 ∷ f0 ∷ f2 ∷ []) 8 0 (1 ∷ 1 ∷ 1 ∷ 1 ∷ [])
    ∷ walk W (f0 ∷ f1 ∷ f2 ∷ []) 2 0 (0 ∷ [])
    ∷ refused W (f0 ∷ f1 ∷ f2 ∷ []) 2 2 39
    ∷ part W start_row (f2 ∷ []) 2 (0 ∷ []) false
    ∷ part W (row_after start_row (f2 ∷ [])) (f0 ∷ f1 ∷ []) 2 (1 ∷ 1 ∷ []) true
    ∷ part W start_row (f1 ∷ f2 ∷ []) 2 (1 ∷ 0 ∷ []) true
    ∷ part W (row_after start_row (f1 ∷ f2 ∷ [])) (f0 ∷ []) 2 (1 ∷ []) true
    ∷ []
