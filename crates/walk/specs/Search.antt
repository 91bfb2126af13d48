-- Only for the proofs of the code: what a search needs, and what it answers.
use Rattle.std.specs.Prelude.{ℕ, ◌+◌, ◌≤◌, ◌<◌, ◌≡◌, ◌⊎◌, Bool, true, ◌||◌, List, eqb, length, get_or, Result, Ok, Err}
use Rattle.aldlf.specs.Constants.{node_limit, automaton_limit, state_limit, edge_limit, entry_limit, letter_d, letter_b}
use Rattle.aldlf.specs.Sheet.{no_edge, no_automaton, sheet_of}
use Rattle.aldlf.specs.Outcomes.{log_fits, part_verdicts}
use Rattle.aldlf.specs.Verdict.{plain}
use Rattle.aldlf.specs.declared.Automaton.{Automaton}
use Rattle.aldlf.specs.declared.Entry.{Entry}
use Rattle.aldlf.specs.Refusals.{refusal_number}
use Rattle.aldlf.specs.declared.Refusal.{Refusal}
use Rattle.aldlf.specs.declared.NodeLine.{NodeLine}
use Rattle.aldlf.specs.declared.Table.{Table}
use Rattle.sheet.specs.Facts.{Lent}
use Rattle.graph.specs.Graph.{Graph, far, at}
use Rattle.graph.specs.Arcs.{Chained}
use Rattle.graph.specs.Configurations.{graph_of, start_of, EdgeFits, Ready}
use Rattle.shortest.specs.Descent.{Distances, Written}
use Rattle.shortest.specs.Goals.{GoalAt}
use Rattle.shortest.specs.declared.Goal.{Goal}
use Rattle.shortest.specs.declared.Query.{Query}

-- What the search answers from the distances D, by the answer's case: a walk along D in the first places; no walk; or more edges than places.
abbrev pub Answered : Graph → List ℕ → ℕ → (before after : List ℕ) → Result ℕ Refusal → Type 0
Answered G D c before after (Ok n) = (at D c < far) × (at D c ≡ n) × (n ≤ length before) × Written G D c before after n
Answered G D c before after (Err q) =
    (after ≡ before) × (((refusal_number q ≡ 39) × (at D c ≡ far)) ⊎ ((refusal_number q ≡ 40) × (at D c < far) × (length before < at D c)))

-- The answer for a graph, its goals and a start, whatever list holds the distances.
pub record Found (G : Graph) (goal : ℕ → Type 0) (c : ℕ) (before after : List ℕ) (r : Result ℕ Refusal) : Type 0 where
  pub distances : List ℕ
  pub right : Distances G goal distances c
  pub answered : Answered G distances c before after r

-- What it is to search a table for the walk of a D or B line: every automaton that it names is in order.
pub record LineReady (table : Table) (line : NodeLine) (n i : ℕ) : Type 0 where
  pub automaton_fits : line.a < automaton_limit
  pub node_fits : line.b < node_limit
  pub some_state : 0 < (get_or table.automata line.a no_automaton).states
  pub few_states : (get_or table.automata line.a no_automaton).states ≤ state_limit
  pub start_fits : (get_or table.automata line.a no_automaton).start.0 < (get_or table.automata line.a no_automaton).states
  pub few_edges : (get_or table.automata line.a no_automaton).first + (get_or table.automata line.a no_automaton).count ≤ edge_limit
  pub each : (e : ℕ) → (get_or table.automata line.a no_automaton).first ≤ e
      → e < (get_or table.automata line.a no_automaton).first + (get_or table.automata line.a no_automaton).count
      → EdgeFits (get_or table.automata line.a no_automaton).states (get_or table.edges e no_edge)
  pub few_words : n ≤ entry_limit
  pub entry_fits : i < n

-- Whether a line is a D or a B.
abbrev pub modal_of : NodeLine → Bool
modal_of line = eqb line.kind letter_d || eqb line.kind letter_b

-- The goal of a D or B line.
abbrev pub goal_of : NodeLine → Goal
goal_of line = record { node = record { 0 = line.b }; want = eqb line.kind letter_d }

-- The walk that a line asks for.
abbrev pub query_of : Automaton → NodeLine → Entry → Query
query_of q line entry = record { automaton = q; goal = goal_of line; entry = entry }

-- The answer for a line, in the graph of its automaton with chained edges.
pub record LineFound (table : Table) (line : NodeLine) (words : List ℕ) (i : ℕ) (before after : List ℕ) (r : Result ℕ Refusal) : Type 0 where
  pub arcs : List ℕ
  pub chained : Chained table.edges (get_or table.automata line.a no_automaton).first
      ((get_or table.automata line.a no_automaton).first + (get_or table.automata line.a no_automaton).count) arcs
  pub ready : Ready arcs (get_or table.automata line.a no_automaton) words
  pub found : Found (graph_of arcs (get_or table.automata line.a no_automaton) words) (GoalAt words (get_or table.automata line.a no_automaton) (goal_of line))
      (start_of (get_or table.automata line.a no_automaton) i) before after r

-- The entries' numbers are the verdicts on a log that question 32 accepts.
pub record JudgedLog (table : Table) (words log : List ℕ) : Type 0 where
  pub fits : log_fits log ≡ true
  pub words_are : words ≡ part_verdicts (sheet_of table) (plain (sheet_of table)) log

-- The same by a table that some sheet gives, lent as numbers.
pub record LentLog (table : Table) (numbers words log : List ℕ) : Type 0 where
  pub lent : Lent table numbers
  pub judged : JudgedLog table words log
