-- Only for the proofs of the code: the configurations where a walk may end, and what a search is asked.
use Rattle.std.specs.Prelude.{ℕ, ◌/◌, ◌%◌, ◌<◌, ◌≡◌, Bool, true, ◌&&◌, List}
use Rattle.aldlf.specs.Constants.{node_limit}
use Rattle.aldlf.specs.Sheet.{bit}
use Rattle.aldlf.specs.Verdict.{facing}
use Rattle.aldlf.specs.declared.Automaton.{Automaton}
use Rattle.graph.specs.Graph.{at}
use Rattle.graph.specs.Configurations.{pick_nat}
use Rattle.shortest.specs.declared.Goal.{Goal}
use Rattle.shortest.specs.declared.Query.{Query}

-- The state of c accepts, and the goal's node is as wanted at its entry.
unfoldable pub goal_at : List ℕ → Automaton → Goal → ℕ → Bool
goal_at words q goal c = bit q.accepting (c % q.states) && facing goal.want (bit (at words (c / q.states)) goal.node.0)

-- The configuration c is a goal.
abbrev pub GoalAt : List ℕ → Automaton → Goal → ℕ → Type 0
GoalAt words q goal c = goal_at words q goal c ≡ true

-- The states that are goals at an entry with this number: the accepting ones where the goal's node is as wanted, else none.
abbrev pub goals_in : (word accepting : ℕ) → Goal → ℕ
goals_in word accepting goal = pick_nat (facing goal.want (bit word goal.node.0)) accepting 0

-- What a search needs besides: its start is a configuration, its goal a node.
pub record Asked (query : Query) (n : ℕ) : Type 0 where
  pub start_fits : query.automaton.start.0 < query.automaton.states
  pub entry_fits : query.entry.0 < n
  pub node_fits : query.goal.node.0 < node_limit
