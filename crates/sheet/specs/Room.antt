-- What only the code's own contracts need: a line's fields one at a time, those of an edge after the first, and where a line's numbers fit the table's places.
use Rattle.std.specs.Prelude.{ℕ, ◌+◌, ◌^◌, ◌≤◌, ◌<◌, min, ◌≡◌, List, [], ◌∷◌, cond, length, drop, ltb}
use Rattle.aldlf.specs.Constants.{node_limit, automaton_limit, state_limit, edge_limit, letter_m, letter_g, letter_e}
use Rattle.aldlf.specs.declared.Table.{Table}
use Rattle.aldlf.specs.declared.Used.{Used}
use Rattle.text.specs.Text.{fields}
use Rattle.sheet.specs.declared.line.Line.{Line}
use Rattle.sheet.specs.declared.line.Field.{Field}
use Rattle.sheet.specs.Answers.{Stop}
use Rattle.sheet.specs.Ranges.{a_node, a_state, a_direction, is_of_kind, first_wrong}
use Rattle.sheet.specs.Questions.{last, number_at}

-- The fields of a line after the comma at a place; none at the line's end.
abbrev pub fields_after : List ℕ → ℕ → List (List ℕ)
fields_after l at = cond (ltb at (length l)) (fields (drop (at + 1) l)) []

-- The first of them, whether there is one, and where it ends.
pub record FieldAfter (l : List ℕ) (at : ℕ) (f : Field) : Type 0 where
  pub there : f.there ≡ min 1 (length (fields_after l at))
  pub value : f.value ≡ number_at (fields_after l at) 0
  pub rest : fields_after l f.end ≡ drop 1 (fields_after l at)

-- The fields of an E line after the first state, of q states.
abbrev pub after_state : Used → ℕ → Line → Stop
after_state u q l = first_wrong (is_of_kind u q) 3 (a_direction ∷ a_node ∷ a_state ∷ []) (l.b ∷ l.c ∷ l.d ∷ [])

-- The counts of a table are within the limits, and there is a node.
pub record CountsFit (u : Used) : Type 0 where
  pub some : 1 ≤ u.nodes
  pub nodes≤ : u.nodes ≤ node_limit
  pub automata≤ : u.automata ≤ automaton_limit
  pub edges≤ : u.edges ≤ edge_limit

-- For a node line.
pub record NodeRoom (t : Table) (l : Line) : Type 0 where
  pub room : t.used.nodes < node_limit
  pub a< : l.a < 256
  pub b< : l.b < 256

-- For an M line.
pub record AutomatonRoom (t : Table) (l : Line) : Type 0 where
  pub room : t.used.automata < automaton_limit
  pub a< : l.a < 256
  pub b< : l.b < 256

-- For a G line.
pub record AcceptingRoom (t : Table) (l : Line) : Type 0 where
  pub some : 1 ≤ t.used.automata
  pub automata≤ : t.used.automata ≤ automaton_limit
  pub a< : l.a < state_limit
  pub sum< : (last t).accepting + 2 ^ l.a < 2 ^ state_limit

-- For an E line.
pub record EdgeRoom (t : Table) (l : Line) : Type 0 where
  pub some : 1 ≤ t.used.automata
  pub automata≤ : t.used.automata ≤ automaton_limit
  pub room : t.used.edges < edge_limit
  pub own≤ : (last t).count ≤ t.used.edges
  pub a< : l.a < 256
  pub b< : l.b < 256
  pub c< : l.c < 256
  pub d< : l.d < 256

-- For any line.
pub record LineRoom (t : Table) (l : Line) : Type 0 where
  pub automaton : l.letter ≡ letter_m → AutomatonRoom t l
  pub accepting : l.letter ≡ letter_g → AcceptingRoom t l
  pub edge : l.letter ≡ letter_e → EdgeRoom t l
  pub node : (l.letter ≡ letter_m → ⊥) → (l.letter ≡ letter_g → ⊥) → (l.letter ≡ letter_e → ⊥) → NodeRoom t l
