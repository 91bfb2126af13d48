-- The table of the sheet that parts judge: nothing stands at the nodes that the rule does not stand on.
use Rattle.std.specs.Prelude.{ℕ, ◌+◌, ◌≤◌, ◌<◌, ◌≡◌, Bool, false, cond, List, [], ◌∷◌, get_or, length}
use Rattle.aldlf.specs.Sheet.{no_line, sheet_of}
use Rattle.aldlf.specs.Stands.{stands_of}
use Rattle.aldlf.specs.declared.NodeLine.{NodeLine}
use Rattle.aldlf.specs.declared.Table.{Table}
use Rattle.packing.specs.Numbers.{lines_place, places}

-- A line stays where its flag is set; past the flags none is.
abbrev pub kept : List Bool → List NodeLine → List NodeLine
kept p [] = []
kept [] (x ∷ xs) = no_line ∷ kept [] xs
kept (b ∷ p) (x ∷ xs) = cond b x no_line ∷ kept p xs

-- The table with the lines of the nodes whose flags are set.
abbrev pub trimmed : Table → List Bool → Table
trimmed t p = record { nodes = kept p t.nodes; automata = t.automata; edges = t.edges; used = t.used }

-- The table with the lines of the nodes that its rule stands on.
abbrev pub rule_table : Table → Table
rule_table t = trimmed t (stands_of (sheet_of t))

-- On the way, in the numbers: of the first k nodes the lines that are not kept are 0, and nothing else has changed.
pub record Trimming (p : List Bool) (before after : List ℕ) (k : ℕ) : Type 0 where
  pub size : length after ≡ places
  pub done : (j : ℕ) → j < k → get_or after (lines_place + j) 0 ≡ cond (get_or p j false) (get_or before (lines_place + j) 0) 0
  pub low : (i : ℕ) → i < lines_place → get_or after i 0 ≡ get_or before i 0
  pub high : (i : ℕ) → lines_place + k ≤ i → get_or after i 0 ≡ get_or before i 0
