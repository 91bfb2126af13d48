-- What reading a formula's text comes to: the table, or the first of refusals 50 to 54 with its place.
use Rattle.std.specs.Prelude.{ℕ, max, Bool, true, false, cond, ◌&&◌, List, leb, length}
use Rattle.aldlf.specs.Constants.{node_limit, automaton_limit, state_limit, edge_limit}
use Rattle.aldlf.specs.Sheet.{Dir, ahead, back, stay}
use Rattle.aldlf.specs.declared.Table.{Table}
use Rattle.formula.specs.Limits.{formula_limit}
use Rattle.formula.specs.Formula.{Formula, always, fact, neg, both, either, some, every, Path, step, seq, alt, many}
use Rattle.formula.specs.Parse.{Got, ok, bad, deep, parsed}
use Rattle.formula.specs.Numbering.{states, table_of}

-- Whether a formula has no path mark in it.
abbrev pub plain : Formula → Bool
plain always = true
plain (fact f) = true
plain (neg a) = plain a
plain (both a b) = plain a && plain b
plain (either a b) = plain a && plain b
plain (some p a) = false
plain (every p a) = false

-- Whether a step may have a formula, of which b says whether it is plain: a test may have any.
abbrev pub step_takes : Dir → Bool → Bool
step_takes stay b = true
step_takes ahead b = b
step_takes back b = b

abbrev mutual
  -- Refusal 54 does not apply: no path mark stands within an ahead or back step.
  pub steps_plain : Formula → Bool
  steps_plain always = true
  steps_plain (fact f) = true
  steps_plain (neg a) = steps_plain a
  steps_plain (both a b) = steps_plain a && steps_plain b
  steps_plain (either a b) = steps_plain a && steps_plain b
  steps_plain (some p a) = steps_plain_in p && steps_plain a
  steps_plain (every p a) = steps_plain_in p && steps_plain a

  -- The same of a path.
  pub steps_plain_in : Path → Bool
  steps_plain_in (step d a) = step_takes d (plain a) && steps_plain a
  steps_plain_in (seq p q) = steps_plain_in p && steps_plain_in q
  steps_plain_in (alt p q) = steps_plain_in p && steps_plain_in q
  steps_plain_in (many p) = steps_plain_in p

abbrev mutual
  -- The most states that an automaton of a formula has.
  pub widest : Formula → ℕ
  widest always = 0
  widest (fact f) = 0
  widest (neg a) = widest a
  widest (both a b) = max (widest a) (widest b)
  widest (either a b) = max (widest a) (widest b)
  widest (some p a) = max (max (states p) (widest_in p)) (widest a)
  widest (every p a) = max (max (states p) (widest_in p)) (widest a)

  -- The most that one of the formulas of a path has.
  pub widest_in : Path → ℕ
  widest_in (step d a) = widest a
  widest_in (seq p q) = max (widest_in p) (widest_in q)
  widest_in (alt p q) = max (widest_in p) (widest_in q)
  widest_in (many p) = widest_in p

-- Refusal 53 does not apply: the sheet made of the formula is within the limits.
unfoldable pub fits_sheet : Formula → Bool
fits_sheet a =
    let u = (table_of a).used in
    leb u.nodes node_limit && leb u.automata automaton_limit && leb u.edges edge_limit && leb (widest a) state_limit

-- An answer: a table, or a refusal's number and a place.
pub data Read : Type 0 where
  accepted : Table → Read
  refused : (number place : ℕ) → Read

-- What is asked of a text that was read: 51 and 52, then 54, then 53.
abbrev pub asked : Got Formula → Read
asked (ok a at) = cond (steps_plain a) (cond (fits_sheet a) (accepted (table_of a)) (refused 53 0)) (refused 54 0)
asked (bad at) = refused 51 at
asked (deep at) = refused 52 0

-- THE OUTCOME: at most 4,096 bytes, else 50; then the text is read and asked.
unfoldable pub read_formula : List ℕ → Read
read_formula text = let rest = asked (parsed text) in cond (leb (length text) formula_limit) rest (refused 50 0)
