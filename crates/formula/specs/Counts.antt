-- How much of a sheet a formula takes, counted on the formula. Only theorems cite it: refusal 53 asks the table made.
use Rattle.std.specs.Prelude.{ℕ, suc, ◌+◌, ◌≤◌}
use Rattle.aldlf.specs.Constants.{node_limit, automaton_limit, state_limit, edge_limit}
use Rattle.formula.specs.Formula.{Formula, always, fact, neg, both, either, some, every, Path, step, seq, alt, many}
use Rattle.formula.specs.Numbering.{under, own}
use Rattle.formula.specs.Outcome.{widest}

abbrev mutual
  -- How many automata a formula takes: one for each path mark.
  pub automaton_count : Formula → ℕ
  automaton_count always = 0
  automaton_count (fact f) = 0
  automaton_count (neg a) = automaton_count a
  automaton_count (both a b) = automaton_count a + automaton_count b
  automaton_count (either a b) = automaton_count a + automaton_count b
  automaton_count (some p a) = suc (automaton_count_in p) + automaton_count a
  automaton_count (every p a) = suc (automaton_count_in p) + automaton_count a

  -- How many the formulas of a path take.
  pub automaton_count_in : Path → ℕ
  automaton_count_in (step d a) = automaton_count a
  automaton_count_in (seq p q) = automaton_count_in p + automaton_count_in q
  automaton_count_in (alt p q) = automaton_count_in p + automaton_count_in q
  automaton_count_in (many p) = automaton_count_in p

abbrev mutual
  -- How many edges a formula takes.
  pub edge_count : Formula → ℕ
  edge_count always = 0
  edge_count (fact f) = 0
  edge_count (neg a) = edge_count a
  edge_count (both a b) = edge_count a + edge_count b
  edge_count (either a b) = edge_count a + edge_count b
  edge_count (some p a) = edge_count_in p + own p + edge_count a
  edge_count (every p a) = edge_count_in p + own p + edge_count a

  -- How many the formulas of a path take.
  pub edge_count_in : Path → ℕ
  edge_count_in (step d a) = edge_count a
  edge_count_in (seq p q) = edge_count_in p + edge_count_in q
  edge_count_in (alt p q) = edge_count_in p + edge_count_in q
  edge_count_in (many p) = edge_count_in p

-- Within the sheet's limits by these counts: node 0 and the formula's own node count too.
pub record Within (a : Formula) : Type 0 where
  pub nodes : suc (suc (under a)) ≤ node_limit
  pub automata : automaton_count a ≤ automaton_limit
  pub edges : edge_count a ≤ edge_limit
  pub widths : widest a ≤ state_limit
