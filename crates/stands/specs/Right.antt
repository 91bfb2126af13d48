-- What document 02 asks of the ways that a rule looks. Only theorems cite it.
use Rattle.std.specs.Prelude.{◌≡◌, ◌↔◌, true, not, ℕ}
use Rattle.aldlf.specs.Sheet.{ahead, back, sheet_of}
use Rattle.aldlf.specs.Stands.{StandsOnEdge}
use Rattle.aldlf.specs.Parts.{looks_only}
use Rattle.aldlf.specs.declared.Table.{Table}
use Rattle.aldlf.specs.declared.Way.TheVariants.{Ahead, Back}
use Rattle.stands.specs.Answers.{RuleLooks}

-- The answer r of `rule_looks` is right for the table t.
pub record LooksRight (t : Table) (r : RuleLooks) : Type 0 where
  -- the rule looks ahead exactly where it stands on an edge that goes ahead, and back likewise
  pub ahead_iff : (r.ahead ≡ true) ↔ ((e : ℕ) × StandsOnEdge (sheet_of t) e × (((sheet_of t).edge e).dir ≡ ahead))
  pub back_iff : (r.back ≡ true) ↔ ((e : ℕ) × StandsOnEdge (sheet_of t) e × (((sheet_of t).edge e).dir ≡ back))
  -- question 34: a log may be cut looking one way exactly where the rule does not look the other way
  pub cut_ahead : looks_only Ahead (sheet_of t) ≡ not r.back
  pub cut_back : looks_only Back (sheet_of t) ≡ not r.ahead
