-- What `rule_looks` answers: which ways the rule of a table looks.
use Rattle.std.specs.Prelude.{ℕ, Bool, true, false, Result, Ok, Err}
use Rattle.aldlf.specs.Refusals.{refusal_number}
use Rattle.aldlf.specs.Sheet.{ahead, back, sheet_of}
use Rattle.aldlf.specs.Stands.{stands_on_dir}
use Rattle.aldlf.specs.declared.Refusal.{Refusal}
use Rattle.aldlf.specs.declared.Table.{Table}
use Rattle.sheet.specs.Given.{well_formed}
use Rattle.stands.specs.declared.Looks.{Looks}

-- Which ways a rule looks, or a refusal: number 0 with the ways, or the refusal's number with no to both.
pub record RuleLooks : Type 0 where
  pub number : ℕ
  pub ahead : Bool
  pub back : Bool

-- The answer that a call gives as the ways or a refusal.
abbrev pub looks_answer : Result Looks Refusal → RuleLooks
looks_answer (Ok l) = record { number = 0; ahead = l.ahead; back = l.back }
looks_answer (Err r) = record { number = refusal_number r; ahead = false; back = false }

-- Whether the rule of a table that some sheet gives stands on an ahead edge, and whether on a back edge; any other table is refused by 31, with no to both.
unfoldable pub rule_looks_of : Table → RuleLooks
rule_looks_of t =
    elim (well_formed t) [
      | true ↦ record { number = 0; ahead = stands_on_dir (sheet_of t) ahead; back = stands_on_dir (sheet_of t) back }
      | false ↦ record { number = 31; ahead = false; back = false }
    ]
