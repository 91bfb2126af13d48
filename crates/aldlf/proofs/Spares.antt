-- Rules that do not stand on every node of their sheet, worked by hand and computed by the definitions alone: the flags, the ways, and what a part and the whole log get.
use Prim.Native.Nat.{ℕ}
use mathlib.Core.Path.{◌≡◌, refl}
use mathlib.Core.Bool.{true, false}
use mathlib.Core.List.{List, [], ◌∷◌}
use lib.ListN.{take}
use Rattle.aldlf.specs.Sheet.{ahead, back, sheet_of}
use Rattle.aldlf.specs.Stands.{stands_of, stands_on_dir, rule_sheet}
use Rattle.aldlf.specs.Verdict.{judge, row_of}
use Rattle.aldlf.specs.Outcomes.{plain_row, part_verdicts, whole_number, whole_outcome, part_number, part_outcome}
use Rattle.aldlf.specs.Jobs.{spare, chain, tested}
use Rattle.aldlf.specs.declared.Way.TheVariants.{Ahead, Back}

-- The flags of the first nodes ----------------------------------------------------------------------------------------------------

pub chain_stands : take 4 (stands_of (sheet_of chain)) ≡ true ∷ true ∷ true ∷ false ∷ []
unfolding sheet_of stands_of
chain_stands = refl

pub tested_stands : take 4 (stands_of (sheet_of tested)) ≡ true ∷ true ∷ true ∷ false ∷ []
unfolding sheet_of stands_of
tested_stands = refl

pub spare_stands : take 5 (stands_of (sheet_of spare)) ≡ true ∷ true ∷ false ∷ true ∷ false ∷ []
unfolding sheet_of stands_of
spare_stands = refl

-- The ways ------------------------------------------------------------------------------------------------------------------------

pub tested_looks : (stands_on_dir (sheet_of tested) ahead ≡ false) × (stands_on_dir (sheet_of tested) back ≡ true)
unfolding sheet_of stands_of stands_on_dir
tested_looks = (refl, refl)

pub spare_looks : (stands_on_dir (sheet_of spare) ahead ≡ true) × (stands_on_dir (sheet_of spare) back ≡ false)
unfolding sheet_of stands_of stands_on_dir
spare_looks = (refl, refl)

-- A spare automaton that looks back does not stop the log from being cut ahead; its node's bits are 0 in parts and judged on the whole log
abbrev log : List ℕ
log = 1 ∷ 2 ∷ 4 ∷ []

pub spare_ahead : (part_outcome true Ahead (sheet_of spare) (plain_row (rule_sheet (sheet_of spare))) log (3 ∷ 3 ∷ 3 ∷ 3 ∷ 3 ∷ 3 ∷ 7 ∷ [])).buffer ≡ 9 ∷ 0 ∷ 11 ∷ 0 ∷ 1 ∷ 0 ∷ 7 ∷ []
unfolding sheet_of stands_of stands_on_dir rule_sheet judge row_of part_verdicts part_number part_outcome
spare_ahead = refl

pub spare-row : take 5 (part_outcome true Ahead (sheet_of spare) (plain_row (rule_sheet (sheet_of spare))) (2 ∷ 4 ∷ []) (0 ∷ 0 ∷ 0 ∷ 0 ∷ [])).row.bits ≡ 0 ∷ 0 ∷ 0 ∷ 1 ∷ 0 ∷ []
unfolding sheet_of stands_of stands_on_dir rule_sheet judge row_of part_verdicts part_number part_outcome
spare-row = refl

pub spare_back : (part_outcome true Back (sheet_of spare) (plain_row (rule_sheet (sheet_of spare))) log (0 ∷ 0 ∷ 0 ∷ [])).number ≡ 34
unfolding sheet_of stands_of stands_on_dir rule_sheet part_number part_outcome
spare_back = refl

pub spare_whole : (whole_outcome true (sheet_of spare) log (0 ∷ 0 ∷ 0 ∷ 0 ∷ 0 ∷ 0 ∷ [])).buffer ≡ 9 ∷ 0 ∷ 15 ∷ 0 ∷ 5 ∷ 0 ∷ []
unfolding sheet_of stands_of rule_sheet judge part_verdicts whole_number whole_outcome
spare_whole = refl
