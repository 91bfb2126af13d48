-- The numbers of document 02 for the questions that a formula's text gets a no from, and the places that they name.
use Rattle.std.specs.Prelude.{ℕ}
use Rattle.parsing.specs.declared.refusal.FormulaRefusal.{FormulaRefusal}
use Rattle.parsing.specs.declared.refusal.FormulaRefusal.TheVariants.{TooLong, NoFormula, TooDeep, TooLarge, PathInStep}

-- The number of each refusal.
abbrev pub refusal_number : FormulaRefusal → ℕ
refusal_number TooLong = 50
refusal_number (NoFormula place) = 51
refusal_number TooDeep = 52
refusal_number TooLarge = 53
refusal_number PathInStep = 54

-- Its place: 0 where it names none.
abbrev pub refusal_place : FormulaRefusal → ℕ
refusal_place TooLong = 0
refusal_place (NoFormula place) = place
refusal_place TooDeep = 0
refusal_place TooLarge = 0
refusal_place PathInStep = 0
