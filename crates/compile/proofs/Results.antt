-- What the call's result stands for has number 0 exactly where a table was given: a refusal's number is never 0.
use mathlib.Core.Path.{◌≡◌}
use native.Mathlib.Omega.{arith}
use Rattle.parsing.specs.declared.refusal.FormulaRefusal.{FormulaRefusal}
use Rattle.parsing.specs.declared.refusal.FormulaRefusal.TheVariants.{TooLong, NoFormula, TooDeep, TooLarge, PathInStep}
use Rattle.parsing.specs.Refusals.{refusal_number}

pub is_refusal : (r : FormulaRefusal) → ¬ (refusal_number r ≡ 0)
is_refusal TooLong e = absurd (omega arith)
is_refusal (NoFormula place) e = absurd (omega arith)
is_refusal TooDeep e = absurd (omega arith)
is_refusal TooLarge e = absurd (omega arith)
is_refusal PathInStep e = absurd (omega arith)
