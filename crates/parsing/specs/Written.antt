-- What writing a text's instructions comes to: the instructions, or the first of refusals 50, 51 and 52, 54.
use Rattle.std.specs.Prelude.{ℕ, Result, Ok, Err, cond, List, eqb, leb, length, take}
use Rattle.formula.specs.Limits.{formula_limit}
use Rattle.formula.specs.Formula.{Formula}
use Rattle.formula.specs.Parse.{Got, ok, bad, deep, parsed}
use Rattle.formula.specs.Outcome.{steps_plain}
use Rattle.formula.specs.Code.{code}
use Rattle.parsing.specs.declared.refusal.FormulaRefusal.{FormulaRefusal}
use Rattle.parsing.specs.Refusals.{refusal_number, refusal_place}
use Rattle.parsing.specs.Work.{Work}

-- How many instructions a text has at most: two for each byte.
abbrev pub code_limit : ℕ
code_limit = 8192

-- An answer: instructions, or a refusal's number and its place.
pub data Coded : Type 0 where
  coded : List ℕ → Coded
  refused : (number place : ℕ) → Coded

-- What the code's answer stands for, by the lent bytes.
unfoldable pub coded_of : Result ℕ FormulaRefusal → List ℕ → Coded
coded_of (Ok n) out = coded (take n out)
coded_of (Err r) out = refused (refusal_number r) (refusal_place r)

-- 51 and 52, then 54, of what was read.
abbrev pub coded_by : Got Formula → Coded
coded_by (ok a at) = cond (steps_plain a) (coded (code a)) (refused 54 0)
coded_by (bad at) = refused 51 at
coded_by (deep at) = refused 52 0

-- THE OUTCOME: at most 4,096 bytes, else 50; then the text is read and asked.
unfoldable pub text_code : List ℕ → Coded
text_code text = let rest = coded_by (parsed text) in cond (leb (length text) formula_limit) rest (refused 50 0)

-- The same of what the parser gives for a text of so many bytes.
unfoldable pub finished : ℕ → Got Work → Coded
finished n (ok w at) = cond (eqb at n) (cond w.stray (refused 54 0) (coded w.bytes)) (refused 51 at)
finished n (bad at) = refused 51 at
finished n (deep at) = refused 52 0
