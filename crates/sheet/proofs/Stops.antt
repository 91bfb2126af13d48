-- Checks one after the other: where one stops the reading its stop is the whole's, and where one does not the later ones decide.
use Prim.Native.Nat.{ℕ}
use mathlib.Core.Path.{◌≡◌, refl, ap, sym, subst, ◌∙◌}
use mathlib.Core.Bool.{Bool, true, false, cond}
use native.Mathlib.Omega.{arith}
use lib.Dec.{eqb}
use borrow.Author.Tests.{ne_eqb}
use Rattle.sheet.specs.declared.SheetQuestion.{SheetQuestion}
use Rattle.sheet.specs.declared.SheetQuestion.TheVariants as question
use Rattle.sheet.specs.declared.ranges.Stop as found
use Rattle.sheet.specs.Answers.{Stop}
use Rattle.sheet.specs.Ranges.{stop_at, going_on}
use Rattle.sheet.specs.Outcomes.{question_number, stop_by}

-- no question has number 0
pub some_number : (q : SheetQuestion) → question_number q ≡ 0 → ⊥
some_number question.Bytes e = omega (arith, e)
some_number question.LastByte e = omega (arith, e)
some_number question.Known e = omega (arith, e)
some_number question.Numbers e = omega (arith, e)
some_number question.Room e = omega (arith, e)
some_number question.Inside e = omega (arith, e)
some_number question.Fact e = omega (arith, e)
some_number question.Node e = omega (arith, e)
some_number question.Automaton e = omega (arith, e)
some_number question.State e = omega (arith, e)
some_number question.Direction e = omega (arith, e)
some_number question.Count e = omega (arith, e)
some_number question.Accepting e = omega (arith, e)
some_number question.Plain e = omega (arith, e)
some_number question.Whole e = omega (arith, e)
some_number question.LastLine e = omega (arith, e)

-- a check that stops
pub stops : {b c : Bool} (e : found.Stop) (later s : Stop) → b ≡ c → stop_by e ≡ cond b going_on s → stop_by e ≡ cond c later s
stops {b} {c} e later s k h = subst (λ (b : Bool). stop_by e ≡ cond b later s) k (go b h)
  where
    go : (b : Bool) → stop_by e ≡ cond b going_on s → stop_by e ≡ cond b later s
    go true h = absurd (some_number e.question (ap (λ (s : Stop). s.number) h))
    go false h = h

-- a check that does not, of a question with a number
pub said_yes : {b c : Bool} (n f : ℕ) → (n ≡ 0 → ⊥) → b ≡ c → going_on ≡ cond b going_on (stop_at n f) → c ≡ true
said_yes {b} {c} n f z k h = sym k ∙ go b h
  where
    go : (b : Bool) → going_on ≡ cond b going_on (stop_at n f) → b ≡ true
    go true h = refl
    go false h = absurd (z (ap (λ (s : Stop). s.number) (sym h)))

pub passes : {b c : Bool} (later : Stop) (n f : ℕ) → (n ≡ 0 → ⊥) → b ≡ c → going_on ≡ cond b going_on (stop_at n f) → later ≡ cond c later (stop_at n f)
passes {b} {c} later n f z k h = ap (λ (b : Bool). cond b later (stop_at n f)) (sym (said_yes n f z k h))

-- the fields of a line, which stop the reading or do not
pub fields_stop : (e : found.Stop) (later s : Stop) → stop_by e ≡ s → stop_by e ≡ cond (eqb s.number 0) later s
fields_stop e later s h = h ∙ ap (λ (b : Bool). cond b later s) (sym (ne_eqb s.number 0 (λ z. some_number e.question (ap (λ (s : Stop). s.number) h ∙ z))))

pub fields_pass : (later s : Stop) → going_on ≡ s → later ≡ cond (eqb s.number 0) later s
fields_pass later s h = ap (λ (s : Stop). cond (eqb s.number 0) later s) h
