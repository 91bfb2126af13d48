-- The facts of a line as a result: its question's number, and its word. And whether a counter is the one due.
use Rattle.std.proofs.Common.{◌≡◌, ℕ, ◌<◌, ◌≤◌, Ok, Err, Option, Some, None, unwrap_or, true, false, not, eqb, sym, refl, arith, eq-eqb, ne_eqb, eqb-true}
use mathlib.Core.Bool.{or-true}
use borrow.Author.Tests.{eqb-false, not-true, not-false}
use Rattle.std.specs.Result.{result_unwrap_or}
use Rattle.joblog.specs.declared.LogQuestion.{LogQuestion}
use Rattle.joblog.specs.declared.LogQuestion.TheVariants as question
use Rattle.joblog.specs.declared.counters.Counter.{Counter}
use Rattle.joblog.specs.Log.{Facts, NotNumbers, TooLarge, NotRising, Word, question_of, word_in}
use Rattle.joblog.specs.Results.{question_number, facts_result}
use Rattle.joblog.specs.Counted.{counter_limit, follows}
use Rattle.joblog.specs.Steps.{due_of}

-- no question has the number 0
pub question_some : (q : LogQuestion) → 1 ≤ question_number q
question_some question.TooLong = omega arith
question_some question.NoLastLf = omega arith
question_some question.TooManyLines = omega arith
question_some question.NotNumbers = omega arith
question_some question.TooLarge = omega arith
question_some question.NotRising = omega arith
question_some question.Room = omega arith
question_some question.NotCounter = omega arith
question_some question.NotNext = omega arith

-- a word has no question, and a question its own number
pub facts_ok : (f : Facts) (w : ℕ) → facts_result f ≡ Ok w → question_of f ≡ 0
facts_ok NotNumbers w e = cc
facts_ok TooLarge w e = cc
facts_ok NotRising w e = cc
facts_ok (Word v) w e = refl

pub facts_err : (f : Facts) (q : LogQuestion) → facts_result f ≡ Err q → question_of f ≡ question_number q
facts_err NotNumbers q e = let h : question.NotNumbers ≡ q = cc in rw (← h)
facts_err TooLarge q e = let h : question.TooLarge ≡ q = cc in rw (← h)
facts_err NotRising q e = let h : question.NotRising ≡ q = cc in rw (← h)
facts_err (Word v) q e = cc

pub facts_listed : (f : Facts) → (facts_result f ≡ Err question.NotNumbers → ⊥) → question_of f ≡ 24 → ⊥
facts_listed NotNumbers h e = h refl
facts_listed TooLarge h e = omega arith
facts_listed NotRising h e = omega arith
facts_listed (Word v) h e = omega arith

pub facts_word : (f : Facts) → result_unwrap_or (facts_result f) 0 ≡ word_in f
facts_word NotNumbers = refl
facts_word TooLarge = refl
facts_word NotRising = refl
facts_word (Word v) = refl

-- a counter follows where it is the one due, or any may come
pub follows_not : (due : Option Counter) (c : Counter) → (unwrap_or due c).0 < counter_limit → not (eqb (unwrap_or due c).0 c.0) ≡ true → follows (due_of due) c.0 ≡ false
follows_not None c h e = absurd (eqb-false c.0 c.0 (not-true (eqb c.0 c.0) e) refl)
follows_not (Some d) c h e =
    let n = eqb-false d.0 c.0 (not-true (eqb d.0 c.0) e) in
    rw (ne_eqb d.0 counter_limit (λ z. omega arith), ne_eqb c.0 d.0 (λ z. n (sym z)))

pub follows_next : (due : Option Counter) (c : Counter) → not (eqb (unwrap_or due c).0 c.0) ≡ false → follows (due_of due) c.0 ≡ true
follows_next None c e = refl
follows_next (Some d) c e =
    let z : c.0 ≡ d.0 = sym (eqb-true d.0 c.0 (not-false (eqb d.0 c.0) e)) in
    rw (eq-eqb c.0 d.0 z, or-true)
