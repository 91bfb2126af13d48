-- A log's answer as one number, in either form: its count and its line are small enough, and the number is the definition's. So is a lookup's.
use Prim.Native.Nat.{ℕ, ◌<◌}
use mathlib.Core.Path.{◌≡◌, refl, ap, sym, subst, ◌∙◌}
use mathlib.Core.List.{List}
use native.Mathlib.Omega.{arith}
use lib.ListN.{length}
use Rattle.joblog.specs.declared.counters.Counter.{Counter}
use Rattle.joblog.specs.Log.{LogAnswer, Read, Refused, LogRead, answer_of, outcome_of, read_log, read_outcome}
use Rattle.joblog.specs.Counted as counted
use Rattle.joblog.specs.Counted.{CountedAnswer, read_counted, CountedOutcome, counted_answer_of, counted_outcome}
use Rattle.joblog.proofs.Answers.{Sound, sound_log, sound_counted}
use Rattle.joblog.proofs.Told.{told_read, told_refused}
use Rattle.exports.specs.Answers.{answer_code, Outcome, outcome, logged, log_outcome, counted_log_outcome}

-- Either form, read as x --------------------------------------------------------------------------------------------------------------

module _ (words after : List ℕ) (x : LogRead) (sound : Sound (length words) x) where
  read_count : (n : ℕ) → answer_of (Read n) after ≡ outcome_of x words → n < 65536
  read_count n is =
      let t = told_read words after x sound (Read n) is n refl in
      omega (arith, t.count, (subst (Sound (length words)) t.read sound).limit)

  refused_line : (q k : ℕ) → answer_of (Refused q k) after ≡ outcome_of x words → k < 65536
  refused_line q k is = omega (arith, (subst (Sound (length words)) (told_refused words after x sound (Refused q k) is q k refl).0 sound).line≤)

-- The first form ----------------------------------------------------------------------------------------------------------------------

module _ (text words after : List ℕ) (r : LogAnswer) (is : answer_of r after ≡ read_outcome text words) where
  by_case : (s : LogAnswer) → r ≡ s → answer_of s after ≡ read_outcome text words
  by_case s h = ap (λ (y : LogAnswer). answer_of y after) (sym h) ∙ is

  pub log_count : (n : ℕ) → r ≡ Read n → n < 65536
  log_count n h = read_count words after (read_log text (length words)) (sound_log text (length words)) n (by_case (Read n) h)

  pub log_line : (q k : ℕ) → r ≡ Refused q k → k < 65536
  log_line q k h = refused_line words after (read_log text (length words)) (sound_log text (length words)) q k (by_case (Refused q k) h)

  -- the whole outcome, by the answer's case
  logged_is : (s : LogAnswer) → r ≡ s → logged (answer_of s after) ≡ log_outcome text words
  unfolding log_outcome
  logged_is s h = ap logged (by_case s h)

  pub log_read : (n a : ℕ) → r ≡ Read n → a ≡ answer_code 0 0 n 0 → outcome a after ≡ log_outcome text words
  log_read n a h e = ap (λ (y : ℕ). outcome y after) e ∙ logged_is (Read n) h

  pub log_refused : (q k a : ℕ) → r ≡ Refused q k → a ≡ answer_code q k 0 0 → outcome a after ≡ log_outcome text words
  log_refused q k a h e = ap (λ (y : ℕ). outcome y after) e ∙ logged_is (Refused q k) h

-- The second form ---------------------------------------------------------------------------------------------------------------------

module _ (text words after : List ℕ) (r : CountedAnswer) (is : counted_answer_of r after ≡ counted_outcome text words) where
  by_counted : (s : CountedAnswer) → r ≡ s → counted_answer_of s after ≡ counted_outcome text words
  by_counted s h = ap (λ (y : CountedAnswer). counted_answer_of y after) (sym h) ∙ is

  pub counted_count : (n : ℕ) (c : Counter) → r ≡ counted.Read n c → n < 65536
  counted_count n c h = read_count words after (read_counted text (length words)) (sound_counted text (length words)) n (ap (λ (o : CountedOutcome). o.log) (by_counted (counted.Read n c) h))

  pub counted_line : (q k : ℕ) → r ≡ counted.Refused q k → k < 65536
  counted_line q k h = refused_line words after (read_counted text (length words)) (sound_counted text (length words)) q k (ap (λ (o : CountedOutcome). o.log) (by_counted (counted.Refused q k) h))

  -- the answer of an outcome
  abbrev coded : CountedOutcome → Outcome
  coded o = outcome (answer_code o.log.number o.log.line o.log.count o.first) o.log.buffer

  counted_is : (s : CountedAnswer) → r ≡ s → coded (counted_answer_of s after) ≡ counted_log_outcome text words
  unfolding counted_log_outcome
  counted_is s h = ap coded (by_counted s h)

  pub counted_read : (n : ℕ) (c : Counter) (a : ℕ) → r ≡ counted.Read n c → a ≡ answer_code 0 0 n c.0 → outcome a after ≡ counted_log_outcome text words
  counted_read n c a h e = ap (λ (y : ℕ). outcome y after) e ∙ counted_is (counted.Read n c) h

  pub counted_refused : (q k a : ℕ) → r ≡ counted.Refused q k → a ≡ answer_code q k 0 0 → outcome a after ≡ counted_log_outcome text words
  counted_refused q k a h e = ap (λ (y : ℕ). outcome y after) e ∙ counted_is (counted.Refused q k) h
