-- The answer to a log with counters is that of the reading by form, with the first counter where it was read.
use Rattle.std.proofs.Common.{◌≡◌, ℕ, ◌<◌, true, List, length, sym, ap, ◌∙◌}
use Rattle.joblog.specs.Log as plain
use Rattle.joblog.specs.declared.counters.Counter.{Counter}
use Rattle.joblog.specs.Log.{LogAnswer, LogRead, answer_of, outcome_of}
use Rattle.joblog.specs.Counted.{Read, Refused, counter_limit, read_counted, first_counter, counted_answer_of, first_of, counted_outcome}
use Rattle.joblog.specs.Steps.{read_by}
use Rattle.joblog.proofs.BothForms.{read-counted}
use Rattle.joblog.proofs.Answers.{sound_counted}
use Rattle.joblog.proofs.CountedLog.{first_small}
use Rattle.joblog.proofs.Told.{ToldRead, told_read, told_refused}

module _ (text old after : List ℕ) (a : LogAnswer) (is : answer_of a after ≡ outcome_of (read_by true text (length old)) old) where
  abbrev r : LogRead
  r = read_counted text (length old)

  here : answer_of a after ≡ outcome_of r old
  here = is ∙ ap (λ (x : LogRead). outcome_of x old) (read-counted text (length old))

  told : (n : ℕ) → a ≡ plain.Read n → ToldRead r old after n
  told n h = told_read old after r (sound_counted text (length old)) a here n h

  pub counted_small : (n : ℕ) → a ≡ plain.Read n → first_counter text < counter_limit
  counted_small n h = let t = told n h in first_small text (length old) t.words t.read

  pub counted_read : (n : ℕ) (c : Counter) → a ≡ plain.Read n → c.0 ≡ first_counter text → counted_answer_of (Read n c) after ≡ counted_outcome text old
  counted_read n c h f =
      let l : answer_of (plain.Read n) after ≡ outcome_of r old = ap (λ (x : LogAnswer). answer_of x after) (sym h) ∙ here in
      let g : c.0 ≡ first_of text r = f ∙ ap (first_of text) (sym (told n h).read) in
      rw (l, g)

  pub counted_refused : (q k : ℕ) → a ≡ plain.Refused q k → counted_answer_of (Refused q k) after ≡ counted_outcome text old
  counted_refused q k h =
      let l : answer_of (plain.Refused q k) after ≡ outcome_of r old = ap (λ (x : LogAnswer). answer_of x after) (sym h) ∙ here in
      let g : 0 ≡ first_of text r = ap (first_of text) (sym (told_refused old after r (sound_counted text (length old)) a here q k h).0) in
      rw (l, g)
