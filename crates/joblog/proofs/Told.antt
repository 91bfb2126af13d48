-- What an answer says to its caller: a log that was read has an entry and a refusal has a number, so Read and Refused are told apart by their
-- outcomes; each answer is the log as read, and the buffer is what reading leaves.
use Rattle.std.proofs.Common.{◌≡◌, ℕ, List, ◌++◌, length, drop, sym, refl, ap, ◌∙◌, arith}
use Rattle.joblog.specs.Log.{LogAnswer, Read, Refused, LogRead, entries, refused, stored_in, LogOutcome, answer_of, outcome_of}
use Rattle.joblog.proofs.Answers.{Sound}

-- the outcome of an answer's case is that of the log as read
pub read_told : (r : LogRead) (n : ℕ) (ws old after : List ℕ) → r ≡ entries ws → n ≡ length ws → after ≡ stored_in (entries ws) old → answer_of (Read n) after ≡ outcome_of r old
unfolding outcome_of
read_told r n ws old after e l s = rw (e, l, s)

pub refused_told : (r : LogRead) (q k : ℕ) (old : List ℕ) → r ≡ refused q k → answer_of (Refused q k) old ≡ outcome_of r old
unfolding outcome_of
refused_told r q k old e = rw e

-- a log that was read by an answer Read(n), and the buffer that it leaves
pub record ToldRead (r : LogRead) (old after : List ℕ) (n : ℕ) : Type 0 where
  pub words : List ℕ
  pub read : r ≡ entries words
  pub count : n ≡ length words
  pub stored : after ≡ words ++ drop (length words) old

-- and back: the log that was read, or what it was refused by
module _ (old after : List ℕ) where
  read_go : (n : ℕ) (r : LogRead) → Sound (length old) r → answer_of (Read n) after ≡ outcome_of r old → ToldRead r old after n
  unfolding outcome_of
  read_go n (entries ws) s is = record { words = ws; read = refl; count = ap (λ (o : LogOutcome). o.count) is; stored = ap (λ (o : LogOutcome). o.buffer) is }
  read_go n (refused q k) s is = absurd (omega (arith, s.asked, ap (λ (o : LogOutcome). o.number) is))

  refused_go : (q k : ℕ) (r : LogRead) → Sound (length old) r → answer_of (Refused q k) after ≡ outcome_of r old → (r ≡ refused q k) × (after ≡ old)
  unfolding outcome_of
  refused_go q k (entries ws) s is = absurd (omega (arith, s.some, ap (λ (o : LogOutcome). o.count) is))
  refused_go q k (refused p l) s is =
      let u : q ≡ p = ap (λ (o : LogOutcome). o.number) is in
      let v : k ≡ l = ap (λ (o : LogOutcome). o.line) is in
      (rw (u, v), ap (λ (o : LogOutcome). o.buffer) is)

  module _ (r : LogRead) (sound : Sound (length old) r) (a : LogAnswer) (is : answer_of a after ≡ outcome_of r old) where
    pub told_read : (n : ℕ) → a ≡ Read n → ToldRead r old after n
    told_read n h = read_go n r sound (ap (λ (x : LogAnswer). answer_of x after) (sym h) ∙ is)

    pub told_refused : (q k : ℕ) → a ≡ Refused q k → (r ≡ refused q k) × (after ≡ old)
    told_refused q k h = refused_go q k r sound (ap (λ (x : LogAnswer). answer_of x after) (sym h) ∙ is)
