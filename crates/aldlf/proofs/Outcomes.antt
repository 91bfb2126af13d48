-- JUDGING A WHOLE LOG, of the defined outcome: what it is accepted and refused, and DEMAND 2: its bits are Definition 4's verdicts, its count is that of the rule's bits.
use Prim.Native.Nat.{ℕ, zero, suc, ◌+◌, ◌*◌, ◌/◌, ◌%◌, ◌-◌, ◌≤◌, ◌<◌}
use native.Mathlib.Omega.{arith}
use mathlib.Core.Path.{◌≡◌, refl, sym, ap, ap₂, ◌∙◌}
use mathlib.Core.Logic.Iff
use mathlib.Core.Bool.{Bool, true, false}
use mathlib.Core.List.{List, [], ◌∷◌, ◌++◌}
use lib.Dec.{leb}
use lib.ListN.{length, take, drop, length-append, length-drop, get_or-append}
use lib.Seq.{take_at, drop-append_seam}
use borrow.Author.Tests.{leb-true}
use Rattle.aldlf.specs.Constants.{node_limit, word_bits}
use Rattle.aldlf.specs.Sheet.{Sheet, bit}
use Rattle.aldlf.specs.Verdict.{verdict, plain}
use Rattle.aldlf.specs.Outcomes.{verdict_at, bit_count, log_words, held_in, first_no, log_fits, Whole, whole_number, whole_outcome, WholeRight}
use Rattle.aldlf.proofs.Bools.{eq_iff, count_le, count_cong}
use Rattle.aldlf.proofs.Plain.{verdict_iff}
use Rattle.aldlf.proofs.Words.{words_length, words_bit, words_unused}

-- The count ---------------------------------------------------------------------------------------------------------------------

-- the rule holds at no more entries than there are
pub held_le : (S : Sheet) (log : List ℕ) → held_in S log ≤ length log
unfolding held_in
held_le S log = count_le (length log) _

-- and at as many as have the rule's bit set in the log's words
pub held_bits : (S : Sheet) (log : List ℕ) → 1 ≤ S.nodes → S.nodes ≤ node_limit → held_in S log ≡ bit_count (length log) (log_words S log) (S.nodes - 1)
unfolding held_in
held_bits S log some few =
    count_cong (length log) (λ i. verdict S log (S.nodes - 1) i) (λ i. verdict_at (log_words S log) i (S.nodes - 1))
    (λ i l. sym (words_bit S (plain S) log (S.nodes - 1) i (omega arith) (omega arith) l))

-- The outcome -------------------------------------------------------------------------------------------------------------------

-- all three questions got a yes
pub three_yes : (a b c : Bool) → first_no ((a, 31) ∷ (b, 32) ∷ (c, 33) ∷ []) ≡ 0 → (a ≡ true) × (b ≡ true) × (c ≡ true)
three_yes true true true e = (refl, refl, refl)
three_yes true true false e = absurd (omega arith)
three_yes true false c e = absurd (omega arith)
three_yes false b c e = absurd (omega arith)

module _ (given : Bool) (S : Sheet) (log buffer : List ℕ) where
  -- by the number of the first question that gets a no
  abbrev by_number : ℕ → Whole
  by_number q =
      elim q [
        | zero ↦ record { number = 0; held = held_in S log; buffer = log_words S log ++ drop (2 * length log) buffer }
        | suc q ↦ record { number = suc q; held = 0; buffer = buffer }
      ]

  number_is : (q : ℕ) → (by_number q).number ≡ q
  number_is zero = refl
  number_is (suc q) = refl

  pub whole-number : (whole_outcome given S log buffer).number ≡ whole_number given log buffer
  unfolding whole_outcome
  whole-number = number_is (whole_number given log buffer)

  pub whole_refused : (q : ℕ) → q ≡ whole_number given log buffer → ¬ (q ≡ 0) → record { number = q; held = 0; buffer = buffer } ≡ whole_outcome given S log buffer
  unfolding whole_outcome
  whole_refused q e ne = go q ne ∙ ap by_number e
    where
      go : (q : ℕ) → ¬ (q ≡ 0) → record { number = q; held = 0; buffer = buffer } ≡ by_number q
      go zero ne = absurd (ne refl)
      go (suc q) ne = refl

  pub whole_accepted : (held : ℕ) (out : List ℕ) → whole_number given log buffer ≡ 0 → held ≡ held_in S log → out ≡ log_words S log ++ drop (2 * length log) buffer
      → record { number = 0; held = held; buffer = out } ≡ whole_outcome given S log buffer
  unfolding whole_outcome
  whole_accepted held out e h o = ap₂ (λ (n : ℕ) (l : List ℕ). record { number = 0; held = n; buffer = l }) h o ∙ ap by_number (sym e)

  -- Where it is accepted
  module _ (z : (whole_outcome given S log buffer).number ≡ 0) where
    accepted_is : record { number = 0; held = held_in S log; buffer = log_words S log ++ drop (2 * length log) buffer } ≡ whole_outcome given S log buffer
    accepted_is = whole_accepted (held_in S log) (log_words S log ++ drop (2 * length log) buffer) (sym whole-number ∙ z) refl refl

    pub whole_yes : (given ≡ true) × (log_fits log ≡ true) × (leb (2 * length log) (length buffer) ≡ true)
    unfolding whole_number
    whole_yes = three_yes given (log_fits log) (leb (2 * length log) (length buffer)) (sym whole-number ∙ z)

    pub whole_held : (whole_outcome given S log buffer).held ≡ held_in S log
    whole_held = sym (ap (λ (o : Whole). o.held) accepted_is)

    whole_buffer : (whole_outcome given S log buffer).buffer ≡ log_words S log ++ drop (2 * length log) buffer
    whole_buffer = sym (ap (λ (o : Whole). o.buffer) accepted_is)

    -- the log's words are in the first places
    pub whole_words : take (2 * length log) (whole_outcome given S log buffer).buffer ≡ log_words S log
    whole_words = ap (take (2 * length log)) whole_buffer ∙ take_at (log_words S log) (drop (2 * length log) buffer) (2 * length log) (words_length S (plain S) log)

    -- what is read of the buffer is what is read of them
    whole_read : (i k : ℕ) → i < length log → k < node_limit → verdict_at (whole_outcome given S log buffer).buffer i k ≡ verdict_at (log_words S log) i k
    whole_read i k l lk = ap (λ (b : List ℕ). verdict_at b i k) whole_buffer
        ∙ ap (λ (w : ℕ). bit w (k % word_bits)) (get_or-append (log_words S log) (drop (2 * length log) buffer) 0 (2 * i + k / word_bits) (omega (arith, words_length S (plain S) log)))

    -- the verdict on node k at entry i
    pub whole_bit : (i k : ℕ) → i < length log → k < S.nodes → k < node_limit → verdict_at (whole_outcome given S log buffer).buffer i k ≡ verdict S log k i
    whole_bit i k l lk ln = whole_read i k l ln ∙ words_bit S (plain S) log k i lk ln l

    -- DEMAND 2
    pub whole_right : 1 ≤ S.nodes → S.nodes ≤ node_limit → WholeRight S log buffer (whole_outcome given S log buffer)
    whole_right some few =
        record {
          verdicts = λ i k l lk. Iff.trans
              (eq_iff (verdict_at (whole_outcome given S log buffer).buffer i k) (verdict S log k i) (whole_bit i k l lk (omega arith)))
              (verdict_iff S log k i l);
          unused = λ i k l lk ln. whole_read i k l ln ∙ words_unused S (plain S) log k i lk ln l;
          counted =
              whole_held ∙ held_bits S log some few
              ∙ count_cong (length log) (λ i. verdict_at (log_words S log) i (S.nodes - 1)) (λ i. verdict_at (whole_outcome given S log buffer).buffer i (S.nodes - 1))
              (λ i l. sym (whole_read i (S.nodes - 1) l (omega arith)));
          size = ap length whole_buffer
              ∙ omega (arith, length-append (log_words S log) (drop (2 * length log) buffer), words_length S (plain S) log, length-drop (2 * length log) buffer, leb-true (2 * length log) (length buffer) whole_yes.2);
          kept = ap₂ drop (sym (words_length S (plain S) log)) whole_buffer ∙ drop-append_seam (log_words S log) (drop (2 * length log) buffer);
        }
