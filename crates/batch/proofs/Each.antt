-- EACH LOG OF AN ACCEPTED LIST IS JUDGED AS BY ITSELF: what stands at its place in both buffers is what judging it alone gives, and its count is that of the rule's bits there.
use Prim.Native.Nat.{ℕ, zero, suc, ◌+◌, ◌*◌, ◌/◌, ◌%◌, ◌-◌, ◌≤◌, ◌<◌}
use native.Mathlib.Omega.{arith}
use mathlib.Core.Path.{◌≡◌, refl, sym, ap, ap₂, ◌∙◌}
use mathlib.Core.Bool.{Bool, true}
use mathlib.Core.List.{List, [], ◌∷◌, ◌++◌, append_assoc}
use lib.ListN.{length, take, drop, get_or, length-drop}
use lib.Seq.{take_at, drop-append-add, drop-drop, length-take-le, get_or-take}
use Rattle.aldlf.specs.Constants.{node_limit, word_bits}
use Rattle.aldlf.specs.Sheet.{Sheet, bit, sheet_of}
use Rattle.aldlf.specs.Verdict.{plain}
use Rattle.aldlf.specs.Outcomes.{Whole, verdict_at, bit_count, log_words, held_in, whole_outcome}
use Rattle.aldlf.specs.declared.Table.{Table}
use Rattle.aldlf.proofs.Bools.{count_cong}
use Rattle.aldlf.proofs.Words.{words_length}
use Rattle.aldlf.proofs.Outcomes.{held_bits}
use Rattle.sheet.specs.Given.{well_formed}
use Rattle.sheet.proofs.Facts.{table_facts}
use Rattle.batch.specs.Batch.{BatchAnswer}
use Rattle.batch.specs.Right.{log_at}
use Rattle.batch.specs.Batch.{logs_of, total, words_of, counts_of, first_log, fits, answer_to, BatchOutcome, batch_ends, verdicts_after, held_after, batch_outcome}
use Rattle.batch.proofs.Firsts.{fits_yes, all_pass, misfit_yes, fits_within}
use Rattle.batch.proofs.Single.{whole_is}
use Rattle.batch.proofs.Answers.{accepted, ends_judged, number_is}

-- The logs by their places ----------------------------------------------------------------------------------------------------

abbrev listed : (words ns : List ℕ) → ℕ → List ℕ
listed words ns j = get_or (logs_of words ns) j []

-- a log of the list stands at its place
log-at : (words ns : List ℕ) (j : ℕ) → j < length ns → listed words ns j ≡ log_at words ns j
log-at words [] j h = absurd (omega arith)
log-at words (n ∷ ns) zero h = refl
log-at words (n ∷ ns) (suc j) h = log-at (drop n words) ns j (omega arith) ∙ ap (take (get_or ns j 0)) (drop-drop (total (take j ns)) n words)

-- log j has as many entries as its length says
log_size : (words ns : List ℕ) → total ns ≤ length words → (j : ℕ) → j < length ns → length (listed words ns j) ≡ get_or ns j 0
log_size words [] f j h = absurd (omega arith)
log_size words (n ∷ ns) f zero h = length-take-le n words (omega arith)
log_size words (n ∷ ns) f (suc j) h = log_size (drop n words) ns (omega (arith, length-drop n words)) j (omega arith)

-- what stands after the two words of each of n entries
past : (front back : List ℕ) (n m : ℕ) → length front ≡ 2 * n → drop (2 * (n + m)) (front ++ back) ≡ drop (2 * m) back
past front back n m e =
    let f : 2 * (n + m) ≡ length front + 2 * m = omega arith in
    ap (λ (k : ℕ). drop k (front ++ back)) f ∙ drop-append-add front back (2 * m)

module _ (S : Sheet) where
  first_long : (words : List ℕ) (n : ℕ) → n ≤ length words → length (log_words S (take n words)) ≡ 2 * n
  first_long words n l = words_length S (plain S) (take n words) ∙ ap (λ (k : ℕ). 2 * k) (length-take-le n words l)

  words_at : (words ns rest : List ℕ) → total ns ≤ length words → (j : ℕ) → j < length ns
      → take (2 * get_or ns j 0) (drop (2 * total (take j ns)) (words_of S (logs_of words ns) ++ rest)) ≡ log_words S (get_or (logs_of words ns) j [])
  words_at words [] rest f j h = absurd (omega arith)
  words_at words (n ∷ ns) rest f zero h =
      ap (take (2 * n)) (append_assoc (log_words S (take n words)) (words_of S (logs_of (drop n words) ns)) rest)
      ∙ take_at (log_words S (take n words)) (words_of S (logs_of (drop n words) ns) ++ rest) (2 * n) (first_long words n (omega arith))
  words_at words (n ∷ ns) rest f (suc j) h =
      ap (λ (l : List ℕ). take (2 * get_or ns j 0) (drop (2 * (n + total (take j ns))) l)) (append_assoc (log_words S (take n words)) (words_of S (logs_of (drop n words) ns)) rest)
      ∙ ap (take (2 * get_or ns j 0)) (past (log_words S (take n words)) (words_of S (logs_of (drop n words) ns) ++ rest) n (total (take j ns)) (first_long words n (omega arith)))
      ∙ words_at (drop n words) ns rest (omega (arith, length-drop n words)) j (omega arith)

  count_at : (words ns rest : List ℕ) (j : ℕ) → j < length ns → get_or (counts_of S (logs_of words ns) ++ rest) j 0 ≡ held_in S (get_or (logs_of words ns) j [])
  count_at words [] rest j h = absurd (omega arith)
  count_at words (n ∷ ns) rest zero h = refl
  count_at words (n ∷ ns) rest (suc j) h = count_at (drop n words) ns rest j (omega arith)

abbrev judged : ℕ → List ℕ → Whole
judged held buffer = record { number = 0; held = held; buffer = buffer }

-- An accepted list ------------------------------------------------------------------------------------------------------------

module _ (given : Bool) (S : Sheet) (words ns verdicts held : List ℕ) (z : (batch_outcome given S words ns verdicts held).number ≡ 0) where
  answer : BatchAnswer
  answer = answer_to given (length words) ns (length verdicts) (length held)

  yes_all : (given ≡ true) × (first_log (fits (length words)) 0 0 ns ≡ 0) × (total ns ≡ length words)
  unfolding answer
  yes_all =
      let y = accepted given (length words) ns (length verdicts) (length held) (sym (number_is given S words ns verdicts held answer refl) ∙ z) in
      let m = misfit_yes (length words) ns y.1 in
      (y.0, m.0, omega (arith, m.1, fits_within (length words) ns m.0))

  ends_so : batch_outcome given S words ns verdicts held ≡ batch_ends answer (verdicts_after S words ns verdicts) (held_after S words ns held)
  unfolding answer
  ends_so = sym (ends_judged given S words ns verdicts held answer refl (sym (number_is given S words ns verdicts held answer refl) ∙ z) _ _ refl refl)

  module _ (j : ℕ) (h : j < length ns) where
    size : length (listed words ns j) ≡ get_or ns j 0
    size = log_size words ns (omega (arith, yes_all.2)) j h

    count_there : get_or (batch_outcome given S words ns verdicts held).held j 0 ≡ held_in S (listed words ns j)
    count_there = ap (λ (o : BatchOutcome). get_or o.held j 0) ends_so ∙ count_at S words ns (drop (length ns) held) j h

    words_there : take (2 * get_or ns j 0) (drop (2 * total (take j ns)) (batch_outcome given S words ns verdicts held).verdicts) ≡ log_words S (listed words ns j)
    words_there =
        ap (λ (o : BatchOutcome). take (2 * get_or ns j 0) (drop (2 * total (take j ns)) o.verdicts)) ends_so ∙ words_at S words ns (drop (2 * length words) verdicts) (omega (arith, yes_all.2)) j h

    alone : (buffer : List ℕ) → 2 * get_or ns j 0 ≤ length buffer → whole_outcome given S (listed words ns j) buffer ≡ record {
      number = 0;
      held = get_or (batch_outcome given S words ns verdicts held).held j 0;
      buffer = take (2 * get_or ns j 0) (drop (2 * total (take j ns)) (batch_outcome given S words ns verdicts held).verdicts) ++ drop (2 * get_or ns j 0) buffer;
    }
    alone buffer room =
        let fit = fits_yes (length words) j (total (take j ns)) (get_or ns j 0) (all_pass (fits (length words)) ns yes_all.1 j h) in
        whole_is given S (listed words ns j) buffer yes_all.0 (omega (arith, size, fit.some)) (omega (arith, size, fit.few)) (omega (arith, size))
        ∙ ap₂ (λ (c : ℕ) (l : List ℕ). judged c (l ++ drop (2 * length (listed words ns j)) buffer)) (sym count_there) (sym words_there)
        ∙ ap (λ (n : ℕ). judged (get_or (batch_outcome given S words ns verdicts held).held j 0) (take (2 * get_or ns j 0) (drop (2 * total (take j ns)) (batch_outcome given S words ns verdicts held).verdicts) ++ drop (2 * n) buffer)) size

    bits_there : 1 ≤ S.nodes → S.nodes ≤ node_limit
        → get_or (batch_outcome given S words ns verdicts held).held j 0 ≡ bit_count (get_or ns j 0) (drop (2 * total (take j ns)) (batch_outcome given S words ns verdicts held).verdicts) (S.nodes - 1)
    bits_there some few =
        let log = listed words ns j in
        let k = S.nodes - 1 in
        let place = drop (2 * total (take j ns)) (batch_outcome given S words ns verdicts held).verdicts in
        count_there ∙ held_bits S log some few
        ∙ ap (λ (n : ℕ). bit_count n (log_words S log) k) size
        ∙ count_cong (get_or ns j 0) (λ i. verdict_at (log_words S log) i k) (λ i. verdict_at place i k)
        (λ i l. ap (λ (ws : List ℕ). verdict_at ws i k) (sym words_there) ∙ ap (λ (w : ℕ). bit w (k % word_bits)) (get_or-take (2 * get_or ns j 0) place (2 * i + k / word_bits) 0 (omega arith)))

-- the theorem, of the call's outcome: log j's words, two for each entry, stand after those of the logs before it, and its count in place j
pub each_judged : (t : Table) (words lengths verdicts held : List ℕ)
    → (batch_outcome (well_formed t) (sheet_of t) words lengths verdicts held).number ≡ 0
    → (j : ℕ) → j < length lengths → (buffer : List ℕ) → 2 * get_or lengths j 0 ≤ length buffer
    → whole_outcome (well_formed t) (sheet_of t) (log_at words lengths j) buffer ≡ record {
      number = 0;
      held = get_or (batch_outcome (well_formed t) (sheet_of t) words lengths verdicts held).held j 0;
      buffer =
          take (2 * get_or lengths j 0) (drop (2 * total (take j lengths)) (batch_outcome (well_formed t) (sheet_of t) words lengths verdicts held).verdicts)
          ++ drop (2 * get_or lengths j 0) buffer;
    }
each_judged t words lengths verdicts held z j h buffer room =
    ap (λ (log : List ℕ). whole_outcome (well_formed t) (sheet_of t) log buffer) (sym (log-at words lengths j h))
    ∙ alone (well_formed t) (sheet_of t) words lengths verdicts held z j h buffer room

-- and the count in place j is that of the entries at which the rule's bit is set in log j's words, at their place
pub each_counted : (t : Table) (words lengths verdicts held : List ℕ) → let o = batch_outcome (well_formed t) (sheet_of t) words lengths verdicts held in
    o.number ≡ 0 → (j : ℕ) → j < length lengths → get_or o.held j 0 ≡ bit_count (get_or lengths j 0) (drop (2 * total (take j lengths)) o.verdicts) ((sheet_of t).nodes - 1)
unfolding sheet_of
each_counted t words lengths verdicts held z j h =
    let facts = table_facts t (yes_all (well_formed t) (sheet_of t) words lengths verdicts held z).0 in
    bits_there (well_formed t) (sheet_of t) words lengths verdicts held z j h facts.some_node facts.nodes≤
