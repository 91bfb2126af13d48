-- What the calls that judge answer: the questions in order, the result, and the whole content of the lent buffer.
use Rattle.std.specs.Prelude.{ℕ, zero, suc, ◌+◌, ◌*◌, ◌/◌, ◌%◌, ◌-◌, ◌^◌, ◌≤◌, ◌<◌, ◌≡◌, ◌↔◌, Bool, true, false, ◌&&◌, List, [], ◌∷◌, ◌++◌, leb, get_or, length, drop, replicate}
use Rattle.aldlf.specs.Constants.{node_limit, state_limit, entry_limit, word_bits}
use Rattle.aldlf.specs.Sheet.{Sheet, bit}
use Rattle.aldlf.specs.Meaning.{Holds}
use Rattle.aldlf.specs.Stands.{StandsOn, rule_sheet}
use Rattle.aldlf.specs.Parts.{Bits, HoldsIn, RowGives, counts, looks_only}
use Rattle.aldlf.specs.Verdict.{judge, verdict, row_of, plain}
use Rattle.aldlf.specs.declared.Row.{Row}
use Rattle.aldlf.specs.declared.Way.{Way}

-- 1 for yes, 0 for no.
abbrev pub one : Bool → ℕ
one true = 1
one false = 0

-- The number whose bit k is `p k` for k below n, and 0 from n on.
abbrev pub pack_bits : ℕ → (ℕ → Bool) → ℕ
pack_bits zero p = 0
pack_bits (suc n) p = one (p n) * 2 ^ n + pack_bits n p

-- f 0, f 1, .., f (n - 1).
abbrev pub tabulate : ℕ → (ℕ → ℕ) → List ℕ
tabulate zero f = []
tabulate (suc n) f = f zero ∷ tabulate n (λ i. f (suc i))

-- How many numbers below n pass the test.
abbrev pub count_below : ℕ → (ℕ → Bool) → ℕ
count_below zero p = 0
count_below (suc n) p = one (p n) + count_below n p

-- The verdict on node k at entry i, in the verdict words of a log or a part: nodes 0 to 63 are the bits of word 2 i, the others those of word 2 i + 1.
abbrev pub verdict_at : List ℕ → (i k : ℕ) → Bool
verdict_at words i k = bit (get_or words (2 * i + k / word_bits) 0) (k % word_bits)

-- At how many of the first n entries node k holds, by their verdict words.
abbrev pub bit_count : (n : ℕ) → List ℕ → (k : ℕ) → ℕ
bit_count n words k = count_below n (λ i. verdict_at words i k)

-- Numbers as two words each: the lowest 64 bits, then the others.
abbrev pub halves : List ℕ → List ℕ
halves [] = []
halves (x ∷ xs) = x % 2 ^ word_bits ∷ x / 2 ^ word_bits ∷ halves xs

-- A row as it is handed over: bit s of number k.
abbrev pub bits_of : Row → Bits
bits_of r k s = bit (get_or r.bits k 0) s

-- The row with these bits.
abbrev pub pack_row : Bits → Row
pack_row ρ = record { bits = tabulate node_limit (λ k. pack_bits state_limit (λ s. ρ k s)) }

-- All zeros: the row beside a refusal.
abbrev pub no_row : Row
no_row = record { bits = replicate node_limit 0 }

-- The verdicts of a part with the row ρ beside it, a number for each entry: bit k is node k's.
unfoldable pub part_verdicts : Sheet → Bits → List ℕ → List ℕ
part_verdicts S ρ words = tabulate (length words) (λ i. pack_bits S.nodes (λ k. judge S words ρ (suc k) k i))

-- Its verdict words: two for each entry.
abbrev pub part_words : Sheet → Bits → List ℕ → List ℕ
part_words S ρ words = halves (part_verdicts S ρ words)

-- The verdict words of a whole log.
abbrev pub log_words : Sheet → List ℕ → List ℕ
log_words S log = part_words S (plain S) log

-- At how many entries the rule, the last node, holds.
unfoldable pub held_in : Sheet → List ℕ → ℕ
held_in S log = count_below (length log) (λ i. verdict S log (S.nodes - 1) i)

-- Questions, each with its number: that of the first that gets a no, or 0.
abbrev pub first_no : List (Bool × ℕ) → ℕ
first_no [] = 0
first_no (q ∷ qs) = elim q.0 [ true ↦ first_no qs | false ↦ q.1 ]

-- The number of a refusal (0: accepted), the count held, and the buffer as the call ends.
pub record Whole : Type 0 where
  pub number : ℕ
  pub held : ℕ
  pub buffer : List ℕ

-- The number of a refusal (0: accepted), the row, and the buffer as the call ends.
pub record Part : Type 0 where
  pub number : ℕ
  pub row : Row
  pub buffer : List ℕ

-- Question 32 of a whole log: 1 to 512 entries.
abbrev pub log_fits : List ℕ → Bool
log_fits log = leb 1 (length log) && leb (length log) entry_limit

-- Questions 31 (`given`: some sheet gives the table), 32 and 33 of a whole log.
unfoldable pub whole_number : Bool → List ℕ → List ℕ → ℕ
whole_number given log buffer =
    first_no ((given, 31) ∷ (log_fits log, 32) ∷ (leb (2 * length log) (length buffer), 33) ∷ [])

-- Judging a whole log: the verdict words in the first places, the rest as lent; a refusal alters nothing.
unfoldable pub whole_outcome : Bool → Sheet → List ℕ → List ℕ → Whole
whole_outcome given S log buffer =
    elim (whole_number given log buffer) [
      | zero ↦ record { number = 0; held = held_in S log; buffer = log_words S log ++ drop (2 * length log) buffer }
      | suc q ↦ record { number = suc q; held = 0; buffer = buffer }
    ]

-- DEMAND 2, of the outcome o of judging a log that was accepted, in a buffer that was lent.
pub record WholeRight (S : Sheet) (log lent : List ℕ) (o : Whole) : Type 0 where
  -- the verdict on node k at entry i, in the words, is Definition 4's
  pub verdicts : (i k : ℕ) → i < length log → k < S.nodes → (verdict_at o.buffer i k ≡ true) ↔ Holds S log k i
  -- unused bits are 0
  pub unused : (i k : ℕ) → i < length log → S.nodes ≤ k → k < node_limit → verdict_at o.buffer i k ≡ false
  -- the count is that of the entries at which the rule's bit is set
  pub counted : o.held ≡ bit_count (length log) o.buffer (S.nodes - 1)
  -- the buffer has its length, and the words beyond the log are as lent
  pub size : length o.buffer ≡ length lent
  pub kept : drop (2 * length log) o.buffer ≡ drop (2 * length log) lent

-- Questions 31, 34, 32 and 33 of a part.
unfoldable pub part_number : Bool → Way → Sheet → List ℕ → List ℕ → ℕ
part_number given w S words buffer =
    first_no ((given, 31) ∷ (looks_only w S, 34) ∷ (leb (length words) entry_limit, 32) ∷ (leb (2 * length words) (length buffer), 33) ∷ [])

-- Judging a part, of the nodes that the rule stands on: its words in the first places, the rest as lent, and its row; a refusal alters nothing.
unfoldable pub part_outcome : Bool → Way → Sheet → Row → List ℕ → List ℕ → Part
part_outcome given w S row words buffer =
    elim (part_number given w S words buffer) [
      | zero ↦ record { number = 0; row = pack_row (row_of w (rule_sheet S) words (bits_of row)); buffer = part_words (rule_sheet S) (bits_of row) words ++ drop (2 * length words) buffer }
      | suc q ↦ record { number = suc q; row = no_row; buffer = buffer }
    ]

-- WHAT A PART GIVES, of the outcome o of judging a part that was accepted, with this row beside it, in a buffer that was lent.
pub record PartRight (w : Way) (S : Sheet) (row : Row) (words lent : List ℕ) (o : Part) : Type 0 where
  -- the verdict on node k, one that the rule stands on, at entry i of the part, is the meaning's
  pub verdicts : (i k : ℕ) → i < length words → StandsOn S k → (verdict_at o.buffer i k ≡ true) ↔ HoldsIn S words (bits_of row) k i
  -- all other bits are 0
  pub others : (i k : ℕ) → i < length words → k < node_limit → ¬ (StandsOn S k) → verdict_at o.buffer i k ≡ false
  -- bit s of number k of the row that it gives, likewise
  pub row_gives : (k s : ℕ) → k < node_limit → s < state_limit → (bits_of o.row k s ≡ true) ↔ (StandsOn S k × RowGives w S words (bits_of row) k s)
  -- the buffer has its length, and the words beyond the part are as lent
  pub size : length o.buffer ≡ length lent
  pub kept : drop (2 * length words) o.buffer ≡ drop (2 * length words) lent

-- The plain row of a sheet as it is handed over, ignored bits 0. Parts of a sheet S start from the plain row of `rule_sheet S`.
abbrev pub plain_row : Sheet → Row
plain_row S = pack_row (λ k s. counts S (S.line k) s && plain S k s)
