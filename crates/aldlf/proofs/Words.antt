-- VERDICT WORDS, two for each entry: what `verdict_at` reads is what `halves` wrote, no two verdicts share a bit, and the words of a log or a part have its verdicts.
use Prim.Native.Nat.{ℕ, zero, suc, ◌+◌, ◌*◌, ◌^◌, ◌/◌, ◌%◌, ◌-◌, ◌≤◌, ◌<◌}
use native.Mathlib.Omega.{arith}
use mathlib.Core.Path.{◌≡◌, refl, ap, ap₂, ◌∙◌}
use mathlib.Core.Logic.{◌⊎◌, inl, inr}
use mathlib.Core.Bool.{false}
use mathlib.Core.List.{List, [], ◌∷◌, ◌++◌}
use lib.Dec.{eqb}
use lib.Pow.{shr-shr}
use lib.ListN.{get_or, length}
use Rattle.aldlf.specs.Constants.{node_limit, word_bits}
use Rattle.aldlf.specs.Sheet.{Sheet, bit}
use Rattle.aldlf.specs.Parts.{Bits, join}
use Rattle.aldlf.specs.Verdict.{judge}
use Rattle.aldlf.specs.Outcomes.{pack_bits, verdict_at, halves, part_verdicts, part_words}
use Rattle.aldlf.specs.declared.Way.{Way}
use Rattle.aldlf.specs.declared.Way.TheVariants.{Ahead, Back}
use Rattle.aldlf.proofs.Bools.{lt-or-le}
use Rattle.aldlf.proofs.Packing.{length-tabulate, get_d_tabulate, bit_low, bit_pack, bit_pack_high}

-- NO TWO VERDICTS SHARE A BIT: one bit of one word is the verdict on one node at one entry
pub words_apart : (i i' k k' : ℕ) → k < node_limit → k' < node_limit → 2 * i + k / word_bits ≡ 2 * i' + k' / word_bits → k % word_bits ≡ k' % word_bits → (i ≡ i') × (k ≡ k')
words_apart i i' k k' l l' w b = (omega arith, omega arith)

-- Halves ------------------------------------------------------------------------------------------------------------------------

pub length-halves : (xs : List ℕ) → length (halves xs) ≡ 2 * length xs
length-halves [] = refl
length-halves (x ∷ xs) = omega (arith, length-halves xs)

halves-append : (xs ys : List ℕ) → halves (xs ++ ys) ≡ halves xs ++ halves ys
halves-append [] ys = refl
halves-append (x ∷ xs) ys = ap (λ (zs : List ℕ). x % 2 ^ word_bits ∷ x / 2 ^ word_bits ∷ zs) (halves-append xs ys)

pub halves_join : (w : Way) (xs ys : List ℕ) → halves (join w xs ys) ≡ join w (halves xs) (halves ys)
halves_join Ahead xs ys = halves-append xs ys
halves_join Back xs ys = halves-append ys xs

pub halves_low : (xs : List ℕ) (i : ℕ) → get_or (halves xs) (2 * i) 0 ≡ get_or xs i 0 % 2 ^ word_bits
halves_low [] i = refl
halves_low (x ∷ xs) zero = refl
halves_low (x ∷ xs) (suc i) = let e : 2 * suc i ≡ suc (suc (2 * i)) = omega arith in ap (λ (z : ℕ). get_or (halves (x ∷ xs)) z 0) e ∙ halves_low xs i

pub halves_high : (xs : List ℕ) (i : ℕ) → get_or (halves xs) (2 * i + 1) 0 ≡ get_or xs i 0 / 2 ^ word_bits
halves_high [] i = refl
halves_high (x ∷ xs) zero = refl
halves_high (x ∷ xs) (suc i) = let e : 2 * suc i + 1 ≡ suc (suc (2 * i + 1)) = omega arith in ap (λ (z : ℕ). get_or (halves (x ∷ xs)) z 0) e ∙ halves_high xs i

-- a verdict read from two words: from the first below 64, from the second above
pub read_low : (words : List ℕ) (i k : ℕ) → k < word_bits → verdict_at words i k ≡ bit (get_or words (2 * i) 0) k
read_low words i k l =
    let w : 2 * i + k / word_bits ≡ 2 * i = omega arith in
    let b : k % word_bits ≡ k = omega arith in
    ap₂ (λ (x y : ℕ). bit (get_or words x 0) y) w b

pub read_high : (words : List ℕ) (i k : ℕ) → word_bits ≤ k → k < node_limit → verdict_at words i k ≡ bit (get_or words (2 * i + 1) 0) (k - word_bits)
read_high words i k h l =
    let w : 2 * i + k / word_bits ≡ 2 * i + 1 = omega arith in
    let b : k % word_bits ≡ k - word_bits = omega arith in
    ap₂ (λ (x y : ℕ). bit (get_or words x 0) y) w b

-- the bits above a word's are those of what is left of the number
pub bit_above : (x k : ℕ) → word_bits ≤ k → bit (x / 2 ^ word_bits) (k - word_bits) ≡ bit x k
bit_above x k h =
    let e : word_bits + (k - word_bits) ≡ k = omega arith in
    ap (λ (z : ℕ). eqb (z % 2) 1) (shr-shr x word_bits (k - word_bits)) ∙ ap (λ (z : ℕ). bit x z) e

-- WHAT IS READ IS WHAT WAS WRITTEN
pub read_halves : (xs : List ℕ) (i k : ℕ) → k < node_limit → verdict_at (halves xs) i k ≡ bit (get_or xs i 0) k
read_halves xs i k l = go (lt-or-le k word_bits)
  where
    go : (k < word_bits) ⊎ (word_bits ≤ k) → verdict_at (halves xs) i k ≡ bit (get_or xs i 0) k
    go (inl b) = read_low (halves xs) i k b ∙ ap (λ (z : ℕ). bit z k) (halves_low xs i) ∙ bit_low (get_or xs i 0) word_bits k b
    go (inr b) = read_high (halves xs) i k b l ∙ ap (λ (z : ℕ). bit z (k - word_bits)) (halves_high xs i) ∙ bit_above (get_or xs i 0) k b

-- The words of a log or a part, whatever row is beside it -----------------------------------------------------------------------

module _ (S : Sheet) (ρ : Bits) (log : List ℕ) where
  pub verdicts_length : length (part_verdicts S ρ log) ≡ length log
  unfolding part_verdicts
  verdicts_length = length-tabulate (length log) (λ i. pack_bits S.nodes (λ k. judge S log ρ (suc k) k i))

  pub verdicts_at : (i : ℕ) → i < length log → get_or (part_verdicts S ρ log) i 0 ≡ pack_bits S.nodes (λ k. judge S log ρ (suc k) k i)
  unfolding part_verdicts
  verdicts_at i l = get_d_tabulate (length log) (λ i. pack_bits S.nodes (λ k. judge S log ρ (suc k) k i)) i 0 l

  -- bit k of an entry's number is the verdict on node k, as far as there are nodes
  pub verdicts_bit : (k i : ℕ) → k < S.nodes → i < length log → bit (get_or (part_verdicts S ρ log) i 0) k ≡ judge S log ρ (suc k) k i
  verdicts_bit k i lk li = ap (λ (w : ℕ). bit w k) (verdicts_at i li) ∙ bit_pack S.nodes (λ k. judge S log ρ (suc k) k i) k lk

  -- two words for each entry
  pub words_length : length (part_words S ρ log) ≡ 2 * length log
  words_length = length-halves (part_verdicts S ρ log) ∙ omega (arith, verdicts_length)

  -- what is read of node k at entry i is the verdict
  pub words_bit : (k i : ℕ) → k < S.nodes → k < node_limit → i < length log → verdict_at (part_words S ρ log) i k ≡ judge S log ρ (suc k) k i
  words_bit k i lk ln li = read_halves (part_verdicts S ρ log) i k ln ∙ verdicts_bit k i lk li

  -- and bits of no node are 0
  pub words_unused : (k i : ℕ) → S.nodes ≤ k → k < node_limit → i < length log → verdict_at (part_words S ρ log) i k ≡ false
  words_unused k i lk ln li =
      read_halves (part_verdicts S ρ log) i k ln ∙ ap (λ (w : ℕ). bit w k) (verdicts_at i li) ∙ bit_pack_high S.nodes (λ k. judge S log ρ (suc k) k i) k lk
