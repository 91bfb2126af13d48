-- Sets of nodes as two words: a node more, and entries that agree on a set's nodes.
use Prim.Native.Nat.{ℕ, ◌+◌, ◌*◌, ◌^◌, ◌-◌, ◌≤◌, ◌<◌}
use native.Mathlib.Omega.{arith}
use mathlib.Core.Path.{◌≡◌, sym, ap, ◌∙◌}
use mathlib.Core.Logic.{◌⊎◌, inl, inr}
use mathlib.Core.Bool.{true, false}
use mathlib.Core.List.{List, [], ◌∷◌}
use lib.Bits.{bit_and, bit_or}
use lib.Dec.{eqb}
use lib.ListN.{length}
use borrow.Author.Tests.{eqb-true, eqb-false}
use Rattle.aldlf.specs.Constants.{node_limit, word_bits}
use Rattle.aldlf.specs.Sheet.{bit}
use Rattle.aldlf.proofs.Bools.{bool_cases, lt-or-le}
use Rattle.aldlf.proofs.Words.{read_low, read_high}
use Rattle.reach.specs.Marks.{at, paired, test_of, EdgesFit}
use Rattle.reach.specs.Tests.{in_set, Tested, With}
use Rattle.reach.specs.declared.filling.NodeSet.{NodeSet}
use Rattle.reach.proofs.Bits.{bit_agree, in_left, in_right, one_self}
use Rattle.reach.proofs.Paired.{low_bit, high_bit}

-- a set by its two words
module _ (set : NodeSet) (k : ℕ) where
  in_low : k < word_bits → in_set set k ≡ bit set.low k
  in_low b = read_low (set.low ∷ set.high ∷ []) 0 k b

  in_high : word_bits ≤ k → k < node_limit → in_set set k ≡ bit set.high (k - word_bits)
  in_high b l = read_high (set.low ∷ set.high ∷ []) 0 k b l

-- node k is put into its word
pub with_low : (set : NodeSet) (k : ℕ) → k < word_bits → With set k (record { low = bit_or set.low (2 ^ k); high = set.high })
with_low set k b = record { keeps = λ j l h. go j l h (lt-or-le j word_bits); has = in_low grown k b ∙ in_right set.low (2 ^ k) k (one_self word_bits k b) }
  where
    grown : NodeSet
    grown = record { low = bit_or set.low (2 ^ k); high = set.high }

    go : (j : ℕ) → j < node_limit → in_set set j ≡ true → (j < word_bits) ⊎ (word_bits ≤ j) → in_set grown j ≡ true
    go j l h (inl a) = in_low grown j a ∙ in_left set.low (2 ^ k) j (sym (in_low set j a) ∙ h)
    go j l h (inr a) = in_high grown j a l ∙ sym (in_high set j a l) ∙ h

pub with_high : (set : NodeSet) (k : ℕ) → word_bits ≤ k → k < node_limit → With set k (record { low = set.low; high = bit_or set.high (2 ^ (k - word_bits)) })
with_high set k b lk =
    record { keeps = λ j l h. go j l h (lt-or-le j word_bits); has = in_high grown k b lk ∙ in_right set.high (2 ^ (k - word_bits)) (k - word_bits) (one_self word_bits (k - word_bits) (omega arith)) }
  where
    grown : NodeSet
    grown = record { low = set.low; high = bit_or set.high (2 ^ (k - word_bits)) }

    go : (j : ℕ) → j < node_limit → in_set set j ≡ true → (j < word_bits) ⊎ (word_bits ≤ j) → in_set grown j ≡ true
    go j l h (inl a) = in_low grown j a ∙ sym (in_low set j a) ∙ h
    go j l h (inr a) = in_high grown j a l ∙ in_left set.high (2 ^ (k - word_bits)) (j - word_bits) (sym (in_high set j a l) ∙ h)

-- the nodes of the edges passed, and that of one edge more
pub tested_next : (E : List ℕ) → EdgesFit E → (set grown : NodeSet) (e : ℕ) → e < length E → With set (test_of (at E e)) grown → Tested E set e → Tested E grown (e + 1)
tested_next E f set grown e l w old d h = go (bool_cases (eqb d e))
  where
    go : (eqb d e ≡ true) ⊎ (eqb d e ≡ false) → in_set grown (test_of (at E d)) ≡ true
    go (inl z) = ap (λ (x : ℕ). in_set grown (test_of (at E x))) (eqb-true d e z) ∙ w.has
    go (inr z) = let ne = eqb-false d e z in let b : d < e = omega arith in w.keeps (test_of (at E d)) (f.each d (omega arith)).test_fits (old d b)

-- entries whose words agree on a set agree on its nodes
pub agree : (words : List ℕ) (set : NodeSet) (i j : ℕ) → 2 * i + 1 < length words → 2 * j + 1 < length words
    → bit_and (at words (2 * i)) set.low ≡ bit_and (at words (2 * j)) set.low → bit_and (at words (2 * i + 1)) set.high ≡ bit_and (at words (2 * j + 1)) set.high
    → (k : ℕ) → k < node_limit → in_set set k ≡ true → bit (at (paired words) i) k ≡ bit (at (paired words) j) k
agree words set i j li lj low high k lk h = go (lt-or-le k word_bits)
  where
    go : (k < word_bits) ⊎ (word_bits ≤ k) → bit (at (paired words) i) k ≡ bit (at (paired words) j) k
    go (inl b) = low_bit words i li k b ∙ bit_agree (at words (2 * i)) (at words (2 * j)) set.low k low (sym (in_low set k b) ∙ h) ∙ sym (low_bit words j lj k b)
    go (inr b) =
        high_bit words i li k b ∙ bit_agree (at words (2 * i + 1)) (at words (2 * j + 1)) set.high (k - word_bits) high (sym (in_high set k b lk) ∙ h)
        ∙ sym (high_bit words j lj k b)
