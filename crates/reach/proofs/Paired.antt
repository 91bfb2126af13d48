-- VERDICT WORDS IN PAIRS: an entry's two words as one number have the verdicts that are read of them; a verdict put into its word is one added to the number; and the halves of the numbers are the words.
use Prim.Native.Nat.{ℕ, ◌+◌, ◌*◌, ◌^◌, ◌/◌, ◌%◌, ◌-◌, ◌≤◌, ◌<◌}
use native.Mathlib.Omega.{arith}
use mathlib.Core.Path.{◌≡◌, sym, subst, ap, ap₂, ◌∙◌}
use mathlib.Core.Logic.{◌⊎◌, inl, inr}
use mathlib.Core.Bool.{Bool, true, false}
use mathlib.Core.List.{List}
use lib.Dec.{eqb}
use lib.Pow.{pow-add, pow_mono}
use lib.ListN.{length, set, length-set}
use lib.Seq.{ext_get_or, get_or-set_same, get_or-set_other}
use borrow.Author.Tests.{eqb-true, eqb-false}
use Rattle.aldlf.specs.Constants.{node_limit, word_bits}
use Rattle.aldlf.specs.Sheet.{bit}
use Rattle.aldlf.specs.Outcomes.{verdict_at, halves}
use Rattle.aldlf.proofs.Bools.{bool_cases, lt-or-le}
use Rattle.aldlf.proofs.Packing.{length-tabulate, get_d_tabulate, bit_low}
use Rattle.aldlf.proofs.Words.{length-halves, halves_low, halves_high, read_low, read_high, bit_above}
use Rattle.reach.specs.Marks.{at, pair_at, paired, verdict_added}

pub length-paired : (words : List ℕ) → length (paired words) ≡ length words / 2
unfolding paired
length-paired words = length-tabulate (length words / 2) (pair_at words)

pub at-paired : (words : List ℕ) (i : ℕ) → 2 * i + 1 < length words → at (paired words) i ≡ pair_at words i
unfolding paired
at-paired words i l = get_d_tabulate (length words / 2) (pair_at words) i 0 (omega arith)

-- an entry has both its words
pub pair_room : (words : List ℕ) (i : ℕ) → i < length (paired words) → 2 * i + 1 < length words
pair_room words i l = omega (arith, length-paired words)

-- Reading -----------------------------------------------------------------------------------------------------------------------

module _ (words : List ℕ) (i : ℕ) (l : 2 * i + 1 < length words) where
  pub low_bit : (k : ℕ) → k < word_bits → bit (at (paired words) i) k ≡ bit (at words (2 * i)) k
  low_bit k b =
      let e : at (paired words) i % 2 ^ word_bits ≡ at words (2 * i) % 2 ^ word_bits = omega (arith, at-paired words i l) in
      sym (bit_low (at (paired words) i) word_bits k b) ∙ ap (λ (z : ℕ). bit z k) e ∙ bit_low (at words (2 * i)) word_bits k b

  pub high_bit : (k : ℕ) → word_bits ≤ k → bit (at (paired words) i) k ≡ bit (at words (2 * i + 1)) (k - word_bits)
  high_bit k b =
      let e : at (paired words) i / 2 ^ word_bits ≡ at words (2 * i + 1) = omega (arith, at-paired words i l) in
      sym (bit_above (at (paired words) i) k b) ∙ ap (λ (z : ℕ). bit z (k - word_bits)) e

  paired-bit : (k : ℕ) → k < node_limit → verdict_at words i k ≡ bit (at (paired words) i) k
  paired-bit k lk = go (lt-or-le k word_bits)
    where
      go : (k < word_bits) ⊎ (word_bits ≤ k) → verdict_at words i k ≡ bit (at (paired words) i) k
      go (inl b) = read_low words i k b ∙ sym (low_bit k b)
      go (inr b) = read_high words i k b lk ∙ sym (high_bit k b)

-- the verdict that is read is the one in the entry's number
pub reads : (words : List ℕ) (i k : ℕ) → i < length (paired words) → k < node_limit → verdict_at words i k ≡ bit (at (paired words) i) k
reads words i k l lk = paired-bit words i (pair_room words i l) k lk

-- Writing: the verdict on node k, where those on the nodes from k on are not there yet ---------------------------------------------

-- one word of a pair is set
set_low : (words : List ℕ) (i v : ℕ) → 2 * i + 1 < length words → at (paired (set words (2 * i) v)) i ≡ v % 2 ^ word_bits + 2 ^ word_bits * at words (2 * i + 1)
set_low words i v l =
    at-paired (set words (2 * i) v) i (omega (arith, length-set words (2 * i) v))
    ∙ ap₂ (λ (x y : ℕ). x % 2 ^ word_bits + 2 ^ word_bits * y) (get_or-set_same words (2 * i) v 0 (omega arith)) (get_or-set_other words (2 * i) (2 * i + 1) v 0 (λ z. omega arith))

set_high : (words : List ℕ) (i v : ℕ) → 2 * i + 1 < length words → at (paired (set words (2 * i + 1) v)) i ≡ at words (2 * i) % 2 ^ word_bits + 2 ^ word_bits * v
set_high words i v l =
    at-paired (set words (2 * i + 1) v) i (omega (arith, length-set words (2 * i + 1) v))
    ∙ ap₂ (λ (x y : ℕ). x % 2 ^ word_bits + 2 ^ word_bits * y) (get_or-set_other words (2 * i + 1) (2 * i) v 0 (λ z. omega arith)) (get_or-set_same words (2 * i + 1) v 0 l)

-- the other pairs stay
set_away : (words : List ℕ) (p v j : ℕ) → ¬ (2 * j ≡ p) → ¬ (2 * j + 1 ≡ p) → 2 * j + 1 < length words → at (paired (set words p v)) j ≡ at (paired words) j
set_away words p v j low high l =
    at-paired (set words p v) j (omega (arith, length-set words p v))
    ∙ ap₂ (λ (x y : ℕ). x % 2 ^ word_bits + 2 ^ word_bits * y) (get_or-set_other words p (2 * j) v 0 low) (get_or-set_other words p (2 * j + 1) v 0 high)
    ∙ sym (at-paired words j l)

-- a word with bit k in place of one below it
low_sum : (l h k : ℕ) (on : Bool) → k < word_bits → l < 2 ^ k → verdict_added l k on % 2 ^ word_bits + 2 ^ word_bits * h ≡ verdict_added (l % 2 ^ word_bits + 2 ^ word_bits * h) k on
low_sum l h k true b s = let top = pow_mono {i = k} {j = 63} (omega arith) in omega arith
low_sum l h k false b s = omega arith

high_sum : (l h k : ℕ) (on : Bool) → l % 2 ^ word_bits + 2 ^ word_bits * verdict_added h k on ≡ verdict_added (l % 2 ^ word_bits + 2 ^ word_bits * h) (word_bits + k) on
high_sum l h k true = omega (arith, pow-add 2 word_bits k)
high_sum l h k false = omega arith

module _ (words : List ℕ) (i k : ℕ) (l : 2 * i + 1 < length words) (lk : k < node_limit) (small : at (paired words) i < 2 ^ k) where
  abbrev place : ℕ
  place = 2 * i + k / word_bits

  -- the word has no bit from the node's on
  pub word_room : at words place < 2 ^ word_bits → at words place < 2 ^ (k % word_bits)
  word_room w = go (lt-or-le k word_bits)
    where
      go : (k < word_bits) ⊎ (word_bits ≤ k) → at words place < 2 ^ (k % word_bits)
      go (inl b) =
          let p : place ≡ 2 * i = omega arith in
          let q : k % word_bits ≡ k = omega arith in
          let w' : at words (2 * i) < 2 ^ word_bits = subst (λ (z : ℕ). at words z < 2 ^ word_bits) p w in
          subst (λ (z : ℕ). at words z < 2 ^ (k % word_bits)) (sym p) (subst (λ (z : ℕ). at words (2 * i) < 2 ^ z) (sym q) (omega (arith, at-paired words i l)))
      go (inr b) =
          let p : place ≡ 2 * i + 1 = omega arith in
          let q : k % word_bits ≡ k - word_bits = omega arith in
          let e : k ≡ word_bits + (k - word_bits) = omega arith in
          let top : 2 ^ k ≡ 2 ^ word_bits * 2 ^ (k - word_bits) = ap (λ (z : ℕ). 2 ^ z) e ∙ pow-add 2 word_bits (k - word_bits) in
          subst (λ (z : ℕ). at words z < 2 ^ (k % word_bits)) (sym p) (subst (λ (z : ℕ). at words (2 * i + 1) < 2 ^ z) (sym q) (omega (arith, at-paired words i l, top)))

  module _ (on : Bool) (w : at words place < 2 ^ word_bits) where
    abbrev after : List ℕ
    after = set words place (verdict_added (at words place) (k % word_bits) on)

    put_here : at (paired after) i ≡ verdict_added (at (paired words) i) k on
    put_here = go (lt-or-le k word_bits)
      where
        Put : (p b : ℕ) → Type 0
        Put p b = at (paired (set words p (verdict_added (at words p) b on))) i ≡ verdict_added (at (paired words) i) k on

        at_place : (p b : ℕ) → place ≡ p → k % word_bits ≡ b → Put p b → Put place (k % word_bits)
        at_place p b e f h = subst (λ (z : ℕ). Put z (k % word_bits)) (sym e) (subst (Put p) (sym f) h)

        back : (x : ℕ) → x ≡ verdict_added (pair_at words i) k on → x ≡ verdict_added (at (paired words) i) k on
        back x e = e ∙ ap (λ (z : ℕ). verdict_added z k on) (sym (at-paired words i l))

        go : (k < word_bits) ⊎ (word_bits ≤ k) → at (paired after) i ≡ verdict_added (at (paired words) i) k on
        go (inl b) =
            let q : k % word_bits ≡ k = omega arith in
            let p : place ≡ 2 * i = omega arith in
            let room : at words (2 * i) < 2 ^ k = subst (λ (z : ℕ). at words (2 * i) < 2 ^ z) q (subst (λ (z : ℕ). at words z < 2 ^ (k % word_bits)) p (word_room w)) in
            at_place (2 * i) k p q (back _ (set_low words i (verdict_added (at words (2 * i)) k on) l ∙ low_sum (at words (2 * i)) (at words (2 * i + 1)) k on b room))
        go (inr b) =
            let e : word_bits + (k - word_bits) ≡ k = omega arith in
            at_place (2 * i + 1) (k - word_bits) (omega arith) (omega arith)
            (back _ (set_high words i (verdict_added (at words (2 * i + 1)) (k - word_bits) on) l
            ∙ high_sum (at words (2 * i)) (at words (2 * i + 1)) (k - word_bits) on ∙ ap (λ (z : ℕ). verdict_added (pair_at words i) z on) e))

    -- A VERDICT PUT INTO ITS WORD IS ADDED TO ITS ENTRY'S NUMBER, and to no other
    pub paired_put : paired after ≡ set (paired words) i (verdict_added (at (paired words) i) k on)
    paired_put = ext_get_or 0 (paired after) (set (paired words) i (verdict_added (at (paired words) i) k on)) sizes (λ j h. go j h (bool_cases (eqb j i)))
      where
        new : ℕ
        new = verdict_added (at (paired words) i) k on

        long : length (paired after) ≡ length words / 2
        long = length-paired after ∙ ap (λ (n : ℕ). n / 2) (length-set words place (verdict_added (at words place) (k % word_bits) on))

        sizes : length (paired after) ≡ length (set (paired words) i new)
        sizes = long ∙ sym (length-set (paired words) i new ∙ length-paired words)

        go : (j : ℕ) → j < length (paired after) → (eqb j i ≡ true) ⊎ (eqb j i ≡ false) → at (paired after) j ≡ at (set (paired words) i new) j
        go j h (inl e) =
            subst (λ (z : ℕ). at (paired after) z ≡ at (set (paired words) i new) z) (sym (eqb-true j i e))
            (put_here ∙ sym (get_or-set_same (paired words) i new 0 (omega (arith, length-paired words))))
        go j h (inr e) =
            let ne = eqb-false j i e in
            set_away words place _ j (λ z. omega arith) (λ z. omega arith) (omega (arith, long)) ∙ sym (get_or-set_other (paired words) i j new 0 ne)

-- Whole words -------------------------------------------------------------------------------------------------------------------

-- halves in pairs are the numbers again
pub paired-halves : (xs : List ℕ) → paired (halves xs) ≡ xs
paired-halves xs = ext_get_or 0 (paired (halves xs)) xs long (λ i l.
    at-paired (halves xs) i (omega (arith, long, length-halves xs)) ∙ omega (arith, halves_low xs i, halves_high xs i))
  where
    long : length (paired (halves xs)) ≡ length xs
    long = length-paired (halves xs) ∙ omega (arith, length-halves xs)

-- words of 64 bits are the halves of their numbers
pub halves-paired : (words : List ℕ) (n : ℕ) → length words ≡ 2 * n → ((i : ℕ) → at words i < 2 ^ word_bits) → halves (paired words) ≡ words
halves-paired words n size small = ext_get_or 0 (halves (paired words)) words long (λ w h. go w (omega (arith, long)) (lt-or-le (w % 2) 1))
  where
    long : length (halves (paired words)) ≡ length words
    long = length-halves (paired words) ∙ omega (arith, length-paired words)

    go : (w : ℕ) → w < length words → (w % 2 < 1) ⊎ (1 ≤ w % 2) → at (halves (paired words)) w ≡ at words w
    go w h (inl e) =
        let i = w / 2 in
        let p : w ≡ 2 * i = omega arith in
        let room : 2 * i + 1 < length words = omega arith in
        ap (at (halves (paired words))) p ∙ halves_low (paired words) i ∙ omega (arith, at-paired words i room, small (2 * i)) ∙ ap (at words) (sym p)
    go w h (inr e) =
        let i = w / 2 in
        let p : w ≡ 2 * i + 1 = omega arith in
        let room : 2 * i + 1 < length words = omega arith in
        ap (at (halves (paired words))) p ∙ halves_high (paired words) i ∙ omega (arith, at-paired words i room) ∙ ap (at words) (sym p)
