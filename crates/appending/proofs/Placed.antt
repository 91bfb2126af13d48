-- A text in a lent buffer: one that fits, one that does not, and one that was first stored in a buffer with more places.
use Prim.Native.Nat.{ℕ, ◌≤◌, ◌<◌}
use mathlib.Core.Path.{◌≡◌, ap, sym, ◌∙◌}
use mathlib.Core.Logic.{⊎_elim}
use mathlib.Core.List.{List, ◌++◌}
use native.Mathlib.Omega.{arith}
use borrow.Author.Tests.{le-leb, lt-leb}
use lib.ListN.{length, take, drop, length-take}
use lib.Seq.{take_at}
use Rattle.aldlf.proofs.Bools.{lt-or-le}
use Rattle.appending.specs.Appending.{Stored, Appends}
use Rattle.appending.proofs.Storing.{printed_length, printed_whole, appends_whole}
use Rattle.appending.specs.Placed.{Printed, unprinted, placed}

-- a text that was stored where it fits is there
pub stored_there : (text room after : List ℕ) (n : ℕ) → length text ≤ length room → Stored text room after n → take n after ≡ text
stored_there text room after n h s =
    let c : length text ≡ n = omega (arith, s.place) in
    ap (take n) (s.text ∙ printed_whole text room h) ∙ take_at text (drop (length text) room) n c

-- of the number that a refusal has
module _ (number : ℕ) where
  -- a text that fits
  pub placed_fits : (text lent : List ℕ) → length text ≤ length lent → placed number text lent ≡ record { number = 0; count = length text; buffer = text ++ drop (length text) lent }
  unfolding placed
  placed_fits text lent h = rw (le-leb (length text) (length lent) h)

  -- a text that does not
  pub placed_refused : (text lent : List ℕ) → length lent < length text → placed number text lent ≡ unprinted number lent
  unfolding placed
  placed_refused text lent h = rw (lt-leb (length text) (length lent) h)

  -- a text that was stored where it fits
  pub placed_stored : (text lent after : List ℕ) (n : ℕ) → length text ≤ length lent → Stored text lent after n → record { number = 0; count = n; buffer = after } ≡ placed number text lent
  placed_stored text lent after n h s =
      let c : n ≡ length text = omega (arith, s.place) in
      let b : after ≡ text ++ drop (length text) lent = s.text ∙ printed_whole text lent h in
      ap (λ (k : ℕ). record { number = 0; count = k; buffer = after }) c
      ∙ ap (λ (l : List ℕ). record { number = 0; count = length text; buffer = l }) b
      ∙ sym (placed_fits text lent h)

  -- a text that was copied where it fits
  pub placed_copied : (text lent after : List ℕ) (next : ℕ) → length text ≤ length lent → Appends text lent 0 after next → record { number = 0; count = length text; buffer = after } ≡ placed number text lent
  placed_copied text lent after next h x =
      let s = appends_whole text lent after next x in
      ap (λ (k : ℕ). record { number = 0; count = k; buffer = after }) (omega (arith, s.place)) ∙ placed_stored text lent after next h s

  -- a text that was stored, as far as it fits, in a buffer that has more places than the lent one: what is there is answered for as the text is
  pub placed_by : (text lent room after : List ℕ) (n : ℕ) → length lent < length room → Stored text room after n → placed number (take n after) lent ≡ placed number text lent
  placed_by text lent room after n h s =
      ⊎_elim (λ long.
      let k : length (take n after) ≡ length room = omega (arith, length-take n after, ap length s.text, printed_length text room, s.place) in
      placed_refused (take n after) lent (omega arith) ∙ sym (placed_refused text lent (omega arith)))
      (λ fits. ap (λ (l : List ℕ). placed number l lent) (stored_there text room after n fits s))
      (lt-or-le (length room) (length text))

  -- no more bytes are answered for than the text and the buffer have
  pub placed-count : (text lent : List ℕ) → ((placed number text lent).count ≤ length lent) × ((placed number text lent).count ≤ length text)
  placed-count text lent =
      ⊎_elim (λ long. let c = ap (λ (p : Printed). p.count) (placed_refused text lent long) in (omega arith, omega arith))
      (λ fits. let c = ap (λ (p : Printed). p.count) (placed_fits text lent fits) in (omega arith, omega arith))
      (lt-or-le (length lent) (length text))
