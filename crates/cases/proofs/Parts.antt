-- The place past a part, in both outcomes of the search for its end. Assumes nothing.
use Prim.Native.Nat.{ℕ, ◌+◌, ◌<◌, ◌≤◌}
use mathlib.Core.Path.{◌≡◌, refl, ap}
use mathlib.Core.List.{List}
use native.Mathlib.Omega.{arith}
use native.Mathlib.Numerals.{add-one}
use lib.ListN.{length, take, drop, length-drop}
use borrow.Author.Tests.{lt-ltb, le-ltb}
use Rattle.text.specs.Text.{up_to}
use Rattle.cases.specs.Cases.{Past, past_of, start_of, part_of}

module _ (sep : ℕ) (s rest : List ℕ) (at n : ℕ) (e : rest ≡ drop at s) (f : n ≡ up_to sep rest) where
  pub past_here : n < length rest → Past sep s at (at + n + 1)
  unfolding past_of
  past_here h =
      let h' : up_to sep (drop at s) < length (drop at s) = rw (f, e) at h in
      let l = simp length-drop at (ap length e) in
      record { is = rw (f, e) (simp (lt-ltb (up_to sep (drop at s)) (length (drop at s)) h')); within = omega arith; further = λ _. omega arith }

  pub past_end : length rest ≤ n → Past sep s at (length s)
  unfolding past_of
  past_end h =
      let h' : length (drop at s) ≤ up_to sep (drop at s) = rw (f, e) at h in
      record { is = simp (le-ltb (up_to sep (drop at s)) (length (drop at s)) h'); within = omega arith; further = λ k. k }

-- the next part starts past the one before it
pub start_next : (sep : ℕ) (s : List ℕ) (i at r : ℕ) → at ≡ start_of sep s i → r ≡ past_of sep s at → r ≡ start_of sep s (i + 1)
unfolding start_of
start_next sep s i at r e f = rw (add-one, ← e) f

pub start_first : (sep : ℕ) (s : List ℕ) → 0 ≡ start_of sep s 0
unfolding start_of
start_first sep s = refl

-- what stands up to the sep, from the start of a part on, is that part
pub part_here : (sep : ℕ) (s rest : List ℕ) (k i at n : ℕ) → at ≡ start_of sep s i → i ≡ k → rest ≡ drop at s → n ≡ up_to sep rest → take n rest ≡ part_of sep s k
unfolding part_of
part_here sep s rest k i at n e h f g = rw (g, f, e, h)
