-- The fields of a line, one at a time: a cut of the rest gives its first field, and the rest after the comma has the others.
use Prim.Native.Nat.{ℕ, ◌+◌, ◌-◌, ◌≤◌, ◌<◌}
use mathlib.Core.Path.{◌≡◌, sym, ◌∙◌}
use mathlib.Core.List.{List, [], ◌∷◌}
use mathlib.Core.Bool.{cond}
use mathlib.Core.Logic.{◌⊎◌, inl, inr}
use native.Mathlib.Nat.{eq-or-lt_of_le}
use native.Mathlib.Omega.{arith}
use lib.ListN.{length, take, drop, length-drop}
use lib.Seq.{take_all, drop-drop}
use lib.Dec.{leb}
use borrow.Author.Tests.{le-leb, lt-leb}
use Rattle.text.specs.Text.{comma, fields, up_to}
use Rattle.text.proofs.Pieces.{up_to-le, pieces_last, pieces_more}

-- the fields of a line from a place on: none where the place is past the line's end
abbrev pub fields_from : List ℕ → ℕ → List (List ℕ)
fields_from l at = cond (leb at (length l)) (fields (drop at l)) []

pub fields_start : (l : List ℕ) → fields_from l 0 ≡ fields l
fields_start l = rw (le-leb 0 (length l) (omega arith))

pub fields_done : (l : List ℕ) (at : ℕ) → length l < at → fields_from l at ≡ []
fields_done l at h = rw (lt-leb at (length l) h)

from_go : (l : List ℕ) (at n : ℕ) → at ≤ length l → n ≡ up_to comma (drop at l) → (n ≡ length (drop at l)) ⊎ (n < length (drop at l))
    → fields (drop at l) ≡ take n (drop at l) ∷ fields_from l (at + n + 1)
from_go l at n h e (inr k) =
    let w : length (drop at l) ≡ length l - at = length-drop at l in
    let k' : up_to comma (drop at l) < length (drop at l) = omega arith in
    let a : at + n + 1 ≡ at + (n + 1) = omega arith in
    pieces_more comma (drop at l) k' ∙ rw (← e, drop-drop, le-leb (at + n + 1) (length l) (omega arith), a)
from_go l at n h e (inl k) =
    let w : length (drop at l) ≡ length l - at = length-drop at l in
    pieces_last comma (drop at l) (sym e ∙ k) ∙ rw (take_all n (drop at l) (omega arith), lt-leb (at + n + 1) (length l) (omega arith))

-- the field at a place, and the fields after it
pub fields_step : (l : List ℕ) (at n : ℕ) → at ≤ length l → n ≡ up_to comma (drop at l) → fields_from l at ≡ take n (drop at l) ∷ fields_from l (at + n + 1)
fields_step l at n h e = rw (le-leb at (length l) h) (from_go l at n h e (eq-or-lt_of_le {n = n} {m = length (drop at l)} (rw e (up_to-le comma (drop at l)))))
