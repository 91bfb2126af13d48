-- What the public calls answer: document 01's numbers and values for each case of the answer, and which of two lent walks is the shorter.
use Rattle.std.specs.Prelude.{ℕ, List, Bool, true, false, leb, length, Result, Ok, Err}
use Rattle.std.specs.Borrow.{Bor}
use Rattle.aldlf.specs.Walks as walks
use Rattle.aldlf.specs.Refusals.{refusal_number}
use Rattle.aldlf.specs.declared.Refusal.{Refusal}

-- A walk that is shown is number 0 and its count of edges; a refusal is its number. Beside it stands the buffer as the call ends.
unfoldable pub answer_of : Result ℕ Refusal → List ℕ → walks.Shown
answer_of (Ok n) buffer = record { number = 0; count = n; buffer = buffer }
answer_of (Err q) buffer = record { number = refusal_number q; count = 0; buffer = buffer }

abbrev pub pick_ref : Bool → Bor (List ℕ) → Bor (List ℕ) → Bor (List ℕ)
pick_ref true a b = a
pick_ref false a b = b

-- The shorter of two lent walks, the slice itself; the first where they are equally long.
abbrev pub shorter_of : Bor (List ℕ) → Bor (List ℕ) → Bor (List ℕ)
shorter_of a b = pick_ref (leb (length a.now) (length b.now)) a b
