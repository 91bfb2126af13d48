-- The lines in the terms of the code's loops and tests: one entry more, one edge more, a verdict's digit.
use Prim.Native.Nat.{ℕ, ◌+◌, ◌≤◌, ◌<◌}
use mathlib.Core.Path.{◌≡◌, ap, sym, ◌∙◌}
use mathlib.Core.List.{List, [], ◌∷◌, ◌++◌}
use mathlib.Core.Bool.{Bool}
use native.Mathlib.Numerals.{add-one}
use borrow.Author.Tests.{lt-ltb, le-ltb}
use lib.ListN.{get_or}
use Rattle.text.specs.Text.{comma}
use Rattle.aldlf.specs.Outcomes.{one, verdict_at}
use Rattle.aldlf.specs.Constants.{node_limit}
use Rattle.appending.specs.Appending.{decimal}
use Rattle.lines.specs.Lines.{entries_in, verdict_digit, entry_line, entries_below, edges_below}

-- one entry more
pub entries_next : (rule : ℕ) (words : List ℕ) (i v : ℕ) → v ≡ verdict_digit words i rule → entries_below rule words i ++ entry_line i v ≡ entries_below rule words (i + 1)
unfolding entries_below
entries_next rule words i v e = rw (add-one i, e)

-- one edge more
pub edges_next : (es : List ℕ) (i e : ℕ) → e ≡ get_or es i 0 → edges_below es i ++ (comma ∷ []) ++ decimal e ≡ edges_below es (i + 1)
unfolding edges_below
edges_next es i e h = rw (add-one i, h)

-- no such node
pub digit_no_node : (words : List ℕ) (i k : ℕ) → node_limit ≤ k → 0 ≡ verdict_digit words i k
digit_no_node words i k l = rw (le-ltb k node_limit l)

module _ (words : List ℕ) (i k : ℕ) (lk : k < node_limit) where
  -- no such entry
  pub digit_no_entry : entries_in words ≤ i → 0 ≡ verdict_digit words i k
  digit_no_entry l = rw (lt-ltb k node_limit lk, le-ltb i (entries_in words) l)

  -- the digit of a verdict
  pub digit_is : i < entries_in words → (b r : Bool) → r ≡ verdict_at words i k → r ≡ b → one b ≡ verdict_digit words i k
  digit_is l b r e h = rw (lt-ltb k node_limit lk, lt-ltb i (entries_in words) l) (ap one (sym h ∙ e))
