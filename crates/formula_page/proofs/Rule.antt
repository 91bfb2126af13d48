-- The formula of a rule's file, by the test of its last byte, is within the file.
use Prim.Native.Nat.{ℕ, ◌-◌, ◌≤◌}
use mathlib.Core.Path.{◌≡◌}
use mathlib.Core.Bool.{Bool, true, false, cond, false≢true}
use mathlib.Core.List.{List, [], ◌∷◌}
use native.Mathlib.Omega.{arith}
use lib.ListN.{length}
use Rattle.text.specs.Text.{ends_in_lf}
use Rattle.formula_page.specs.Rule.{formula_bytes}

-- a file that ends in LF has a byte
pub ended_some : (rule : List ℕ) → ends_in_lf rule ≡ true → 1 ≤ length rule
ended_some [] e = absurd (false≢true e)
ended_some (b ∷ bs) e = omega arith

pub ended_bytes : (rule : List ℕ) → ends_in_lf rule ≡ true → length rule - 1 ≡ formula_bytes rule
unfolding formula_bytes
ended_bytes rule e = rw e

pub open_bytes : (rule : List ℕ) → ends_in_lf rule ≡ false → length rule ≡ formula_bytes rule
unfolding formula_bytes
open_bytes rule e = rw e

-- no more bytes than the file has
pub bytes_fit : (rule : List ℕ) (k : ℕ) → k ≡ formula_bytes rule → k ≤ length rule
unfolding formula_bytes
bytes_fit rule k e = go (ends_in_lf rule) e
  where
    go : (b : Bool) → k ≡ cond b (length rule - 1) (length rule) → k ≤ length rule
    go true h = omega arith
    go false h = omega arith
