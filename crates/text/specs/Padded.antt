-- Zeros in front of the numbers of a text: when one text is another with its numbers padded. Only theorems cite this.
use Rattle.std.specs.Prelude.{ℕ, ◌+◌, ◌≤◌, ◌<◌, ◌≡◌, List, [], ◌∷◌, ◌++◌, length, replicate}
use Rattle.text.specs.Text.{not_number, lines, fields, ends_in_lf, number}

-- a field, and it again: as it is, or a number with z zeros before it, at most three digits in all
pub data FieldPadded (f g : List ℕ) : Type 0 where
  same : g ≡ f → FieldPadded f g
  zeros : (z : ℕ) → number f < not_number → z + length f ≤ 3 → g ≡ replicate z 48 ++ f → FieldPadded f g

-- as many on both sides, and R of each two at the same place
abbrev pub Paired : (List ℕ → List ℕ → Type 0) → List (List ℕ) → List (List ℕ) → Type 0
Paired R [] [] = Unit {0}
Paired R [] (y ∷ ys) = ⊥
Paired R (x ∷ xs) [] = ⊥
Paired R (x ∷ xs) (y ∷ ys) = R x y × Paired R xs ys

-- a line, and it again with zeros before some of its numbers
abbrev pub LinePadded : List ℕ → List ℕ → Type 0
LinePadded line again = Paired FieldPadded (fields line) (fields again)

-- a text, and it again with zeros before some of its numbers
pub record TextPadded (text again : List ℕ) : Type 0 where
  pub each : Paired LinePadded (lines text) (lines again)
  pub ends : ends_in_lf again ≡ ends_in_lf text
