-- What the field beside a sheet's refusal says, in words about the text: the leftmost field of that line which is out of range.
use Rattle.std.specs.Prelude.{ℕ, ◌+◌, ◌-◌, ◌≤◌, ◌<◌, ◌≡◌, ◌⊎◌, List, [], ◌∷◌, Bool, true, false, length, get_or, take}
use Rattle.text.specs.Text.{lines, fields}
use Rattle.sheet.specs.declared.line.Line.{Line}
use Rattle.sheet.specs.declared.build.Reading.{Reading}
use Rattle.sheet.specs.Answers.{SheetAnswer}
use Rattle.sheet.specs.Ranges.{a_fact, a_count, is_of_kind, kinds, numbers_of, states_on}
use Rattle.sheet.specs.Questions.{parsed, last, added, start}

-- The reading after some lines more, the first of which is line k + 1.
unfoldable pub added_all : Reading → ℕ → List (List ℕ) → Reading
added_all r k [] = r
added_all r k (l ∷ ls) = added_all (added r (k + 1) (parsed (fields l))) (k + 1) ls

-- The reading of the lines before line k of a text, and line k; lines are counted from 1.
abbrev pub read_before : List ℕ → ℕ → Reading
read_before text k = added_all start 0 (take (k - 1) (lines text))

abbrev pub numbered_line : List ℕ → ℕ → Line
numbered_line text k = parsed (fields (get_or (lines text) (k - 1) []))

-- What field f of a line has to be, the letter being field 1, and whether it is.
abbrev pub kind_at : Line → ℕ → ℕ
kind_at l f = get_or (kinds l.letter) (f - 2) 0

abbrev pub fits_at : Reading → Line → ℕ → Bool
fits_at r l f = is_of_kind r.table.used (states_on (last r.table) l) (kind_at l f) (get_or (numbers_of l) (f - 2) 0)

-- Field f of line l, below what was read, is the leftmost that is out of range, and n is the number of its kind.
pub record Leftmost (r : Reading) (l : Line) (n f : ℕ) : Type 0 where
  pub above : 2 ≤ f
  pub there : f < 2 + length (kinds l.letter)
  pub kind : n ≡ kind_at l f
  pub wrong : fits_at r l f ≡ false
  pub left : (g : ℕ) → 2 ≤ g → g < f → fits_at r l g ≡ true

-- What a text's answer says: never 7; field 0 beside every number but 71 to 76; beside these the leftmost field of its line that is out of range.
pub record FieldRight (text : List ℕ) (a : SheetAnswer) : Type 0 where
  pub never_7 : a.number ≡ 7 → ⊥
  pub no_field : (a.number < a_fact) ⊎ (a_count < a.number) → a.field ≡ 0
  pub leftmost : a_fact ≤ a.number → a.number ≤ a_count → Leftmost (read_before text a.line) (numbered_line text a.line) a.number a.field
