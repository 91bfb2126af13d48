-- The lines of a text read one at a time: what is left always reads to the whole text's answer.
use Prim.Native.Nat.{ℕ, ◌+◌, ◌≤◌, ◌<◌}
use mathlib.Core.Path.{◌≡◌}
use mathlib.Core.List.{List, ◌∷◌}
use mathlib.Core.Bool.{true, false}
use lib.ListN.{length, drop}
use borrow.Author.Tests.{ne_eqb, le-leb, lt-leb}
use Rattle.text.specs.Text.{byte_limit, lines, fields, ends_in_lf}
use Rattle.text.proofs.Lines.{lines_end}
use Rattle.sheet.specs.declared.build.Reading.{Reading}
use Rattle.sheet.specs.Answers.{Stop}
use Rattle.sheet.specs.Questions.{parsed, question, added, start, refused_by, refused, finish, read_lines, read_sheet}

pub read_on : (r : Reading) (k : ℕ) (l : List ℕ) (ls : List (List ℕ)) → (question r (parsed (fields l))).number ≡ 0 → read_lines r k (l ∷ ls) ≡ read_lines (added r (k + 1) (parsed (fields l))) (k + 1) ls
unfolding read_lines
read_on r k l ls e = rw e

pub read_no : (r : Reading) (k : ℕ) (q : Stop) (l : List ℕ) (ls : List (List ℕ)) → q ≡ question r (parsed (fields l)) → (q.number ≡ 0 → ⊥) → refused_by q (k + 1) ≡ read_lines r k (l ∷ ls)
unfolding read_lines
read_no r k q l ls e f = rw (← e, ne_eqb q.number 0 f)

pub read_end : (r : Reading) (k : ℕ) (text : List ℕ) (at : ℕ) → length text ≤ at → finish r k ≡ read_lines r k (lines (drop at text))
unfolding read_lines
read_end r k text at h = rw (lines_end text at h)

pub sheet_1 : (text : List ℕ) → byte_limit < length text → refused 1 0 ≡ read_sheet text
unfolding read_sheet
sheet_1 text h = rw (lt-leb (length text) byte_limit h)

pub sheet_2 : (text : List ℕ) → length text ≤ byte_limit → ends_in_lf text ≡ false → refused 2 0 ≡ read_sheet text
unfolding read_sheet
sheet_2 text h e = rw (le-leb (length text) byte_limit h, e)

pub sheet_on : (text : List ℕ) → length text ≤ byte_limit → ends_in_lf text ≡ true → read_lines start 0 (lines text) ≡ read_sheet text
unfolding read_sheet
sheet_on text h e = rw (le-leb (length text) byte_limit h, e)
