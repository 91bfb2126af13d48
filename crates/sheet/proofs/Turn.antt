-- One turn of the reader: what is left of the text reads to the whole text's answer, and the table is one that lines have built.
use Prim.Native.Nat.{ℕ, ◌+◌, ◌≤◌, ◌<◌}
use mathlib.Core.Path.{◌≡◌, ap, sym, ◌∙◌}
use mathlib.Core.List.{List}
use mathlib.Core.Bool.{true}
use native.Mathlib.Omega.{arith}
use lib.ListN.{length, drop}
use Rattle.text.specs.Text.{byte_limit, lines, fields, ends_in_lf, line_at}
use Rattle.text.proofs.Lines.{lines_at, line_inside}
use Rattle.sheet.specs.declared.line.Line.{Line}
use Rattle.sheet.specs.declared.build.Reading.{Reading}
use Rattle.sheet.specs.Answers.{Stop}
use Rattle.sheet.specs.Questions.{parsed, question, added, start, refused_by, finish, read_lines, read_sheet}
use Rattle.sheet.specs.Room.{LineRoom}
use Rattle.sheet.proofs.Passed.{passed, absent}
use Rattle.sheet.proofs.Lines.{read_on, read_no, read_end, sheet_on}
use Rattle.sheet.proofs.Grown.{Grown}
use Rattle.sheet.proofs.Grows.{grows, start_grown}
use Rattle.sheet.proofs.Rooms.{room_of}

-- Where the reader stands after k lines, before place `at`.
pub record Standing (text : List ℕ) (r : Reading) (k at : ℕ) : Type 0 where
  pub within : at ≤ length text
  pub counted : k ≤ at
  pub short : length text ≤ byte_limit
  pub ends : ends_in_lf text ≡ true
  pub grown : Grown r.table r.inside
  pub left : read_lines r k (lines (drop at text)) ≡ read_sheet text

pub standing_start : (text : List ℕ) → length text ≤ byte_limit → ends_in_lf text ≡ true → Standing text start 0 0
standing_start text h e = record { within = omega arith; counted = omega arith; short = h; ends = e; grown = start_grown; left = sheet_on text h e }

pub standing_end : (text : List ℕ) (r : Reading) (k at : ℕ) → Standing text r k at → length text ≤ at → finish r k ≡ read_sheet text
standing_end text r k at s h = read_end r k text at h ∙ s.left

-- one line, which stands at that place
module _ (text : List ℕ) (r : Reading) (k at : ℕ) (s : Standing text r k at) (h : at < length text) (line : List ℕ) (w : line ≡ line_at text at) (l : Line) (x : l ≡ parsed (fields line)) where
  pub turn_no : (q : Stop) → q ≡ question r l → (q.number ≡ 0 → ⊥) → refused_by q (k + 1) ≡ read_sheet text
  turn_no q y f = read_no r k q line (lines (drop (at + length line + 1) text)) (y ∙ ap (question r) x) f ∙ ap (read_lines r k) (sym (lines_at text at line h w)) ∙ s.left

  pub turn_room : (question r l).number ≡ 0 → LineRoom r.table l
  turn_room y = room_of r l s.grown (passed r l y) (rw x (absent (fields line)))

  pub turn_on : (question r l).number ≡ 0 → Standing text (added r (k + 1) l) (k + 1) (at + length line + 1)
  turn_on y =
      let rest = lines (drop (at + length line + 1) text) in
      record {
        within = line_inside text at line h w s.ends;
        counted = omega (arith, s.counted);
        short = s.short;
        ends = s.ends;
        grown = grows r (k + 1) l s.grown (passed r l y) (rw x (absent (fields line)));
        left =
            ap (λ (z : Line). read_lines (added r (k + 1) z) (k + 1) rest) x
            ∙ sym (read_on r k line rest (ap (λ (z : Line). (question r z).number) (sym x) ∙ y))
            ∙ ap (read_lines r k) (sym (lines_at text at line h w))
            ∙ s.left;
      }
