-- What a sheet that was not refused was read to: its answer of number 0 is its table's.
use Prim.Native.Nat.{ℕ, ◌+◌}
use mathlib.Core.Path.{◌≡◌, refl, ap, ◌∙◌}
use mathlib.Core.Logic.{inl}
use mathlib.Core.Bool.{Bool, true, false, cond}
use mathlib.Core.List.{List, [], ◌∷◌}
use native.Mathlib.Omega.{arith}
use borrow.Author.Tests.{eqb-false}
use lib.ListN.{length}
use lib.Dec.{eqb, ltb, leb}
use Rattle.text.specs.Text.{lines, byte_limit, ends_in_lf, fields}
use Rattle.sheet.specs.Questions as sheet
use Rattle.sheet.specs.Answers.{SheetAnswer}
use Rattle.sheet.proofs.Fields.{field_right}
use Rattle.report.proofs.Numbers.{Reading}

-- an answer without a refusal names no line
abbrev NoLine : SheetAnswer → Type 0
NoLine a = a.number ≡ 0 → a.line ≡ 0

pick_no_line : (b : Bool) (x y : SheetAnswer) → NoLine x → NoLine y → NoLine (cond b x y)
pick_no_line true x y p q = p
pick_no_line false x y p q = q

asked_no_line : (rest stop : SheetAnswer) → NoLine rest → NoLine (cond (eqb stop.number 0) rest stop)
asked_no_line rest stop h = go (eqb stop.number 0) refl
  where
    go : (b : Bool) → eqb stop.number 0 ≡ b → NoLine (cond b rest stop)
    go true e = h
    go false e = λ z. absurd (eqb-false stop.number 0 e z)

lines_no_line : (r : Reading) (k : ℕ) (ls : List (List ℕ)) → NoLine (sheet.read_lines r k ls)
unfolding sheet.read_lines sheet.finish
lines_no_line r k [] =
    pick_no_line (ltb (sheet.whole_of r.table) r.table.used.automata) _ _ (λ z. absurd (omega arith)) (pick_no_line r.inside _ _ (λ z. absurd (omega arith)) (λ z. refl))
lines_no_line r k (l ∷ ls) =
    let x = sheet.parsed (fields l) in
    asked_no_line (sheet.read_lines (sheet.added r (k + 1) x) (k + 1) ls) (sheet.refused_by (sheet.question r x) (k + 1)) (lines_no_line (sheet.added r (k + 1) x) (k + 1) ls)

sheet_no_line : (text : List ℕ) → NoLine (sheet.read_sheet text)
unfolding sheet.read_sheet
sheet_no_line text =
    pick_no_line (leb (length text) byte_limit) _ _
    (pick_no_line (ends_in_lf text) _ _ (lines_no_line sheet.start 0 (lines text)) (λ z. absurd (omega arith)))
    (λ z. absurd (omega arith))

-- a sheet whose answer has number 0 was read to a table
pub sheet_accepted : (text : List ℕ) → (sheet.read_sheet text).number ≡ 0 → sheet.read_sheet text ≡ sheet.accepted (sheet.read_sheet text).table
sheet_accepted text z =
    let a = sheet.read_sheet text in
    ap (λ (q : ℕ). record { number = q; line = a.line; field = a.field; table = a.table }) z
    ∙ ap (λ (k : ℕ). record { number = 0; line = k; field = a.field; table = a.table }) (sheet_no_line text z)
    ∙ ap (λ (f : ℕ). record { number = 0; line = 0; field = f; table = a.table }) ((field_right text).no_field (inl (omega arith)))
