-- A sheet whose numbers carry zeros in front reads as the sheet without them, to the same table or the same refusal: a line is read by its letter and its numbers.
use Prim.Native.Nat.{ℕ, zero, suc, ◌+◌, ◌-◌, ◌≤◌, ◌<◌, min}
use mathlib.Core.Path.{◌≡◌, refl, ap, sym, ◌∙◌}
use mathlib.Core.List.{List, [], ◌∷◌}
use mathlib.Core.Bool.{cond}
use native.Mathlib.Omega.{arith}
use lib.ListN.{length, get_or, replicate, length-append, length-replicate}
use lib.Dec.{eqb}
use borrow.Author.Tests.{ne_eqb, le-leb}
use Rattle.aldlf.specs.Constants.{letter_t, letter_f, letter_p, letter_n, letter_a, letter_o, letter_d, letter_b, letter_m, letter_g, letter_e}
use Rattle.text.specs.Text.{byte_limit, not_number, lines, fields, number}
use Rattle.text.specs.Padded.{FieldPadded, same, zeros, Paired, LinePadded, TextPadded}
use Rattle.text.proofs.Digits.{number_some, number_digit}
use Rattle.text.proofs.PaddedLength.{padded_length}
use Rattle.text.proofs.Padded.{field_number, paired_length}
use Rattle.sheet.specs.declared.build.Reading.{Reading}
use Rattle.sheet.specs.Ranges.{stop_at}
use Rattle.sheet.specs.Questions.{letter_of, parsed, arity, known_line, question, added, start, refused_by, read_lines, read_sheet}
use Rattle.sheet.proofs.Letters.{arity_other}

-- each field is the same number
numbers_same : (fs gs : List (List ℕ)) → Paired FieldPadded fs gs → (i : ℕ) → number (get_or gs i []) ≡ number (get_or fs i [])
numbers_same [] [] h i = refl
numbers_same (f ∷ fs) (g ∷ gs) (p, h) zero = field_number f g p
numbers_same (f ∷ fs) (g ∷ gs) (p, h) (suc i) = numbers_same fs gs h i
numbers_same [] (g ∷ gs) h i = absurd h
numbers_same (f ∷ fs) [] h i = absurd h

-- where the letter is the same, so is the line
parsed_same : (fs gs : List (List ℕ)) → Paired FieldPadded fs gs → letter_of (get_or gs 0 []) ≡ letter_of (get_or fs 0 []) → parsed gs ≡ parsed fs
unfolding parsed
parsed_same fs gs h e =
    rw (e, paired_length FieldPadded fs gs h, numbers_same fs gs h 1, numbers_same fs gs h 2, numbers_same fs gs h 3, numbers_same fs gs h 4)

-- a line whose first field is no letter is refused by 3
unknown : (fs : List (List ℕ)) → arity (letter_of (get_or fs 0 [])) ≡ 9 → (r : Reading) → question r (parsed fs) ≡ stop_at 3 0
unfolding question known_line parsed
unknown fs e r = rw (e, ne_eqb (min 5 (length fs - 1)) 9 (λ (n : min 5 (length fs - 1) ≡ 9). absurd (omega arith)))

-- a field of two bytes or more is no letter
letter_long : (f : List ℕ) → 2 ≤ length f → letter_of f ≡ 0
letter_long [] h = refl
letter_long (b ∷ []) h = absurd (omega arith)
letter_long (b ∷ c ∷ bs) h = refl

-- nor is a number
no_letter : (f : List ℕ) → number f < not_number → arity (letter_of f) ≡ 9
no_letter [] h = refl
no_letter (b ∷ c ∷ bs) h = refl
no_letter (b ∷ []) h =
    let w = number_digit b h in
    let n : (c : ℕ) → 58 ≤ c → b ≡ c → ⊥ = λ c k e. omega arith in
    sym (arity_other b (n letter_t (omega arith)) (n letter_f (omega arith)) (n letter_p (omega arith)) (n letter_n (omega arith)) (n letter_g (omega arith)) (n letter_a (omega arith))
    (n letter_o (omega arith)) (n letter_d (omega arith)) (n letter_b (omega arith)) (n letter_m (omega arith)) (n letter_e (omega arith)))

-- a line and it again: they read to the same, or neither has a letter
data Alike (fs gs : List (List ℕ)) : Type 0 where
  alike : parsed gs ≡ parsed fs → Alike fs gs
  neither : ((r : Reading) → question r (parsed fs) ≡ stop_at 3 0) → ((r : Reading) → question r (parsed gs) ≡ stop_at 3 0) → Alike fs gs

fields_alike : (fs gs : List (List ℕ)) → Paired FieldPadded fs gs → Alike fs gs
fields_alike [] [] h = alike refl
fields_alike [] (g ∷ gs) h = absurd h
fields_alike (f ∷ fs) [] h = absurd h
fields_alike (f ∷ fs) (g ∷ gs) (same e, h) = alike (parsed_same (f ∷ fs) (g ∷ gs) (same e, h) (ap letter_of e))
fields_alike (f ∷ fs) (g ∷ gs) (zeros zero n w e, h) = alike (parsed_same (f ∷ fs) (g ∷ gs) (zeros zero n w e, h) (ap letter_of e))
fields_alike (f ∷ fs) (g ∷ gs) (zeros (suc z) n w e, h) =
    let k : length g ≡ suc z + length f = ap length e ∙ length-append (replicate (suc z) 48) f ∙ ap (λ (x : ℕ). x + length f) (length-replicate {A = ℕ} (suc z) 48) in
    neither (unknown (f ∷ fs) (no_letter f n)) (unknown (g ∷ gs) (ap arity (letter_long g (omega (arith, number_some f n)))))

line_step : (r : Reading) (k : ℕ) (fs gs : List (List ℕ)) (ls ms : List (List ℕ)) → Alike fs gs → ((r' : Reading) → read_lines r' (k + 1) ms ≡ read_lines r' (k + 1) ls)
    → cond (eqb (question r (parsed gs)).number 0) (read_lines (added r (k + 1) (parsed gs)) (k + 1) ms) (refused_by (question r (parsed gs)) (k + 1))
    ≡ cond (eqb (question r (parsed fs)).number 0) (read_lines (added r (k + 1) (parsed fs)) (k + 1) ls) (refused_by (question r (parsed fs)) (k + 1))
line_step r k fs gs ls ms (alike e) f = rw (e, f (added r (k + 1) (parsed fs)))
line_step r k fs gs ls ms (neither a b) f = rw (a r, b r)

lines_same : (ls ms : List (List ℕ)) → Paired LinePadded ls ms → (r : Reading) (k : ℕ) → read_lines r k ms ≡ read_lines r k ls
unfolding read_lines
lines_same [] [] h r k = refl
lines_same [] (m ∷ ms) h r k = absurd h
lines_same (l ∷ ls) [] h r k = absurd h
lines_same (l ∷ ls) (m ∷ ms) (p, h) r k = line_step r k (fields l) (fields m) ls ms (fields_alike (fields l) (fields m) p) (λ r'. lines_same ls ms h r' (k + 1))

-- a sheet with zeros before its numbers reads as the sheet without them
pub padded_sheet : (text again : List ℕ) → TextPadded text again → length again ≤ byte_limit → read_sheet again ≡ read_sheet text
unfolding read_sheet
padded_sheet text again p h =
    rw (le-leb (length text) byte_limit (omega (arith, padded_length text again p)), le-leb (length again) byte_limit h, p.ends, lines_same (lines text) (lines again) p.each start 0)
