-- A log whose facts carry zeros in front reads as the log without them, to the same words or the same refusal: a line is read by its numbers, or is a lone `-`.
use Rattle.std.proofs.Common.{◌≡◌, ℕ, ◌+◌, ◌<◌, ◌≤◌, Bool, true, false, ◌&&◌, eqb, ◌⊎◌, List, [], ◌∷◌, length, get_or, take, drop, sym, refl, ap, ◌∙◌, inl, inr, eq-or-lt_of_le, arith, ne_eqb, eqb-true, le-leb}
use Rattle.aldlf.proofs.Bools.{and_left, and_right}
use Rattle.text.specs.Text.{byte_limit, not_number, comma, lines, fields, pieces, up_to, number, number_in, all_digits, value_of}
use Rattle.text.specs.Padded.{FieldPadded, same, zeros, Paired, LinePadded, TextPadded}
use Rattle.text.proofs.PaddedLength.{padded_length}
use Rattle.text.proofs.Padded.{field_number, paired_length}
use Rattle.text.proofs.Pieces.{up_to-le, pieces_last, pieces_more, pieces_some}
use Rattle.joblog.specs.Log.{numbers, lone, facts_of, read_lines, read_log}

numbers_same : (fs gs : List (List ℕ)) → Paired FieldPadded fs gs → numbers gs ≡ numbers fs
numbers_same [] [] h = refl
numbers_same [] (g ∷ gs) h = absurd h
numbers_same (f ∷ fs) [] h = absurd h
numbers_same (f ∷ fs) (g ∷ gs) (p, h) = rw (field_number f g p, numbers_same fs gs h)

-- whether the fields of a line are one, and that is `-`
abbrev dash : List (List ℕ) → Bool
dash fs = eqb (length fs) 1 && lone (get_or fs 0 [])

dash_two : (f : List ℕ) (fs : List (List ℕ)) → 1 ≤ length fs → dash (f ∷ fs) ≡ false
dash_two f fs h = rw (ne_eqb (length (f ∷ fs)) 1 (λ (e : length (f ∷ fs) ≡ 1). absurd (omega arith)))

-- a lone `-` is that byte
dash_go : (l : List ℕ) → length l ≡ 1 → get_or l 0 0 ≡ 45 → l ≡ 45 ∷ []
dash_go [] n e = absurd (omega arith)
dash_go (b ∷ []) n e = ap (λ (x : ℕ). x ∷ []) e
dash_go (b ∷ c ∷ bs) n e = absurd (omega arith)

lone_line : (l : List ℕ) → lone l ≡ true → l ≡ 45 ∷ []
lone_line l p =
    dash_go l (eqb-true (length l) 1 (and_left (eqb (length l) 1) (eqb (get_or l 0 0) 45) p)) (eqb-true (get_or l 0 0) 45 (and_right (eqb (length l) 1) (eqb (get_or l 0 0) 45) p))

-- which has no comma
lone_go : (l : List ℕ) (t : Bool) → lone l ≡ t → up_to comma l < length l → false ≡ t
unfolding up_to
lone_go l false e h = refl
lone_go l true e h = absurd (let h' : up_to comma (45 ∷ []) < length {A = ℕ} (45 ∷ []) = rw (lone_line l e) at h in omega arith)

-- a line is a lone `-` exactly where its fields are
lone-dash : (l : List ℕ) → dash (fields l) ≡ lone l
lone-dash l = go (eq-or-lt_of_le {n = up_to comma l} {m = length l} (up_to-le comma l))
  where
    go : (up_to comma l ≡ length l) ⊎ (up_to comma l < length l) → dash (fields l) ≡ lone l
    go (inl e) = ap dash (pieces_last comma l e)
    go (inr h) =
        let rest = pieces comma (drop (up_to comma l + 1) l) in
        ap dash (pieces_more comma l h) ∙ dash_two (take (up_to comma l) l) rest (pieces_some comma (drop (up_to comma l + 1) l)) ∙ lone_go l (lone l) refl h

-- no number is `-`, with zeros before it or without them
number-lone : (f : List ℕ) → number f < not_number → lone f ≡ false
unfolding number number_in all_digits value_of
number-lone f h = go (lone f) refl
  where
    go : (t : Bool) → lone f ≡ t → lone f ≡ false
    go false e = e
    go true e = absurd (let h' : number (45 ∷ []) < not_number = rw (lone_line f e) at h in omega arith)

lone_same : (f g : List ℕ) → FieldPadded f g → lone g ≡ lone f
lone_same f g (same e) = ap lone e
lone_same f g (zeros z n w e) =
    let v : number g < not_number = rw (field_number f g (zeros z n w e)) n in
    number-lone g v ∙ sym (number-lone f n)

dash_same : (fs gs : List (List ℕ)) → Paired FieldPadded fs gs → dash gs ≡ dash fs
dash_same [] [] h = refl
dash_same [] (g ∷ gs) h = absurd h
dash_same (f ∷ fs) [] h = absurd h
dash_same (f ∷ fs) (g ∷ gs) (p, h) = rw (paired_length FieldPadded fs gs h, lone_same f g p)

facts_same : (l m : List ℕ) → LinePadded l m → facts_of m ≡ facts_of l
unfolding facts_of
facts_same l m h = rw (sym (lone-dash m) ∙ dash_same (fields l) (fields m) h ∙ lone-dash l, numbers_same (fields l) (fields m) h)

lines_same : (ls ms : List (List ℕ)) → Paired LinePadded ls ms → (k : ℕ) → read_lines k ms ≡ read_lines k ls
unfolding read_lines
lines_same [] [] h k = refl
lines_same [] (m ∷ ms) h k = absurd h
lines_same (l ∷ ls) [] h k = absurd h
lines_same (l ∷ ls) (m ∷ ms) (p, h) k = rw (facts_same l m p, lines_same ls ms h (k + 1))

-- a log with zeros before its facts reads as the log without them, whatever room is lent
pub padded_log : (text again : List ℕ) → TextPadded text again → length again ≤ byte_limit → (room : ℕ) → read_log again room ≡ read_log text room
unfolding read_log
padded_log text again p h room =
    rw (le-leb (length text) byte_limit (omega (arith, padded_length text again p)), le-leb (length again) byte_limit h, p.ends, lines_same (lines text) (lines again) p.each 0)
