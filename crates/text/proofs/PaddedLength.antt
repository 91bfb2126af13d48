-- A text with zeros before its numbers is no shorter than without them: counted over its fields, its lines and the bytes that end them.
use Prim.Native.Nat.{ℕ, suc, ◌≤◌}
use mathlib.Core.Path.{◌≡◌, ap, sym, ◌∙◌}
use mathlib.Core.List.{List, [], ◌∷◌}
use mathlib.Core.Bool.{Bool, true, false, cond}
use native.Mathlib.Omega.{arith}
use lib.ListN.{length, replicate, length-append}
use Rattle.text.specs.Text.{comma, lines, fields, ends_in_lf}
use Rattle.text.specs.Padded.{FieldPadded, same, zeros, Paired, LinePadded, TextPadded}
use Rattle.text.proofs.Sizes.{size, pieces-size, lines-size}

paired_size : (R : List ℕ → List ℕ → Type 0) → ((x y : List ℕ) → R x y → length x ≤ length y) → (xs ys : List (List ℕ)) → Paired R xs ys → size xs ≤ size ys
paired_size R f [] [] h = omega arith
paired_size R f (x ∷ xs) (y ∷ ys) (r, h) = omega (arith, f x y r, paired_size R f xs ys h)
paired_size R f [] (y ∷ ys) h = absurd h
paired_size R f (x ∷ xs) [] h = absurd h

field_longer : (f g : List ℕ) → FieldPadded f g → length f ≤ length g
field_longer f g (same e) = omega (arith, ap length e)
field_longer f g (zeros z n w e) = omega (arith, ap length e, length-append (replicate z 48) f)

line_longer : (l m : List ℕ) → LinePadded l m → length l ≤ length m
line_longer l m h = omega (arith, paired_size FieldPadded field_longer (fields l) (fields m) h, pieces-size comma l, pieces-size comma m)

text_go : (n m : ℕ) (t : Bool) → cond t (suc n) (suc (suc n)) ≤ cond t (suc m) (suc (suc m)) → n ≤ m
text_go n m true h = omega arith
text_go n m false h = omega arith

none_go : (n : ℕ) (t : Bool) → cond t (suc n) (suc (suc n)) ≤ 0 → ⊥
none_go n true h = omega arith
none_go n false h = omega arith

-- with zeros before its numbers a text is no shorter
pub padded_length : (text again : List ℕ) → TextPadded text again → length text ≤ length again
unfolding lines
padded_length [] again p = omega arith
padded_length (b ∷ bs) [] p = absurd (none_go (length bs) (ends_in_lf (b ∷ bs)) (rw (sym (lines-size b bs)) (paired_size LinePadded line_longer (lines (b ∷ bs)) [] p.each)))
padded_length (b ∷ bs) (c ∷ cs) p =
    let s = paired_size LinePadded line_longer (lines (b ∷ bs)) (lines (c ∷ cs)) p.each in
    let e : size (lines (c ∷ cs)) ≡ cond (ends_in_lf (b ∷ bs)) (suc (length cs)) (suc (suc (length cs))) = lines-size c cs ∙ ap (λ (t : Bool). cond t (suc (length cs)) (suc (suc (length cs)))) p.ends in
    let w = text_go (length bs) (length cs) (ends_in_lf (b ∷ bs)) (rw (sym (lines-size b bs), sym e) s) in
    omega arith
