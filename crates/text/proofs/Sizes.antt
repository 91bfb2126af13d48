-- How many bytes the pieces of a text have, each with one that ends it: as many as the text, and one more where nothing ends the last.
use Prim.Native.Nat.{ℕ, suc, ◌+◌, ◌-◌, ◌≤◌}
use mathlib.Core.Path.{◌≡◌, refl, ap, sym, ◌∙◌}
use mathlib.Core.List.{List, [], ◌∷◌}
use mathlib.Core.Bool.{Bool, true, false, cond}
use native.Mathlib.Omega.{arith}
use lib.ListN.{length}
use lib.Dec.{eqb}
use Rattle.text.specs.Text.{lf, glue, pieces, lines, ends_in_lf}
use Rattle.text.proofs.Pieces.{piece_some, pieces_some}

-- how many bytes pieces have, each with one that ends it
abbrev pub size : List (List ℕ) → ℕ
size [] = 0
size (p ∷ ps) = suc (length p + size ps)

size_go : (b : ℕ) (ps : List (List ℕ)) (n : ℕ) (t : Bool) → 1 ≤ length ps → size ps ≡ n → size (cond t ([] ∷ ps) (glue b ps)) ≡ suc n
size_go b ps n true h e = omega arith
size_go b [] n false h e = absurd (omega arith)
size_go b (p ∷ ps) n false h e = omega arith

pub pieces-size : (sep : ℕ) (l : List ℕ) → size (pieces sep l) ≡ suc (length l)
unfolding pieces
pieces-size sep [] = refl
pieces-size sep (b ∷ bs) = size_go b (pieces sep bs) (suc (length bs)) (eqb b sep) (pieces_some sep bs) (pieces-size sep bs)

-- the last byte is that of the rest, where there is one
ends_rest : (b c : ℕ) (bs : List ℕ) → ends_in_lf (b ∷ c ∷ bs) ≡ ends_in_lf (c ∷ bs)
ends_rest b c bs =
    let m : length (b ∷ c ∷ bs) - 1 ≡ suc (length bs) = omega arith in
    let n : length (c ∷ bs) - 1 ≡ length bs = omega arith in
    rw (m, n)

lines_some : (b : ℕ) (bs : List ℕ) → 1 ≤ length (lines (b ∷ bs))
unfolding lines
lines_some b bs = piece_some b (lines bs) (eqb b lf)

one_go : (b : ℕ) (t : Bool) → size (cond t ([] ∷ []) (glue b [])) ≡ cond t 1 2
one_go b true = refl
one_go b false = refl

more_go : (n : ℕ) (t : Bool) → suc (cond t n (suc n)) ≡ cond t (suc n) (suc (suc n))
more_go n true = refl
more_go n false = refl

-- the lines of a text have its bytes, and one more where the last has no LF
pub lines-size : (b : ℕ) (bs : List ℕ) → size (lines (b ∷ bs)) ≡ cond (ends_in_lf (b ∷ bs)) (suc (length bs)) (suc (suc (length bs)))
unfolding lines
lines-size b [] = one_go b (eqb b lf)
lines-size b (c ∷ bs) =
    size_go b (lines (c ∷ bs)) (cond (ends_in_lf (c ∷ bs)) (suc (length bs)) (suc (suc (length bs)))) (eqb b lf) (lines_some c bs) (lines-size c bs)
    ∙ more_go (suc (length bs)) (ends_in_lf (c ∷ bs)) ∙ ap (λ (t : Bool). cond t (suc (suc (length bs))) (suc (suc (suc (length bs))))) (sym (ends_rest b c bs))

-- as many as the text has where it ends in LF
pub lines_bytes : (text : List ℕ) → ends_in_lf text ≡ true → size (lines text) ≡ length text
lines_bytes [] h = absurd (let z : ◌≡◌ {A = ℕ} 0 1 = cc in omega arith)
lines_bytes (b ∷ bs) h = lines-size b bs ∙ rw h
