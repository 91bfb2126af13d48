-- How far a separator stands, by the place where it is first, and a text's first piece with the pieces after it.
use Prim.Native.Nat.{ℕ, zero, suc, ◌+◌, ◌≤◌, ◌<◌}
use mathlib.Core.Path.{◌≡◌, refl}
use mathlib.Core.List.{List, [], ◌∷◌}
use mathlib.Core.Bool.{Bool, true, false, cond}
use native.Mathlib.Numerals.{add-one}
use native.Mathlib.Omega.{arith}
use lib.ListN.{length, get_or, take, drop}
use lib.Dec.{eqb}
use borrow.Author.Tests.{eq-eqb, ltb-false}
use Rattle.std.proofs.Common.{◌==◌, ltb, unwrap_or, position, Some, None}
use Rattle.std.specs.List.{position_or_len}
use Rattle.std.proofs.lemmas.List.Recursion.{is_position_or_len}
use Rattle.text.specs.Text.{pieces, glue, up_to}

le_go : (n m : ℕ) → n ≤ m → (t : Bool) → cond t 0 (suc n) ≤ suc m
le_go n m h true = omega arith
le_go n m h false = omega arith

pub up_to-le : (sep : ℕ) (l : List ℕ) → up_to sep l ≤ length l
unfolding up_to
up_to-le sep [] = omega arith
up_to-le sep (b ∷ bs) = le_go (up_to sep bs) (length bs) (up_to-le sep bs) (eqb b sep)

position_go : (n m : ℕ) → n ≤ m → (t : Bool) → ltb n m ≡ t → unwrap_or (cond t (Some n) None) m ≡ n
position_go n m h true e = refl
position_go n m h false e = omega (arith, ltb-false n m e)

-- it is the place of the first separator, or the text's length where there is none
pub up_to_position : (sep : ℕ) (l : List ℕ) → unwrap_or (position (λ b. b == sep) l) (length l) ≡ up_to sep l
unfolding up_to
up_to_position sep l =
    let e : up_to sep l ≡ position_or_len (λ b. b == sep) l = is_position_or_len (up_to sep) (λ b. b == sep) refl (λ b bs. let h : 1 + up_to sep bs ≡ suc (up_to sep bs) = omega arith in rw h) l in
    rw (← e) (position_go (up_to sep l) (length l) (up_to-le sep l) (ltb (up_to sep l) (length l)) refl)

at_go : (b sep n i : ℕ) → ((j : ℕ) → i ≡ suc j → n ≤ j) → (i ≡ 0 → b ≡ sep) → (t : Bool) → eqb b sep ≡ t → cond t 0 (suc n) ≤ i
at_go b sep n i f g true e = omega arith
at_go b sep n zero f g false e = absurd (let y : ◌≡◌ {A = ℕ} 0 1 = bad in omega arith)
  where
    bad : ◌≡◌ {A = ℕ} 0 1
    bad = cc (eq-eqb b sep (g refl))
at_go b sep n (suc j) f g false e = omega (arith, f j refl)

-- a separator at place i stands no farther than i
pub up_to_at : (sep : ℕ) (l : List ℕ) (i : ℕ) → i < length l → get_or l i 0 ≡ sep → up_to sep l ≤ i
unfolding up_to
up_to_at sep [] i h e = absurd (omega arith)
up_to_at sep (b ∷ bs) zero h e = at_go b sep (up_to sep bs) 0 (λ j y. absurd (omega arith)) (λ y. e) (eqb b sep) refl
up_to_at sep (b ∷ bs) (suc i) h e = at_go b sep (up_to sep bs) (suc i) (λ j y. omega (arith, up_to_at sep bs i (omega arith) e)) (λ y. absurd (omega arith)) (eqb b sep) refl

last_go : (b : ℕ) (bs : List ℕ) (ps : List (List ℕ)) (n : ℕ) → (n ≡ length bs → ps ≡ bs ∷ []) → (t : Bool) → cond t 0 (suc n) ≡ suc (length bs) → cond t ([] ∷ ps) (glue b ps) ≡ (b ∷ bs) ∷ []
last_go b bs ps n f true h = absurd (omega arith)
last_go b bs ps n f false h = rw (f (omega arith))

-- a text without the separator is one piece
pub pieces_last : (sep : ℕ) (l : List ℕ) → up_to sep l ≡ length l → pieces sep l ≡ l ∷ []
unfolding up_to pieces
pieces_last sep [] e = refl
pieces_last sep (b ∷ bs) e = last_go b bs (pieces sep bs) (up_to sep bs) (pieces_last sep bs) (eqb b sep) e

more_go : (sep b : ℕ) (bs : List ℕ) (n : ℕ) → (n < length bs → pieces sep bs ≡ take n bs ∷ pieces sep (drop (n + 1) bs)) → (t : Bool) → cond t 0 (suc n) < suc (length bs)
    → cond t ([] ∷ pieces sep bs) (glue b (pieces sep bs)) ≡ take (cond t 0 (suc n)) (b ∷ bs) ∷ pieces sep (drop (cond t 0 (suc n) + 1) (b ∷ bs))
more_go sep b bs n f true h = refl
more_go sep b bs n f false h = rw (f (omega arith), add-one (suc n), add-one n)

-- a text with a separator is its first piece, and the pieces after that separator
pub pieces_more : (sep : ℕ) (l : List ℕ) → up_to sep l < length l → pieces sep l ≡ take (up_to sep l) l ∷ pieces sep (drop (up_to sep l + 1) l)
unfolding up_to pieces
pieces_more sep [] h = absurd (omega arith)
pieces_more sep (b ∷ bs) h = more_go sep b bs (up_to sep bs) (pieces_more sep bs) (eqb b sep) h

-- with a byte more there is a piece at least
pub piece_some : (b : ℕ) (ps : List (List ℕ)) (t : Bool) → 1 ≤ length (cond t ([] ∷ ps) (glue b ps))
piece_some b ps true = omega arith
piece_some b [] false = omega arith
piece_some b (p ∷ ps) false = omega arith

-- and so there always is
pub pieces_some : (sep : ℕ) (l : List ℕ) → 1 ≤ length (pieces sep l)
unfolding pieces
pieces_some sep [] = omega arith
pieces_some sep (b ∷ bs) = piece_some b (pieces sep bs) (eqb b sep)
