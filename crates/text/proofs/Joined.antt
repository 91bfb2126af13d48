-- Texts put together: pieces and lines joined by their separators are read back as they were.
use Prim.Native.Nat.{ℕ, zero, suc, ◌+◌, ◌-◌}
use mathlib.Core.Path.{◌≡◌, refl, ap, ◌∙◌}
use mathlib.Core.List.{List, [], ◌∷◌, ◌++◌}
use mathlib.Core.Bool.{Bool, true, false, cond}
use native.Mathlib.Omega.{arith}
use lib.ListN.{length, drop, length-append}
use lib.Seq.{get_or-append-add}
use lib.Dec.{eqb}
use borrow.Author.Tests.{eq-eqb}
use Rattle.text.specs.Text.{lf, pieces, lines, glue, up_to, ends_in_lf}

cut_go : (b : ℕ) (p : List ℕ) (q ps : List (List ℕ)) (n : ℕ) → (n ≡ length p → ps ≡ p ∷ q) → (t : Bool) → cond t 0 (suc n) ≡ suc (length p) → cond t ([] ∷ ps) (glue b ps) ≡ (b ∷ p) ∷ q
cut_go b p q ps n f true h = absurd (omega arith)
cut_go b p q ps n f false h = rw (f (omega arith))

-- a piece without the separator, then the separator, then the rest
pub pieces_cut : (sep : ℕ) (p q : List ℕ) → up_to sep p ≡ length p → pieces sep (p ++ sep ∷ q) ≡ p ∷ pieces sep q
unfolding pieces up_to
pieces_cut sep [] q e = rw (eq-eqb sep sep refl)
pieces_cut sep (b ∷ p) q e = cut_go b p (pieces sep q) (pieces sep (p ++ sep ∷ q)) (up_to sep p) (pieces_cut sep p q) (eqb b sep) e

-- a line, then its LF, then the lines after it
pub lines_cut : (p q : List ℕ) → up_to lf p ≡ length p → lines (p ++ lf ∷ q) ≡ p ∷ lines q
unfolding lines up_to
lines_cut [] q e = refl
lines_cut (b ∷ p) q e = cut_go b p (lines q) (lines (p ++ lf ∷ q)) (up_to lf p) (lines_cut p q) (eqb b lf) e

suc_of : (t : Bool) (n k : ℕ) → cond t 0 (suc n) ≡ suc k → (t ≡ false) × (n ≡ k)
suc_of true n k e = absurd (omega arith)
suc_of false n k e = (refl, omega arith)

-- texts without a separator, joined, have none
pub free_append : (sep : ℕ) (p q : List ℕ) → up_to sep p ≡ length p → up_to sep q ≡ length q → up_to sep (p ++ q) ≡ length (p ++ q)
unfolding up_to
free_append sep [] q e f = f
free_append sep (b ∷ p) q e f =
    let x = suc_of (eqb b sep) (up_to sep p) (length p) e in
    rw (x.0, free_append sep p q x.1 f)

-- the last byte of a joined text is the last byte of its second part
pub ends_append : (p : List ℕ) (b : ℕ) (q : List ℕ) → ends_in_lf (b ∷ q) ≡ true → ends_in_lf (p ++ b ∷ q) ≡ true
ends_append p b q e =
    let n : length (p ++ b ∷ q) - 1 ≡ length p + (length (b ∷ q) - 1) = omega (arith, length-append p (b ∷ q)) in
    rw n (ap (λ (x : ℕ). eqb x lf) (get_or-append-add p (b ∷ q) (length (b ∷ q) - 1) 0) ∙ e)

-- what is left of a text without a separator has none
pub free_drop : (sep n : ℕ) (l : List ℕ) → up_to sep l ≡ length l → up_to sep (drop n l) ≡ length (drop n l)
unfolding up_to
free_drop sep zero l e = e
free_drop sep (suc n) [] e = e
free_drop sep (suc n) (b ∷ bs) e = free_drop sep n bs (suc_of (eqb b sep) (up_to sep bs) (length bs) e).1

-- lines without an LF in them
abbrev pub Free : List (List ℕ) → Type 0
Free [] = Unit {0}
Free (l ∷ ls) = (up_to lf l ≡ length l) × Free ls

free_go : (b : ℕ) (ls : List (List ℕ)) (t : Bool) → eqb b lf ≡ t → Free ls → Free (cond t ([] ∷ ls) (glue b ls))
unfolding up_to
free_go b ls true e h = (refl, h)
free_go b [] false e h = (rw e, tt)
free_go b (l ∷ ls) false e h = (rw (e, h.0), h.1)

-- are those of every text
pub lines_free : (text : List ℕ) → Free (lines text)
unfolding lines
lines_free [] = tt
lines_free (b ∷ bs) = free_go b (lines bs) (eqb b lf) refl (lines_free bs)
