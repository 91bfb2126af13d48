-- The lines of a text, one at a time from a place on: the line there, and the lines after it.
use Prim.Native.Nat.{ℕ, suc, ◌+◌, ◌-◌, ◌≤◌, ◌<◌}
use mathlib.Core.Path.{◌≡◌, refl, ap, sym, ◌∙◌}
use mathlib.Core.List.{List, [], ◌∷◌}
use mathlib.Core.Bool.{Bool, true, false, cond}
use native.Mathlib.Numerals.{add-one}
use native.Mathlib.Omega.{arith}
use lib.ListN.{length, get_or, take, drop, length-drop, drop_of_length-le}
use lib.Seq.{get_or-drop, drop-drop, length-take-le}
use lib.Dec.{eqb}
use borrow.Author.Tests.{eqb-true}
use Rattle.text.specs.Text.{lf, lines, glue, up_to, ends_in_lf, line_at}
use Rattle.text.proofs.Pieces.{up_to-le, up_to_at}

pub ends_none : (l : List ℕ) → length l ≡ 0 → false ≡ ends_in_lf l
ends_none [] h = refl
ends_none (b ∷ bs) h = absurd (omega arith)

step_go : (b : ℕ) (bs : List ℕ) (n : ℕ) → n ≡ up_to lf bs → (0 < length bs → lines bs ≡ take n bs ∷ lines (drop (n + 1) bs)) → (t : Bool)
    → cond t ([] ∷ lines bs) (glue b (lines bs)) ≡ take (cond t 0 (suc n)) (b ∷ bs) ∷ lines (drop (cond t 0 (suc n) + 1) (b ∷ bs))
unfolding lines up_to
step_go b bs n e f true = refl
step_go b [] n e f false = rw e
step_go b (c ∷ cs) n e f false = rw (f (omega arith), add-one (suc n), add-one n)

-- a text that is not empty is its first line, and the lines after it
pub lines_step : (l : List ℕ) → 0 < length l → lines l ≡ take (up_to lf l) l ∷ lines (drop (up_to lf l + 1) l)
unfolding lines up_to
lines_step [] h = absurd (omega arith)
lines_step (b ∷ bs) h = step_go b bs (up_to lf bs) refl (lines_step bs) (eqb b lf)

-- at the end, and past it, there is no line
pub lines_end : (text : List ℕ) (at : ℕ) → length text ≤ at → lines (drop at text) ≡ []
unfolding lines
lines_end text at h = rw (drop_of_length-le text h)

pub line_length : (text : List ℕ) (at : ℕ) → length (line_at text at) ≡ up_to lf (drop at text)
line_length text at = length-take-le (up_to lf (drop at text)) (drop at text) (up_to-le lf (drop at text))

-- before the end of a text that ends in LF stands an LF
pub lf_below : (text : List ℕ) (at : ℕ) → ends_in_lf text ≡ true → at < length text → up_to lf (drop at text) < length (drop at text)
lf_below text at e h =
    let i = length text - 1 - at in
    let n = length-drop at text in
    let s : at + i ≡ length text - 1 = omega arith in
    let g : get_or (drop at text) i 0 ≡ lf = get_or-drop at text i 0 ∙ ap (λ (k : ℕ). get_or text k 0) s ∙ eqb-true (get_or text (length text - 1) 0) lf e in
    let u = up_to_at lf (drop at text) i (omega arith) g in
    omega arith

-- the line at a place before the text's end, as a list of its own
module _ (text : List ℕ) (at : ℕ) (line : List ℕ) (h : at < length text) (w : line ≡ line_at text at) where
  -- the line and the lines after it
  pub lines_at : lines (drop at text) ≡ line ∷ lines (drop (at + length line + 1) text)
  lines_at =
      let s : at + (up_to lf (drop at text) + 1) ≡ at + length line + 1 = omega (arith, ap length w, line_length text at) in
      let d : drop (up_to lf (drop at text) + 1) (drop at text) ≡ drop (at + length line + 1) text = drop-drop (up_to lf (drop at text) + 1) at text ∙ ap (λ (k : ℕ). drop k text) s in
      lines_step (drop at text) (omega (arith, length-drop at text))
      ∙ ap (λ (x : List ℕ). x ∷ lines (drop (up_to lf (drop at text) + 1) (drop at text))) (sym w)
      ∙ ap (λ (x : List ℕ). line ∷ lines x) d

  -- the line lies inside the text
  pub line_within : at + length line ≤ length text
  line_within = omega (arith, ap length w, line_length text at, up_to-le lf (drop at text), length-drop at text)

  -- and so does its LF, where the text ends in LF
  pub line_inside : ends_in_lf text ≡ true → at + length line + 1 ≤ length text
  line_inside e = omega (arith, ap length w, line_length text at, lf_below text at e h, length-drop at text)
