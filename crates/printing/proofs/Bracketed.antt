-- A text in brackets around the texts of one node or of two: appended piece by piece, and how many bytes it has.
use Prim.Native.Nat.{ℕ, ◌+◌, ◌-◌, ◌≤◌, ◌<◌, min}
use mathlib.Core.Path.{◌≡◌, sym, ap, ap₂, ◌∙◌}
use mathlib.Core.Logic.{⊎_elim}
use mathlib.Core.List.{List, [], ◌∷◌, ◌++◌, append_assoc}
use native.Mathlib.Omega.{arith}
use borrow.Author.Tests.{lt-ltb, le-ltb, le-leb, lt-leb}
use lib.Dec.{leb, ltb}
use lib.ListN.{length, length-append}
use Rattle.aldlf.proofs.Bools.{lt-or-le}
use Rattle.appending.specs.Appending.{Appends}
use Rattle.appending.proofs.Storing.{appends_then, appends_same}
use Rattle.printing.specs.Print.{bracketed}
use Rattle.printing.specs.Measure.{last_place}

pub appends_one : {p x b₀ b₁ b₂ b₃ b₄ : List ℕ} {a₀ a₁ a₂ a₃ a₄ : ℕ}
    → Appends (40 ∷ []) b₀ a₀ b₁ a₁ → Appends p b₁ a₁ b₂ a₂ → Appends x b₂ a₂ b₃ a₃ → Appends (41 ∷ []) b₃ a₃ b₄ a₄ → Appends (bracketed (p ++ x)) b₀ a₀ b₄ a₄
appends_one {p} {x} o m n c = appends_same (ap (λ (l : List ℕ). 40 ∷ l) (sym (append_assoc p x (41 ∷ [])))) (appends_then o (appends_then m (appends_then n c)))

pub appends_two : {x y b₀ b₁ b₂ b₃ b₄ b₅ : List ℕ} {s a₀ a₁ a₂ a₃ a₄ a₅ : ℕ}
    → Appends (40 ∷ []) b₀ a₀ b₁ a₁ → Appends x b₁ a₁ b₂ a₂ → Appends (s ∷ []) b₂ a₂ b₃ a₃ → Appends y b₃ a₃ b₄ a₄ → Appends (41 ∷ []) b₄ a₄ b₅ a₅
    → Appends (bracketed (x ++ (s ∷ y))) b₀ a₀ b₅ a₅
appends_two {x} {y} {s = s} o m p n c = appends_same (ap (λ (l : List ℕ). 40 ∷ l) (sym (append_assoc x (s ∷ y) (41 ∷ [])))) (appends_then o (appends_then m (appends_then p (appends_then n c))))

one_length : (p x : List ℕ) → length (bracketed (p ++ x)) ≡ length p + length x + 2
one_length p x = omega (arith, length-append (p ++ x) (41 ∷ []), length-append p x)

two_length : (x y : List ℕ) (s : ℕ) → length (bracketed (x ++ (s ∷ y))) ≡ length x + length y + 3
two_length x y s = omega (arith, length-append (x ++ (s ∷ y)) (41 ∷ []), length-append x (s ∷ y))

two_places : (a b c : ℕ) → 1 ≤ a → 1 ≤ b → c ≡ a + b + 3 → a - 1 + (b - 1) + 4 ≡ c - 1
two_places a b c some some' e = omega arith

-- the last places of such texts, from those of the texts within: a cap on a part is none on the whole
module _ (room : ℕ) where
  capped_more : (x n : ℕ) → min (min x room + n) room ≡ min (x + n) room
  capped_more x n = omega arith

  capped_sum : (x y : ℕ) → min (min x room + min y room) room ≡ min (x + y) room
  capped_sum x y = omega arith

  pub last_one : (p x text : List ℕ) (a r : ℕ) → text ≡ bracketed (p ++ x) → 1 ≤ length x → a ≡ last_place room x → r ≡ min (a + (length p + 2)) room → r ≡ last_place room text
  last_one p x text a r e some la lr =
      let n : length x - 1 + (length p + 2) ≡ length text - 1 = omega (arith, ap length e, one_length p x) in
      lr ∙ ap (λ (z : ℕ). min (z + (length p + 2)) room) la ∙ capped_more (length x - 1) (length p + 2) ∙ ap (λ (z : ℕ). min z room) n

  pub last_two : (x y text : List ℕ) (s a b c r : ℕ) → text ≡ bracketed (x ++ (s ∷ y)) → 1 ≤ length x → 1 ≤ length y → a ≡ last_place room x → b ≡ last_place room y
      → c ≡ min (a + b) room → r ≡ min (c + 4) room → r ≡ last_place room text
  last_two x y text s a b c r e some some' la lb lc lr =
      let n : length x - 1 + (length y - 1) + 4 ≡ length text - 1 = two_places (length x) (length y) (length text) some some' (ap length e ∙ two_length x y s) in
      lr
      ∙ ap (λ (z : ℕ). min (z + 4) room) (lc ∙ ap₂ (λ (u v : ℕ). min (u + v) room) la lb ∙ capped_sum (length x - 1) (length y - 1))
      ∙ capped_more (length x - 1 + (length y - 1)) 4
      ∙ ap (λ (z : ℕ). min z room) n

  -- a text that is not empty fits exactly where its last place is one of the buffer
  pub last_fits : (text : List ℕ) (a : ℕ) → 1 ≤ length text → a ≡ last_place room text → ltb a room ≡ leb (length text) room
  last_fits text a some e = ⊎_elim
      (λ (h : room < length text). le-ltb a room (omega arith) ∙ sym (lt-leb (length text) room h))
      (λ h. lt-ltb a room (omega arith) ∙ sym (le-leb (length text) room h))
      (lt-or-le room (length text))
