-- A line taken apart field by field is the line by its list of fields.
use Prim.Native.Nat.{ℕ, suc, ◌+◌, ◌-◌, ◌≤◌, ◌<◌, min}
use mathlib.Core.Path.{◌≡◌, refl, ap, sym, ◌∙◌}
use mathlib.Core.List.{List, [], ◌∷◌}
use mathlib.Core.Logic.{◌⊎◌, inl, inr}
use native.Mathlib.Omega.{arith}
use lib.ListN.{length, get_or, take, drop}
use lib.Seq.{drop-drop}
use borrow.Author.Tests.{lt-ltb, le-ltb, le-leb, lt-leb}
use Rattle.std.proofs.Common.{unwrap_or}
use Rattle.text.specs.Text.{not_number, comma, fields, up_to, CutOf}
use Rattle.text.specs.declared.Cut.{Cut}
use Rattle.text.proofs.Fields.{fields_from, fields_start, fields_step}
use Rattle.sheet.specs.declared.line.Line.{Line}
use Rattle.sheet.specs.declared.line.Field.{Field}
use Rattle.sheet.specs.Questions.{letter_of, number_at, parsed}
use Rattle.sheet.specs.Room.{fields_after, FieldAfter}
use Rattle.sheet.proofs.Bools.{split}

pub letter_one : (l : List ℕ) → length l ≡ 1 → get_or l 0 0 ≡ letter_of l
letter_one [] h = refl
letter_one (b ∷ []) h = refl
letter_one (b ∷ c ∷ bs) h = absurd (omega arith)

pub letter_other : (l : List ℕ) → (length l ≡ 1 → ⊥) → 0 ≡ letter_of l
letter_other [] h = refl
letter_other (b ∷ []) h = absurd (h refl)
letter_other (b ∷ c ∷ bs) h = refl

pub after_none : (l : List ℕ) (at : ℕ) → length l ≤ at → fields_after l at ≡ []
after_none l at h = rw (le-ltb at (length l) h)

-- the fields after the comma at a place are those from the next place on
after_from : (l : List ℕ) (at : ℕ) → fields_after l at ≡ fields_from l (at + 1)
after_from l at = go (split (length l) at)
  where
    go : (length l ≤ at) ⊎ (at < length l) → fields_after l at ≡ fields_from l (at + 1)
    go (inl h) = rw (le-ltb at (length l) h, lt-leb (at + 1) (length l) (omega arith))
    go (inr h) = rw (lt-ltb at (length l) h, le-leb (at + 1) (length l) (omega arith))

pub after_some : (l : List ℕ) (at n : ℕ) → at < length l → n ≡ up_to comma (drop (at + 1) l) → fields_after l at ≡ take n (drop (at + 1) l) ∷ fields_after l (at + 1 + n)
after_some l at n h e =
    after_from l at
    ∙ fields_step l (at + 1) n (omega arith) e
    ∙ ap (λ (fs : List (List ℕ)). take n (drop (at + 1) l) ∷ fs) (sym (after_from l (at + 1 + n)))

-- the first field, and the fields after its comma
pub fields_first : (l : List ℕ) (n : ℕ) → n ≡ up_to comma l → fields l ≡ take n l ∷ fields_after l n
fields_first l n e =
    let z : 0 + n + 1 ≡ n + 1 = omega arith in
    sym (fields_start l)
    ∙ fields_step l 0 n (omega arith) e
    ∙ ap (λ (k : ℕ). take n l ∷ fields_from l k) z
    ∙ ap (λ (fs : List (List ℕ)). take n l ∷ fs) (sym (after_from l n))

-- a line by its first field and the others, of which the first four are numbers and the first five are counted
abbrev pub line_by : ℕ → List (List ℕ) → List (List ℕ) → List (List ℕ) → List (List ℕ) → List (List ℕ) → Line
line_by x f₁ f₂ f₃ f₄ f₅ =
    record {
      letter = x;
      count = min 1 (length f₁) + min 1 (length f₂) + min 1 (length f₃) + min 1 (length f₄) + min 1 (length f₅);
      a = number_at f₁ 0;
      b = number_at f₂ 0;
      c = number_at f₃ 0;
      d = number_at f₄ 0;
    }

one_there : (n : ℕ) → min 1 (suc n) ≡ 1
one_there n = omega arith

many : (p f₁ f₂ f₃ f₄ f₅ : List ℕ) (fs : List (List ℕ)) → line_by (letter_of p) (f₁ ∷ f₂ ∷ f₃ ∷ f₄ ∷ f₅ ∷ fs) (f₂ ∷ f₃ ∷ f₄ ∷ f₅ ∷ fs) (f₃ ∷ f₄ ∷ f₅ ∷ fs) (f₄ ∷ f₅ ∷ fs) (f₅ ∷ fs) ≡ parsed (p ∷ f₁ ∷ f₂ ∷ f₃ ∷ f₄ ∷ f₅ ∷ fs)
unfolding parsed
many p f₁ f₂ f₃ f₄ f₅ fs =
    let n = length fs in
    let m : min 5 (suc (suc (suc (suc (suc (suc n))))) - 1) ≡ 5 = omega arith in
    simp (
      m,
      one_there n,
      one_there (suc n),
      one_there (suc (suc n)),
      one_there (suc (suc (suc n))),
      one_there (suc (suc (suc (suc n)))),
      lt-ltb 0 (suc (suc (suc (suc (suc n))))) (omega arith),
      lt-ltb 0 (suc (suc (suc (suc n)))) (omega arith),
      lt-ltb 0 (suc (suc (suc n))) (omega arith),
      lt-ltb 0 (suc (suc n)) (omega arith),
      lt-ltb 1 (suc (suc (suc (suc (suc (suc n)))))) (omega arith),
      lt-ltb 2 (suc (suc (suc (suc (suc (suc n)))))) (omega arith),
      lt-ltb 3 (suc (suc (suc (suc (suc (suc n)))))) (omega arith),
      lt-ltb 4 (suc (suc (suc (suc (suc (suc n)))))) (omega arith),
    )

by_go : (p : List ℕ) (f : List (List ℕ)) → line_by (letter_of p) f (drop 1 f) (drop 2 f) (drop 3 f) (drop 4 f) ≡ parsed (p ∷ f)
unfolding parsed
by_go p [] = refl
by_go p (f₁ ∷ []) = refl
by_go p (f₁ ∷ f₂ ∷ []) = refl
by_go p (f₁ ∷ f₂ ∷ f₃ ∷ []) = refl
by_go p (f₁ ∷ f₂ ∷ f₃ ∷ f₄ ∷ []) = refl
by_go p (f₁ ∷ f₂ ∷ f₃ ∷ f₄ ∷ f₅ ∷ fs) = many p f₁ f₂ f₃ f₄ f₅ fs

-- the line of what is cut field by field
pub line-by : (l p : List ℕ) (f₁ f₂ f₃ f₄ f₅ : List (List ℕ)) → fields l ≡ p ∷ f₁ → f₂ ≡ drop 1 f₁ → f₃ ≡ drop 1 f₂ → f₄ ≡ drop 1 f₃ → f₅ ≡ drop 1 f₄
    → line_by (letter_of p) f₁ f₂ f₃ f₄ f₅ ≡ parsed (fields l)
line-by l p f₁ f₂ f₃ f₄ f₅ e e₂ e₃ e₄ e₅ =
    let d₃ : f₃ ≡ drop 2 f₁ = e₃ ∙ ap (drop 1) e₂ ∙ drop-drop 1 1 f₁ in
    let d₄ : f₄ ≡ drop 3 f₁ = e₄ ∙ ap (drop 1) d₃ ∙ drop-drop 1 2 f₁ in
    let d₅ : f₅ ≡ drop 4 f₁ = e₅ ∙ ap (drop 1) d₄ ∙ drop-drop 1 3 f₁ in
    rw (e, e₂, d₃, d₄, d₅) (by_go p f₁)

-- a field that is there, by its cut
pub field_some : (l : List ℕ) (at : ℕ) (c : Cut) (s : List ℕ) → at < length l → s ≡ drop (at + 1) l → CutOf s c → FieldAfter l at (record { there = 1; value = unwrap_or c.value not_number; end = at + 1 + c.end })
field_some l at c s h e k =
    let f = after_some l at c.end h (k.at ∙ ap (up_to comma) e) in
    record {
      there = rw f (sym (one_there (length (fields_after l (at + 1 + c.end)))));
      value = rw (f, lt-ltb 0 (suc (length (fields_after l (at + 1 + c.end)))) (omega arith), ← e) k.reads;
      rest = rw f;
    }

-- the line of five such fields
pub line_fields : (l : List ℕ) (n x : ℕ) (f₁ f₂ f₃ f₄ f₅ : Field) → fields l ≡ take n l ∷ fields_after l n → x ≡ letter_of (take n l)
    → FieldAfter l n f₁ → FieldAfter l f₁.end f₂ → FieldAfter l f₂.end f₃ → FieldAfter l f₃.end f₄ → FieldAfter l f₄.end f₅
    → record { letter = x; count = f₁.there + f₂.there + f₃.there + f₄.there + f₅.there; a = f₁.value; b = f₂.value; c = f₃.value; d = f₄.value } ≡ parsed (fields l)
line_fields l n x f₁ f₂ f₃ f₄ f₅ e h k₁ k₂ k₃ k₄ k₅ =
    rw (h, k₁.there, k₂.there, k₃.there, k₄.there, k₅.there, k₁.value, k₂.value, k₃.value, k₄.value)
    (line-by l (take n l) (fields_after l n) (fields_after l f₁.end) (fields_after l f₂.end) (fields_after l f₃.end) (fields_after l f₄.end) e k₁.rest k₂.rest k₃.rest k₄.rest)
