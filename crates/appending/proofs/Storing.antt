-- Appending to a lent buffer: one byte, with room and without, and one call after the other.
use Prim.Native.Nat.{ℕ, suc, ◌+◌, ◌≤◌, ◌<◌}
use mathlib.Core.Path.{◌≡◌, refl, ap, sym, ◌∙◌}
use mathlib.Core.List.{List, [], ◌∷◌, ◌++◌, append-nil, append_assoc}
use native.Mathlib.Numerals.{add-one}
use native.Mathlib.Omega.{arith}
use lib.ListN.{length, get_or, take, drop, set, length-set, length-take, length-drop, length-append, drop_of_length-le}
use lib.Seq.{take_all, take-nil, take-append-le, drop-cons, append_snoc, set_at}
use Rattle.appending.specs.Appending.{printed_in, Stored, Appends}

-- the buffer keeps its length
pub printed_length : (page lent : List ℕ) → length (printed_in page lent) ≡ length lent
unfolding printed_in
printed_length page lent =
    length-append (take (length lent) page) (drop (length page) lent)
    ∙ omega (arith, length-take (length lent) page, length-drop (length page) lent)

stored_length : (page lent buffer : List ℕ) (at : ℕ) → Stored page lent buffer at → length buffer ≡ length lent
stored_length page lent buffer at s = ap length s.text ∙ printed_length page lent

-- a page that fits
pub printed_whole : (page lent : List ℕ) → length page ≤ length lent → printed_in page lent ≡ page ++ drop (length page) lent
unfolding printed_in
printed_whole page lent h = ap (λ (l : List ℕ). l ++ drop (length page) lent) (take_all (length lent) page h)

-- a page that does not fit, or just fits: what follows it is left out
printed_full : (page bytes lent : List ℕ) → length lent ≤ length page → printed_in (page ++ bytes) lent ≡ printed_in page lent
unfolding printed_in
printed_full page bytes lent h =
    let n = length-append page bytes in
    let a : drop (length (page ++ bytes)) lent ≡ [] = drop_of_length-le lent {i = length (page ++ bytes)} (omega (arith, n)) in
    let b : drop (length page) lent ≡ [] = drop_of_length-le lent h in
    rw (a, b, take-append-le (length lent) page bytes h)

module _ (buffer : List ℕ) (at b : ℕ) where
  -- a byte where there is room
  pub appends_byte : at < length buffer → Appends (b ∷ []) buffer at (set buffer at b) (at + 1)
  appends_byte h =
      record {
        size = length-set buffer at b;
        goes = λ page lent s.
            let n : length buffer ≡ length lent = stored_length page lent buffer at s in
            let p : length page ≡ at = omega (arith, s.place) in
            let l : length (page ++ (b ∷ [])) ≡ at + 1 = length-append page (b ∷ []) ∙ ap (λ (k : ℕ). k + 1) p in
            let r : length page < length lent = omega arith in
            record {
              place = omega arith;
              text =
                  ap (λ (o : List ℕ). set o at b) (s.text ∙ printed_whole page lent (omega arith) ∙ ap (λ (k : List ℕ). page ++ k) (drop-cons lent (length page) 0 r))
                  ∙ set_at page (get_or lent (length page) 0) (drop (suc (length page)) lent) b at p
                  ∙ sym (append_snoc page b (drop (suc (length page)) lent))
                  ∙ ap (λ (k : ℕ). page ++ (b ∷ []) ++ drop k lent) (sym (l ∙ add-one at ∙ ap suc (sym p)))
                  ∙ sym (printed_whole (page ++ (b ∷ [])) lent (omega arith));
            };
      }

  -- a byte where there is none
  pub appends_full : length buffer ≤ at → Appends (b ∷ []) buffer at buffer at
  appends_full h =
      record {
        size = refl;
        goes = λ page lent s.
            let n : length buffer ≡ length lent = stored_length page lent buffer at s in
            let r : length lent ≤ length page = omega (arith, s.place) in
            record {
              place = omega (arith, s.place, length-append page (b ∷ []));
              text = s.text ∙ sym (printed_full page (b ∷ []) lent r);
            };
      }

-- no byte
pub appends_none : (buffer : List ℕ) (at : ℕ) → Appends [] buffer at buffer at
appends_none buffer at = record { size = refl; goes = λ page lent s. rw append-nil s }

-- one call after the other
pub appends_then : {p q b₀ b₁ b₂ : List ℕ} {a₀ a₁ a₂ : ℕ} → Appends p b₀ a₀ b₁ a₁ → Appends q b₁ a₁ b₂ a₂ → Appends (p ++ q) b₀ a₀ b₂ a₂
appends_then {p} {q} x y = record { size = y.size ∙ x.size; goes = λ page lent s. rw (← append_assoc) (y.goes (page ++ p) lent (x.goes page lent s)) }

-- the same bytes
pub appends_same : {p q b₀ b₁ : List ℕ} {a₀ a₁ : ℕ} → p ≡ q → Appends p b₀ a₀ b₁ a₁ → Appends q b₀ a₀ b₁ a₁
appends_same e x = rw e at x

-- the whole page, from the first place on
pub appends_whole : (page lent after : List ℕ) (next : ℕ) → Appends page lent 0 after next → Stored page lent after next
unfolding printed_in
appends_whole page lent after next x = x.goes [] lent (record { place = omega arith; text = sym (ap (λ (l : List ℕ). l ++ lent) (take-nil (length lent))) })
