-- Bytes at places of a text, and parts of a text from a place to a place: put together and taken apart, byte by byte.
use Prim.Native.Nat.{ℕ, zero, suc, ◌+◌, ◌-◌, ◌≤◌, ◌<◌}
use native.Mathlib.Omega.{arith}
use mathlib.Core.Path.{◌≡◌, refl, ap, sym, ◌∙◌}
use mathlib.Core.List.{List, [], ◌∷◌, ◌++◌}
use mathlib.Core.Logic.{◌⊎◌, inl, inr}
use mathlib.Core.Bool.{Bool, true, false, cond}
use lib.Dec.{ltb}
use lib.ListN.{length, get_or, take, length-append, get_or-append}
use lib.Seq.{ext_get_or, get_or-take, length-take-le, get_or-append-add}
use borrow.Author.Tests.{lt-ltb, le-ltb, ltb-true}
use Rattle.sheet.proofs.Bools.{split}
use Rattle.formula.specs.Parse.{byte}

-- a byte in the text, past its end, and one that is no end
pub byte_in : (text : List ℕ) (at : ℕ) → at < length text → byte text at ≡ get_or text at 0
unfolding byte
byte_in text at h = rw (lt-ltb at (length text) h)

pub byte_out : (text : List ℕ) (at : ℕ) → length text ≤ at → byte text at ≡ 256
unfolding byte
byte_out text at h = rw (le-ltb at (length text) h)

pub byte_there : (text : List ℕ) (at b : ℕ) → byte text at ≡ b → b < 256 → at < length text
unfolding byte
byte_there text at b e l = go (ltb at (length text)) refl e
  where
    go : (t : Bool) → ltb at (length text) ≡ t → cond t (get_or text at 0) 256 ≡ b → at < length text
    go true q e = ltb-true at (length text) q
    go false q e = absurd (omega arith)

module _ (text : List ℕ) where
  -- u is what stands from place `at` up to place `to`
  pub record Slice (at : ℕ) (u : List ℕ) (to : ℕ) : Type 0 where
    pub end : to ≡ at + length u
    pub inside : (z : ℕ) → z < length u → at + z < length text
    pub bytes : (z : ℕ) → z < length u → byte text (at + z) ≡ get_or u z 0

  pub slice_none : (at : ℕ) → Slice at [] at
  slice_none at = record { end = omega arith; inside = λ z h. absurd (omega arith); bytes = λ z h. absurd (omega arith) }

  pub slice_cons : (at b to : ℕ) (u : List ℕ) → byte text at ≡ b → b < 256 → Slice (at + 1) u to → Slice at (b ∷ u) to
  slice_cons at b to u e l s = record { end = (let q = s.end in omega arith); inside = within; bytes = go }
    where
      within : (z : ℕ) → z < suc (length u) → at + z < length text
      within zero h = let q = byte_there text at b e l in omega arith
      within (suc z) h = let q = s.inside z (omega arith) in omega arith

      go : (z : ℕ) → z < suc (length u) → byte text (at + z) ≡ get_or (b ∷ u) z 0
      go zero h = ap (λ (y : ℕ). byte text y) (let q : at + 0 ≡ at = omega arith in q) ∙ e
      go (suc z) h = ap (λ (y : ℕ). byte text y) (let q : at + suc z ≡ at + 1 + z = omega arith in q) ∙ s.bytes z (omega arith)

  -- its first byte and the rest
  pub head_of : (b : ℕ) (u : List ℕ) (at to : ℕ) → Slice at (b ∷ u) to → byte text at ≡ b
  head_of b u at to s = ap (λ (y : ℕ). byte text y) (let q : at ≡ at + 0 = omega arith in q) ∙ s.bytes 0 (omega arith)

  pub head_in : (b : ℕ) (u : List ℕ) (at to : ℕ) → Slice at (b ∷ u) to → at < length text
  head_in b u at to s = let q = s.inside 0 (omega arith) in omega arith

  pub tail_of : (b : ℕ) (u : List ℕ) (at to : ℕ) → Slice at (b ∷ u) to → Slice (at + 1) u to
  tail_of b u at to s =
      record {
        end = (let q = s.end in omega arith);
        inside = λ z h. let q = s.inside (suc z) (omega arith) in omega arith;
        bytes = λ z h. ap (λ (y : ℕ). byte text y) (let q : at + 1 + z ≡ at + suc z = omega arith in q) ∙ s.bytes (suc z) (omega arith);
      }

  pub slice_append : (u w : List ℕ) (at m to : ℕ) → Slice at u m → Slice m w to → Slice at (u ++ w) to
  slice_append u w at m to s r =
      record {
        end = (let q = s.end in let p = r.end in let l = length-append u w in omega arith);
        inside = λ z h. (let l = length-append u w in within z (split (length u) z) (omega arith));
        bytes = λ z h. (let l = length-append u w in go z (split (length u) z) (omega arith));
      }
    where
      within : (z : ℕ) → (length u ≤ z) ⊎ (z < length u) → z < length u + length w → at + z < length text
      within z (inl h) k = let q = s.end in let p = r.inside (z - length u) (omega arith) in omega arith
      within z (inr h) k = s.inside z h

      go : (z : ℕ) → (length u ≤ z) ⊎ (z < length u) → z < length u + length w → byte text (at + z) ≡ get_or (u ++ w) z 0
      go z (inl h) k =
          let q = s.end in
          ap (λ (y : ℕ). byte text y) (let e : at + z ≡ m + (z - length u) = omega arith in e) ∙ r.bytes (z - length u) (omega arith)
          ∙ sym (get_or-append-add u w (z - length u) 0) ∙ ap (λ (y : ℕ). get_or (u ++ w) y 0) (let e : length u + (z - length u) ≡ z = omega arith in e)
      go z (inr h) k = s.bytes z h ∙ sym (get_or-append u w 0 z h)

  -- its first part and its last part
  pub split_left : (u w : List ℕ) (at to : ℕ) → Slice at (u ++ w) to → Slice at u (at + length u)
  split_left u w at to s =
      let l = length-append u w in
      record { end = refl; inside = λ z h. s.inside z (omega arith); bytes = λ z h. s.bytes z (omega arith) ∙ get_or-append u w 0 z h }

  pub split_right : (u w : List ℕ) (at to : ℕ) → Slice at (u ++ w) to → Slice (at + length u) w to
  split_right u w at to s =
      let l = length-append u w in
      record {
        end = (let q = s.end in omega arith);
        inside = λ z h. let q = s.inside (length u + z) (omega arith) in omega arith;
        bytes = λ z h.
            ap (λ (y : ℕ). byte text y) (let q : at + length u + z ≡ at + (length u + z) = omega arith in q) ∙ s.bytes (length u + z) (omega arith) ∙ get_or-append-add u w z 0;
      }

  pub slice_one : (at b : ℕ) → byte text at ≡ b → b < 256 → Slice at (b ∷ []) (at + 1)
  slice_one at b e l = slice_cons at b (at + 1) [] e l (slice_none (at + 1))

  -- the whole text; what stands from the start on
  pub slice_all : Slice 0 text (length text)
  slice_all = record { end = omega arith; inside = λ z h. omega arith; bytes = λ z h. ap (λ (y : ℕ). byte text y) (let q : 0 + z ≡ z = omega arith in q) ∙ byte_in text z h }

  pub slice_end : (at : ℕ) (u : List ℕ) (to : ℕ) → at ≤ length text → Slice at u to → to ≤ length text
  slice_end at [] to l s = let q = s.end in omega arith
  slice_end at (b ∷ u) to l s = let q = s.end in let h = s.inside (length u) (omega arith) in omega arith

  pub slice_take : (u : List ℕ) (x : ℕ) → Slice 0 u x → take x text ≡ u
  slice_take u x s =
      let q = s.end in
      let h = slice_end 0 u x (omega arith) s in
      let n = length-take-le x text h in
      ext_get_or 0 (take x text) u (omega arith)
      (λ i l. get_or-take x text i 0 (omega arith) ∙ sym (byte_in text i (omega arith)) ∙ ap (λ (y : ℕ). byte text y) (let e : i ≡ 0 + i = omega arith in e) ∙ s.bytes i (omega arith))
