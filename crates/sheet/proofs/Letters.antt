-- The letters of the table's lines, one case each, and what is none of them.
use Prim.Native.Nat.{ℕ}
use mathlib.Core.Path.{◌≡◌, sym}
use mathlib.Core.Logic.{⊎_elim}
use borrow.Author.Tests.{ne_eqb}
use Rattle.aldlf.specs.Constants.{letter_t, letter_f, letter_p, letter_n, letter_a, letter_o, letter_d, letter_b, letter_m, letter_g, letter_e}
use Rattle.sheet.specs.Questions.{arity}
use Rattle.sheet.proofs.Bools.{same}

pub data Kind (c : ℕ) : Type 0 where
  is_t : c ≡ letter_t → Kind c
  is_f : c ≡ letter_f → Kind c
  is_p : c ≡ letter_p → Kind c
  is_n : c ≡ letter_n → Kind c
  is_g : c ≡ letter_g → Kind c
  is_a : c ≡ letter_a → Kind c
  is_o : c ≡ letter_o → Kind c
  is_d : c ≡ letter_d → Kind c
  is_b : c ≡ letter_b → Kind c
  is_m : c ≡ letter_m → Kind c
  is_e : c ≡ letter_e → Kind c
  is_none : arity c ≡ 9 → Kind c

pub arity_other : (l : ℕ) → (l ≡ letter_t → ⊥) → (l ≡ letter_f → ⊥) → (l ≡ letter_p → ⊥) → (l ≡ letter_n → ⊥) → (l ≡ letter_g → ⊥) → (l ≡ letter_a → ⊥)
    → (l ≡ letter_o → ⊥) → (l ≡ letter_d → ⊥) → (l ≡ letter_b → ⊥) → (l ≡ letter_m → ⊥) → (l ≡ letter_e → ⊥) → 9 ≡ arity l
arity_other l a b c d e f g h i j k =
    simp (ne_eqb l letter_t a, ne_eqb l letter_f b, ne_eqb l letter_p c, ne_eqb l letter_n d, ne_eqb l letter_g e, ne_eqb l letter_a f, ne_eqb l letter_o g, ne_eqb l letter_d h, ne_eqb l letter_b i, ne_eqb l letter_m j, ne_eqb l letter_e k)

pub kind_of : (c : ℕ) → Kind c
kind_of c =
    ⊎_elim is_t (λ nT.
    ⊎_elim is_f (λ nF.
    ⊎_elim is_p (λ nP.
    ⊎_elim is_n (λ nN.
    ⊎_elim is_g (λ nG.
    ⊎_elim is_a (λ nA.
    ⊎_elim is_o (λ nO.
    ⊎_elim is_d (λ nD.
    ⊎_elim is_b (λ nB.
    ⊎_elim is_m (λ nM.
    ⊎_elim is_e (λ nE.
    is_none (sym (arity_other c nT nF nP nN nG nA nO nD nB nM nE)))
    (same c letter_e)) (same c letter_m)) (same c letter_b)) (same c letter_d)) (same c letter_o)) (same c letter_a))
    (same c letter_g)) (same c letter_n)) (same c letter_p)) (same c letter_f)) (same c letter_t)
