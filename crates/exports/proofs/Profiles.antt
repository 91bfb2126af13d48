-- THE PROFILE ACROSS THE BOUNDARY: where `rozsvelen_profile` accepts, the table that the numbers in `out` then give is right for the lent one.
use Prim.Native.Nat.{ℕ}
use native.Mathlib.Omega.{arith}
use mathlib.Core.Path.{◌≡◌, refl, sym, ap, subst, ◌∙◌}
use mathlib.Core.Bool.{Bool, cond}
use mathlib.Core.Logic.{⊎_elim}
use mathlib.Core.List.{List}
use lib.ListN.{length}
use borrow.Author.Tests.{eq-eqb}
use Rattle.aldlf.specs.declared.Table.{Table}
use Rattle.sheet.proofs.Bools.{same}
use Rattle.profile.specs.Profile.{profile_outcome}
use Rattle.profile.specs.Right.{ProfileRight}
use Rattle.profile.proofs.Request.{profile_right, profile_sheet}
use Rattle.crossing.specs.Numbers.{table_size, table_numbers, table_of}
use Rattle.crossing.proofs.GivenTables.{given_crosses}
use Rattle.exports.specs.Answers.{answer_code, accepted, refusal, Outcome, table_into, profile_made}
use Rattle.exports.proofs.Sheets.{short_is, long_is}

-- an answer of no count and about no line that is an acceptance has number 0
number_0 : (q : ℕ) → answer_code q 0 0 0 ≡ accepted 0 → q ≡ 0
unfolding answer_code
number_0 q e = omega (arith, e)

module _ (table out : List ℕ) where
  abbrev t : Table
  t = table_of table

  abbrev q : ℕ
  q = (profile_outcome t).number

  -- an accepted call has asked 35, 31 and 42, and puts the profile's numbers
  left : (profile_made table out).answer ≡ accepted 0 → (q ≡ 0) × ((profile_made table out).slice ≡ table_numbers (profile_outcome t).table)
  unfolding profile_made
  left e = ⊎_elim
      (λ (h : length out ≡ table_size).
      let is = long_is table_size out (table_into out q 0 0 (profile_outcome t).table) h in
      let z = number_0 q (sym (ap (λ (o : Outcome). o.answer) is) ∙ e) in
      (z, ap (λ (o : Outcome). o.slice) is ∙ ap (λ (b : Bool). cond b (table_numbers (profile_outcome t).table) out) (eq-eqb q 0 z)))
      (λ h.
      let w : ◌≡◌ {A = ℕ} 35 0 = number_0 35 (ap (λ (o : Outcome). o.answer) (short_is table_size out (table_into out q 0 0 (profile_outcome t).table) (refusal 35) h refl) ∙ e) in
      absurd (omega arith))
      (same (length out) table_size)

  pub boundary_profile : (profile_made table out).answer ≡ accepted 0 → ProfileRight (table_of table) (table_of (profile_made table out).slice)
  boundary_profile e =
      let (z, s) = left e in
      subst (ProfileRight t) (sym (ap table_of s ∙ given_crosses (profile_outcome t).table (profile_sheet t z))) (profile_right t z)
