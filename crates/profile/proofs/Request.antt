-- REQUEST S-4 AS ONE STATEMENT about what the call answers; and what the yes-or-no says.
use Prim.Native.Nat.{ℕ, zero, suc, ◌+◌, ◌*◌, ◌<◌}
use native.Mathlib.Omega.{arith}
use mathlib.Core.Path.{◌≡◌, refl, sym, ap, ◌∙◌}
use mathlib.Core.Bool.{true}
use mathlib.Core.Logic.{◌↔◌, ⊎_elim}
use borrow.Author.Tests.{eq-eqb, eqb-true}
use Rattle.aldlf.specs.Constants.{letter_p, letter_n}
use Rattle.aldlf.specs.Sheet.{sheet_of}
use Rattle.aldlf.specs.declared.Table.{Table}
use Rattle.sheet.specs.Questions.{each}
use Rattle.sheet.specs.Facts.{node_at}
use Rattle.sheet.specs.Given.{Given}
use Rattle.sheet.proofs.Bools.{same}
use Rattle.sheet.proofs.Each.{each_at, each_all}
use Rattle.sheet.proofs.Question31.{well_formed_iff}
use Rattle.profile.specs.Profile.{profile_of, profile_number, profile_outcome, line_in_profile, in_profile}
use Rattle.profile.specs.Right.{OnFacts, ProfileRight}
use Rattle.profile.proofs.Laws.{in_other, in_stands, outcome_yes, outcome_no}
use Rattle.profile.proofs.Given.{profile_given, profile_in}
use Rattle.profile.proofs.Agree.{profile_agrees, profile_rule}

-- THE YES-OR-NO: yes if and only if each N on the sheet stands directly on a fact
pub in_profile_iff : (t : Table) → (in_profile t ≡ true) ↔ OnFacts t
unfolding in_profile
in_profile_iff t = (there, λ f. each_all (line_in_profile t.nodes) t.used.nodes (λ k l. hence f k l))
  where
    there : each (line_in_profile t.nodes) t.used.nodes ≡ true → OnFacts t
    there e k l n = eqb-true _ _ (in_stands t.nodes k n ∙ each_at (line_in_profile t.nodes) t.used.nodes k e l)

    hence : OnFacts t → (k : ℕ) → k < t.used.nodes → line_in_profile t.nodes k ≡ true
    hence f k l =
        ⊎_elim (λ (n : (node_at t k).kind ≡ letter_n). sym (in_stands t.nodes k n) ∙ eq-eqb (node_at t (node_at t k).a).kind letter_p (f k l n))
        (λ n. sym (in_other t.nodes k n))
        (same (node_at t k).kind letter_n)

-- a call that answers 0 has asked both questions, and gives the profile
accepted : (t : Table) (q : ℕ) → q ≡ profile_number t → (profile_outcome t).number ≡ 0 → (q ≡ 0) × ((profile_outcome t).table ≡ profile_of t)
accepted t zero e z = (refl, sym (ap (λ r. r.table) (outcome_yes t (profile_of t) zero e refl refl)))
accepted t (suc q) e z =
    let w : ◌≡◌ {A = ℕ} (suc q) 0 = ap (λ r. r.number) (outcome_no t (suc q) e (λ y. omega arith)) ∙ z in
    absurd (omega arith)

made_nodes : (t : Table) → (profile_of t).used.nodes ≡ 2 * t.used.nodes + 1
unfolding profile_of
made_nodes t = refl

made_right : (t : Table) → profile_number t ≡ 0 → ProfileRight t (profile_of t)
unfolding sheet_of
made_right t e = record {
  given = profile_given t e;
  plain = (in_profile_iff (profile_of t)).0 (profile_in t e);
  nodes = made_nodes t;
  same = λ log k i l b. (profile_agrees t e log k i l b).0;
  opposite = λ log k i l b. (profile_agrees t e log k i l b).1;
  rule = λ log i b. profile_rule t e log i b;
}

-- REQUEST S-4: the table that an accepted call gives is right
pub profile_right : (t : Table) → (profile_outcome t).number ≡ 0 → ProfileRight t (profile_outcome t).table
profile_right t z =
    let a = accepted t (profile_number t) refl z in
    rw a.1 (made_right t a.0)

-- and some sheet's text gives it
pub profile_sheet : (t : Table) → (profile_outcome t).number ≡ 0 → Given (profile_outcome t).table
profile_sheet t z = (well_formed_iff (profile_outcome t).table).0 (profile_right t z).given
