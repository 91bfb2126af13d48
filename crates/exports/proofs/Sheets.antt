-- A table put into a lent slice, as read from a sheet or made in the profile: question 35 first, then the call's own answer.
use Prim.Native.Nat.{ℕ}
use mathlib.Core.Path.{◌≡◌, ap, sym, ◌∙◌}
use mathlib.Core.Bool.{Bool, cond}
use mathlib.Core.List.{List}
use lib.ListN.{length}
use borrow.Author.Tests.{eq-eqb, ne_eqb}
use Rattle.aldlf.specs.declared.Table.{Table}
use Rattle.sheet.specs.Answers.{SheetAnswer}
use Rattle.sheet.specs.Questions.{read_sheet}
use Rattle.profile.specs.Profile.{ProfileAnswer}
use Rattle.profile.specs.Profile.{profile_outcome}
use Rattle.crossing.specs.Numbers.{table_size, table_numbers, table_of}
use Rattle.exports.specs.Answers.{answer_code, refusal, Outcome, outcome, of_length, table_into, sheet_outcome, profile_made}

-- question 35
pub short_is : (n : ℕ) (lent : List ℕ) (rest : Outcome) (a : ℕ) → (length lent ≡ n → ⊥) → a ≡ refusal 35 → outcome a lent ≡ of_length n lent rest
short_is n lent rest a h e = rw (ne_eqb (length lent) n h, e)

pub long_is : (n : ℕ) (lent : List ℕ) (rest : Outcome) → length lent ≡ n → of_length n lent rest ≡ rest
long_is n lent rest h = rw (eq-eqb (length lent) n h)

-- a table's outcome: refused, and put
module _ (lent : List ℕ) (number line field : ℕ) (t : Table) (a : ℕ) (e : a ≡ answer_code number line 0 field) where
  into_refused : (number ≡ 0 → ⊥) → outcome a lent ≡ table_into lent number line field t
  into_refused n =
      ap (λ (r : ℕ). outcome r lent) e
      ∙ ap (λ (b : Bool). outcome (answer_code number line 0 field) (cond b (table_numbers t) lent)) (sym (ne_eqb number 0 n))

  into_put : (after : List ℕ) → number ≡ 0 → after ≡ table_numbers t → outcome a after ≡ table_into lent number line field t
  into_put after n f =
      ap (λ (r : ℕ). outcome r after) e
      ∙ ap (λ (l : List ℕ). outcome (answer_code number line 0 field) l) f
      ∙ ap (λ (b : Bool). outcome (answer_code number line 0 field) (cond b (table_numbers t) lent)) (sym (eq-eqb number 0 n))

-- reading a sheet
module _ (text table : List ℕ) where
  pub sheet_short : (a : ℕ) → (length table ≡ table_size → ⊥) → a ≡ refusal 35 → outcome a table ≡ sheet_outcome text table
  unfolding sheet_outcome
  sheet_short a h e = short_is table_size table _ a h e

  module _ (s : SheetAnswer) (a : ℕ) (h : length table ≡ table_size) (is : s ≡ read_sheet text) (e : a ≡ answer_code s.number s.line 0 s.field) where
    sheet_is : sheet_outcome text table ≡ table_into table s.number s.line s.field s.table
    unfolding sheet_outcome
    sheet_is = long_is table_size table _ h ∙ ap (λ (s : SheetAnswer). table_into table s.number s.line s.field s.table) (sym is)

    pub sheet_refused : (s.number ≡ 0 → ⊥) → outcome a table ≡ sheet_outcome text table
    sheet_refused n = into_refused table s.number s.line s.field s.table a e n ∙ sym sheet_is

    pub sheet_read : (after : List ℕ) → s.number ≡ 0 → after ≡ table_numbers s.table → outcome a after ≡ sheet_outcome text table
    sheet_read after n f = into_put table s.number s.line s.field s.table a e after n f ∙ sym sheet_is

-- making a profile
module _ (table out : List ℕ) where
  pub profile_short : (a : ℕ) → (length out ≡ table_size → ⊥) → a ≡ refusal 35 → outcome a out ≡ profile_made table out
  unfolding profile_made
  profile_short a h e = short_is table_size out _ a h e

  module _ (p : ProfileAnswer) (a : ℕ) (h : length out ≡ table_size) (is : p ≡ profile_outcome (table_of table)) (e : a ≡ answer_code p.number 0 0 0) where
    profile_is : profile_made table out ≡ table_into out p.number 0 0 p.table
    unfolding profile_made
    profile_is = long_is table_size out _ h ∙ ap (λ (p : ProfileAnswer). table_into out p.number 0 0 p.table) (sym is)

    pub profile_refused : (p.number ≡ 0 → ⊥) → outcome a out ≡ profile_made table out
    profile_refused n = into_refused out p.number 0 0 p.table a e n ∙ sym profile_is

    pub profile_put : (after : List ℕ) → p.number ≡ 0 → after ≡ table_numbers p.table → outcome a after ≡ profile_made table out
    profile_put after n f = into_put out p.number 0 0 p.table a e after n f ∙ sym profile_is
