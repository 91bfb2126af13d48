-- The calls that judge: each answer is the definition's, and the count held is at most the log's entries.
use Rattle.std.specs.Prelude.{Result, Ok, Err}
use Prim.Native.Nat.{ℕ, ◌<◌}
use mathlib.Core.Path.{◌≡◌, refl, ap, sym, ◌∙◌}
use mathlib.Core.Bool.{Bool, true, false, cond}
use mathlib.Core.List.{List}
use native.Mathlib.Omega.{arith}
use lib.Dec.{eqb, leb}
use lib.ListN.{length}
use borrow.Author.Tests.{eq-eqb, ne_eqb, leb-true}
use Rattle.aldlf.specs.Constants.{node_limit, entry_limit}
use Rattle.aldlf.specs.Sheet.{Sheet, sheet_of}
use Rattle.aldlf.specs.Stands.{rule_sheet}
use Rattle.aldlf.specs.Outcomes.{Whole, Part, whole_outcome, part_outcome, plain_row, no_row}
use Rattle.aldlf.specs.Refusals.{refusal_number}
use Rattle.aldlf.specs.declared.Refusal.{Refusal}
use Rattle.aldlf.specs.declared.Table.{Table}
use Rattle.aldlf.specs.declared.Row.{Row}
use Rattle.aldlf.specs.declared.Way.{Way}
use Rattle.aldlf.proofs.Bools.{and_right}
use Rattle.aldlf.proofs.Outcomes.{held_le, whole_yes, whole_held}
use Rattle.sheet.specs.Given.{well_formed}
use Rattle.judge.specs.Answers.{PartAnswer, whole_of, plain_answer_of}
use Rattle.crossing.specs.Numbers.{table_of, row_of}
use Rattle.exports.specs.Answers.{answer_code, accepted, refusal, Outcome, outcome}
use Rattle.exports.specs.Judging.{judged, judge_outcome, plain_into, plain_outcome, is_way, way_of, part_ends, part_judged, judge_part_outcome}
use Rattle.exports.proofs.Sheets.{short_is, long_is}

-- an accepted log is within the limit, and the rule holds at no more entries than there are
pub held_count : (given : Bool) (S : Sheet) (log buffer after : List ℕ) (r : Result ℕ Refusal) (n : ℕ) → whole_of r after ≡ whole_outcome given S log buffer → r ≡ Ok n → n < 65536
held_count given S log buffer after r n e h =
    let o : whole_of (Ok n) after ≡ whole_outcome given S log buffer = ap (λ (x : Result ℕ Refusal). whole_of x after) (sym h) ∙ e in
    let z : (whole_outcome given S log buffer).number ≡ 0 = sym (ap (λ (x : Whole). x.number) o) in
    let few = leb-true (length log) entry_limit (and_right (leb 1 (length log)) (leb (length log) entry_limit) (whole_yes given S log buffer z).1) in
    omega (arith, ap (λ (x : Whole). x.held) o, whole_held given S log buffer z, held_le S log, few)

-- judging a whole log
module _ (table log verdicts after : List ℕ) (t : Table) (r : Result ℕ Refusal) (a : ℕ) (is : t ≡ table_of table)
    (ends : whole_of r after ≡ whole_outcome (well_formed t) (sheet_of t) log verdicts) where
  judge_is : judged (whole_of r after) ≡ judge_outcome table log verdicts
  unfolding judge_outcome
  judge_is = ap judged ends ∙ ap (λ (u : Table). judged (whole_outcome (well_formed u) (sheet_of u) log verdicts)) is

  pub judge_held : (n : ℕ) → r ≡ Ok n → a ≡ accepted n → outcome a after ≡ judge_outcome table log verdicts
  judge_held n g e = ap (λ (x : ℕ). outcome x after) e ∙ ap (λ (x : Result ℕ Refusal). judged (whole_of x after)) (sym g) ∙ judge_is

  pub judge_refused : (q : Refusal) → r ≡ Err q → a ≡ refusal (refusal_number q) → outcome a after ≡ judge_outcome table log verdicts
  judge_refused q g e = ap (λ (x : ℕ). outcome x after) e ∙ ap (λ (x : Result ℕ Refusal). judged (whole_of x after)) (sym g) ∙ judge_is

-- the plain row: the answer's row takes the lent row's place where it is accepted
abbrev plain_ends : List ℕ → PartAnswer → Outcome
plain_ends row p = outcome (answer_code p.number 0 0 0) (cond (eqb p.number 0) p.row.bits row)

module _ (table row : List ℕ) where
  pub plain_short : (a : ℕ) → (length row ≡ node_limit → ⊥) → a ≡ refusal 35 → outcome a row ≡ plain_outcome table row
  unfolding plain_outcome
  plain_short a h e = short_is node_limit row (plain_into row (table_of table)) a h e

  by_given : (t : Table) (given : Bool)
      → cond given (outcome (accepted 0) (plain_row (rule_sheet (sheet_of t))).bits) (outcome (refusal 31) row)
      ≡ plain_ends row (elim given [ true ↦ record { number = 0; row = plain_row (rule_sheet (sheet_of t)) } | false ↦ record { number = 31; row = no_row } ])
  by_given t true = refl
  by_given t false = refl

  plain-ends : (t : Table) → plain_into row t ≡ plain_ends row (plain_answer_of t)
  unfolding plain_answer_of
  plain-ends t = by_given t (well_formed t)

  module _ (t : Table) (p : PartAnswer) (a : ℕ) (h : length row ≡ node_limit) (is : t ≡ table_of table) (answers : p ≡ plain_answer_of t)
      (e : a ≡ answer_code p.number 0 0 0) where
    plain_is : plain_outcome table row ≡ plain_ends row p
    unfolding plain_outcome
    plain_is = long_is node_limit row (plain_into row (table_of table)) h ∙ ap (plain_into row) (sym is) ∙ plain-ends t ∙ ap (plain_ends row) (sym answers)

    pub plain_refused : (p.number ≡ 0 → ⊥) → outcome a row ≡ plain_outcome table row
    plain_refused n =
        ap (λ (x : ℕ). outcome x row) e
        ∙ ap (λ (b : Bool). outcome (answer_code p.number 0 0 0) (cond b p.row.bits row)) (sym (ne_eqb p.number 0 n))
        ∙ sym plain_is

    pub plain_given : (after : List ℕ) → p.number ≡ 0 → after ≡ p.row.bits → outcome a after ≡ plain_outcome table row
    plain_given after n f =
        ap (λ (x : ℕ). outcome x after) e
        ∙ ap (λ (l : List ℕ). outcome (answer_code p.number 0 0 0) l) f
        ∙ ap (λ (b : Bool). outcome (answer_code p.number 0 0 0) (cond b p.row.bits row)) (sym (eq-eqb p.number 0 n))
        ∙ sym plain_is

-- judging a part
abbrev answered : PartAnswer → List ℕ → Part
answered p buffer = record { number = p.number; row = p.row; buffer = buffer }

module _ (table : List ℕ) (way : ℕ) (row words verdicts : List ℕ) where
  pub part_short : (a : ℕ) → (length row ≡ node_limit → ⊥) → a ≡ refusal 35 → part_ends a row verdicts ≡ judge_part_outcome table way row words verdicts
  unfolding judge_part_outcome
  part_short a h e = rw (ne_eqb (length row) node_limit h, e)

  pub part_no_way : (a : ℕ) → length row ≡ node_limit → is_way way ≡ false → a ≡ refusal 43 → part_ends a row verdicts ≡ judge_part_outcome table way row words verdicts
  unfolding judge_part_outcome
  part_no_way a h n e = rw (eq-eqb (length row) node_limit h, n, e)

  module _ (t : Table) (w : Way) (given : Row) (p : PartAnswer) (after : List ℕ) (a : ℕ) (h : length row ≡ node_limit) (known : is_way way ≡ true)
      (is : t ≡ table_of table) (goes : w ≡ way_of way) (held : given ≡ row_of row)
      (ends : answered p after ≡ part_outcome (well_formed t) w (sheet_of t) given words verdicts) (e : a ≡ answer_code p.number 0 0 0) where
    part_is : judge_part_outcome table way row words verdicts ≡ part_judged row (answered p after)
    unfolding judge_part_outcome
    part_is = rw (eq-eqb (length row) node_limit h, known, ← is, ← goes, ← held, ← ends)

    pub part_refused : (p.number ≡ 0 → ⊥) → part_ends a row after ≡ judge_part_outcome table way row words verdicts
    part_refused n =
        ap (λ (x : ℕ). part_ends x row after) e
        ∙ ap (λ (b : Bool). part_ends (answer_code p.number 0 0 0) (cond b p.row.bits row) after) (sym (ne_eqb p.number 0 n))
        ∙ sym part_is

    pub part-judged : (next : List ℕ) → p.number ≡ 0 → next ≡ p.row.bits → part_ends a next after ≡ judge_part_outcome table way row words verdicts
    part-judged next n f =
        ap (λ (x : ℕ). part_ends x next after) e
        ∙ ap (λ (l : List ℕ). part_ends (answer_code p.number 0 0 0) l after) f
        ∙ ap (λ (b : Bool). part_ends (answer_code p.number 0 0 0) (cond b p.row.bits row) after) (sym (eq-eqb p.number 0 n))
        ∙ sym part_is
