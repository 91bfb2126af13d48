-- DEMAND 3 through the boundary: a run of `rozsvelen_judge_part` calls, which change the lent row in place, is call by call a run of part judgings, so it stands right wherever it stands.
use Prim.Native.Nat.{ℕ, zero, suc, ◌*◌}
use mathlib.Core.Path.{◌≡◌, refl, ap, sym, subst, ◌∙◌}
use mathlib.Core.Logic.{◌⊎◌, inl, inr}
use mathlib.Core.Bool.{Bool, true, false, cond}
use mathlib.Core.List.{List, [], ◌∷◌, ◌++◌}
use native.Mathlib.Omega.{arith}
use lib.Dec.{eqb, eqb-suc-zero}
use lib.ListN.{length, drop}
use borrow.Author.Tests.{eq-eqb, ne_eqb, eqb-true}
use Rattle.aldlf.specs.Constants.{node_limit}
use Rattle.aldlf.specs.Sheet.{Sheet, sheet_of}
use Rattle.aldlf.specs.Stands.{rule_sheet}
use Rattle.aldlf.specs.Outcomes.{bits_of, pack_row, no_row, part_words, Part, part_number, part_outcome, plain_row}
use Rattle.aldlf.specs.Verdict.{row_of as partRow}
use Rattle.aldlf.specs.Run.{Call, Stand, after_call, run_from, run, IsPlain, Right}
use Rattle.aldlf.specs.declared.Row.{Row}
use Rattle.aldlf.specs.declared.Way.{Way}
use Rattle.aldlf.proofs.Bools.{bool_cases}
use Rattle.aldlf.proofs.Runs.{plain_row_is_plain}
use Rattle.sheet.specs.Given.{well_formed}
use Rattle.sheet.proofs.Facts.{table_facts}
use Rattle.sheet.proofs.Sound.{sound}
use Rattle.judge.proofs.Demand.{demand_3}
use Rattle.crossing.specs.Numbers.{table_of, row_of}
use Rattle.exports.specs.Answers.{answer_code, accepted, refusal, Outcome, outcome}
use Rattle.exports.specs.Judging.{is_way, way_of, plain_outcome, part_ends, part_judged, judge_part_outcome}
use Rattle.exports.specs.Runs.{after_part, parts_from, parts_run}

-- a refusal's answer is no accepted call's
refusal_apart : (q : ℕ) → eqb (refusal (suc q)) (accepted 0) ≡ false
unfolding answer_code
refusal_apart q = ne_eqb (refusal (suc q)) (accepted 0) (λ e. omega (arith, e))

-- a part's outcome does to the lent row what the run does to the row in hand
joined_same : (way : ℕ) (st : Stand) (c : Call) (number : ℕ) (row : Row) (buffer : List ℕ)
    → let p : Part = record { number = number; row = row; buffer = buffer } in after_part way st c (part_judged st.row.bits p) ≡ after_call (way_of way) st c p
unfolding answer_code
joined_same way st c zero row buffer = refl
joined_same way st c (suc q) row buffer = rw (refusal_apart q, eqb-suc-zero q)

-- a refused call leaves the run where it stood
refused_same : (way : ℕ) (st : Stand) (c : Call) (q : ℕ) → after_part way st c (part_ends (refusal (suc q)) st.row.bits c.buffer) ≡ st
refused_same way st c q = rw (refusal_apart q)

-- the row in hand always has 128 numbers
abbrev settled : ℕ → Row → (after buffer : List ℕ) → Part
settled number row after buffer = elim number [ zero ↦ record { number = 0; row = row; buffer = after } | suc q ↦ record { number = suc q; row = no_row; buffer = buffer } ]

settled_long : (number : ℕ) (row : Row) (after buffer : List ℕ) → length row.bits ≡ node_limit → length (settled number row after buffer).row.bits ≡ node_limit
settled_long zero row after buffer h = h
settled_long (suc q) row after buffer h = refl

part_long : (given : Bool) (w : Way) (S : Sheet) (row : Row) (words buffer : List ℕ) → length (part_outcome given w S row words buffer).row.bits ≡ node_limit
unfolding part_outcome
part_long given w S row words buffer =
    settled_long (part_number given w S words buffer) (pack_row (partRow w (rule_sheet S) words (bits_of row))) (part_words (rule_sheet S) (bits_of row) words ++ drop (2 * length words) buffer) buffer refl

stays_long : (w : Way) (st : Stand) (c : Call) (number : ℕ) (row : Row) (buffer : List ℕ) → length st.row.bits ≡ node_limit → length row.bits ≡ node_limit
    → length (after_call w st c (record { number = number; row = row; buffer = buffer })).row.bits ≡ node_limit
stays_long w st c zero row buffer h i = i
stays_long w st c (suc q) row buffer h i = h

module _ (table : List ℕ) (way : ℕ) where
  -- a way, and a row of 128 numbers: every call is a part judging
  module _ (known : is_way way ≡ true) where
    judged_is : (row words verdicts : List ℕ) → length row ≡ node_limit
        → judge_part_outcome table way row words verdicts ≡ part_judged row (part_outcome (well_formed (table_of table)) (way_of way) (sheet_of (table_of table)) (row_of row) words verdicts)
    unfolding judge_part_outcome
    judged_is row words verdicts long = rw (eq-eqb (length row) node_limit long, known)

    from_same : (calls : List Call) (st : Stand) → length st.row.bits ≡ node_limit
        → parts_from table way st calls ≡ run_from (well_formed (table_of table)) (way_of way) (sheet_of (table_of table)) st calls
    from_same [] st long = refl
    from_same (c ∷ cs) st long =
        let t = table_of table in
        let p = part_outcome (well_formed t) (way_of way) (sheet_of t) st.row c.words c.buffer in
        ap (λ (s : Stand). parts_from table way s cs) (ap (after_part way st c) (judged_is st.row.bits c.words c.buffer long) ∙ joined_same way st c p.number p.row p.buffer)
        ∙ from_same cs (after_call (way_of way) st c p) (stays_long (way_of way) st c p.number p.row p.buffer long (part_long (well_formed t) (way_of way) (sheet_of t) st.row c.words c.buffer))

    pub run_same : (row : List ℕ) → length row ≡ node_limit → (calls : List Call)
        → parts_run table way row calls ≡ run (well_formed (table_of table)) (way_of way) (sheet_of (table_of table)) (row_of row) calls
    unfolding parts_run run
    run_same row long calls = from_same calls _ long

  -- any other number, or a row of another length: every call is refused
  from_refused : (q : ℕ) (calls : List Call) (st : Stand)
      → ((words verdicts : List ℕ) → judge_part_outcome table way st.row.bits words verdicts ≡ part_ends (refusal (suc q)) st.row.bits verdicts)
      → parts_from table way st calls ≡ st
  from_refused q [] st off = refl
  from_refused q (c ∷ cs) st off =
      ap (λ (s : Stand). parts_from table way s cs) (ap (after_part way st c) (off c.words c.buffer) ∙ refused_same way st c q) ∙ from_refused q cs st off

  no_length : (row words verdicts : List ℕ) → eqb (length row) node_limit ≡ false → judge_part_outcome table way row words verdicts ≡ part_ends (refusal 35) row verdicts
  unfolding judge_part_outcome
  no_length row words verdicts e = rw e

  no_way : (row words verdicts : List ℕ) → eqb (length row) node_limit ≡ true → is_way way ≡ false → judge_part_outcome table way row words verdicts ≡ part_ends (refusal 43) row verdicts
  unfolding judge_part_outcome
  no_way row words verdicts e n = rw (e, n)

  run_refused : (q : ℕ) (row : List ℕ) → ((words verdicts : List ℕ) → judge_part_outcome table way row words verdicts ≡ part_ends (refusal (suc q)) row verdicts) → (calls : List Call)
      → parts_run table way row calls ≡ run (well_formed (table_of table)) (way_of way) (sheet_of (table_of table)) (row_of row) []
  unfolding parts_run run
  run_refused q row off calls = from_refused q calls _ off

  -- where a run stands is where some run of part judgings from the same row stands
  run_is : (row : List ℕ) (calls : List Call)
      → (parts : List Call) × (parts_run table way row calls ≡ run (well_formed (table_of table)) (way_of way) (sheet_of (table_of table)) (row_of row) parts)
  run_is row calls = go (bool_cases (eqb (length row) node_limit)) (bool_cases (is_way way))
    where
      go : (eqb (length row) node_limit ≡ true) ⊎ (eqb (length row) node_limit ≡ false) → (is_way way ≡ true) ⊎ (is_way way ≡ false)
          → (parts : List Call) × (parts_run table way row calls ≡ run (well_formed (table_of table)) (way_of way) (sheet_of (table_of table)) (row_of row) parts)
      go (inl e) (inl y) = (calls, run_same y row (eqb-true (length row) node_limit e) calls)
      go (inl e) (inr n) = ([], run_refused 42 row (λ words verdicts. no_way row words verdicts e n) calls)
      go (inr e) y = ([], run_refused 34 row (λ words verdicts. no_length row words verdicts e) calls)

  -- DEMAND 3 of the calls for C and Rust, from every plain row
  pub boundary_demand_3 : (row : List ℕ) → IsPlain (sheet_of (table_of table)) (row_of row) → (calls : List Call)
      → Right (well_formed (table_of table)) (way_of way) (sheet_of (table_of table)) (parts_run table way row calls)
  boundary_demand_3 row p calls =
      let t = table_of table in
      let (parts, e) = run_is row calls in
      subst (Right (well_formed t) (way_of way) (sheet_of t)) (sym e) (demand_3 t (way_of way) (row_of row) p parts)

-- what `rozsvelen_plain_row` leaves in a lent row where it accepts is the plain row
module _ (table lent : List ℕ) where
  no_plain : (q : ℕ) → refusal (suc q) ≡ accepted 0 → ⊥
  unfolding answer_code
  no_plain q e = omega (arith, e)

  plain_left : (plain_outcome table lent).answer ≡ accepted 0
      → (well_formed (table_of table) ≡ true) × ((plain_outcome table lent).slice ≡ (plain_row (rule_sheet (sheet_of (table_of table)))).bits)
  unfolding plain_outcome
  plain_left = go (eqb (length lent) node_limit) (well_formed (table_of table))
    where
      left : Bool → Bool → Outcome
      left long given = cond long (cond given (outcome (accepted 0) (plain_row (rule_sheet (sheet_of (table_of table)))).bits) (outcome (refusal 31) lent)) (outcome (refusal 35) lent)

      go : (long given : Bool) → (left long given).answer ≡ accepted 0 → (given ≡ true) × ((left long given).slice ≡ (plain_row (rule_sheet (sheet_of (table_of table)))).bits)
      go true true e = (refl, refl)
      go true false e = absurd (no_plain 30 e)
      go false given e = absurd (no_plain 34 e)

  -- a run of calls that starts from it is the run of part judgings from the plain row
  pub run_from_plain_row : (plain_outcome table lent).answer ≡ accepted 0 → (way : ℕ) → is_way way ≡ true → (calls : List Call)
      → parts_run table way (plain_outcome table lent).slice calls ≡ run (well_formed (table_of table)) (way_of way) (sheet_of (table_of table)) (plain_row (rule_sheet (sheet_of (table_of table)))) calls
  run_from_plain_row e way known calls =
      ap (λ (row : List ℕ). parts_run table way row calls) (plain_left e).1 ∙ run_same table way known (plain_row (rule_sheet (sheet_of (table_of table)))).bits refl calls

  -- DEMAND 3 of the calls for C and Rust, closed: no assumption on the table, the way or the calls
  pub boundary_demand_3_from_plain_row : (plain_outcome table lent).answer ≡ accepted 0 → (way : ℕ) (calls : List Call)
      → Right (well_formed (table_of table)) (way_of way) (sheet_of (table_of table)) (parts_run table way (plain_outcome table lent).slice calls)
  boundary_demand_3_from_plain_row e way calls =
      let t = table_of table in
      let (given, left) = plain_left e in
      boundary_demand_3 table way (plain_outcome table lent).slice (subst (λ (row : List ℕ). IsPlain (sheet_of t) (row_of row)) (sym left) (plain_row_is_plain (sheet_of t) (sound t (table_facts t given)))) calls
