-- Every page is at most 40,000 bytes long: at most 512 lines of 6 bytes, a line for the rule, and a walk of at most 8,191 edges of at most 4 bytes.
use Prim.Native.Nat.{ℕ, zero, suc, ◌*◌, ◌≤◌}
use mathlib.Core.Path.{◌≡◌, refl, ap, sym, ◌∙◌}
use mathlib.Core.Logic.{⊎_elim}
use mathlib.Core.Bool.{Bool, true, false, cond, ◌||◌}
use mathlib.Core.List.{List, [], ◌∷◌, ◌++◌}
use native.Mathlib.Omega.{arith}
use borrow.Author.Tests.{leb-true}
use lib.ListN.{length, take, drop, replicate, length-append, length-take, length-replicate}
use lib.Seq.{take_at}
use lib.Dec.{eqb, leb}
use Rattle.aldlf.specs.Constants.{entry_limit}
use Rattle.std.specs.Prelude.{Result, Ok, Err, IsOk}
use Rattle.aldlf.specs.Refusals.{refusal_number}
use Rattle.aldlf.specs.declared.Refusal.{Refusal}
use Rattle.aldlf.specs.Sheet.{sheet_of}
use Rattle.aldlf.specs.Outcomes.{log_fits, whole_number, whole_outcome}
use Rattle.aldlf.specs.Walks.{Shown, edges_of, walk_of, walk_outcome}
use Rattle.aldlf.specs.declared.Table.{Table}
use Rattle.aldlf.proofs.Bools.{and_left, and_right}
use Rattle.aldlf.proofs.Outcomes.{held_le, whole-number, whole_yes, whole_held}
use Rattle.sheet.specs.Questions.{read_sheet}
use Rattle.sheet.specs.Given.{well_formed}
use Rattle.sheet.specs.Facts.{TableFacts}
use Rattle.sheet.proofs.Bools.{same}
use Rattle.sheet.proofs.Facts.{table_facts}
use Rattle.walk.proofs.Questions.{outcome_0, outcome_most}
use Rattle.joblog.specs.Log.{LogRead, entries, refused, read_log}
use Rattle.joblog.proofs.Answers.{Sound, sound_log}
use Rattle.lines.specs.Lines.{refusal_line, verdict_lines, walk_line, no_walk_line}
use Rattle.report.specs.Page.{lent_words, walk_limit, page_limit, rule_of, refused_walk, shown_line, walk_page, judged_page, table_page, log_page, rule_page, page_of, printed_of, page_outcome}
use Rattle.lines.proofs.Lengths.{refusal_length, sheet_refusal_length, verdicts_length, walk_length}
use Rattle.appending.specs.Placed.{Printed, placed}
use Rattle.appending.proofs.Placed.{placed_fits, placed-count}
use Rattle.report.proofs.Numbers.{first_le, sheet_small, edges_small}
use Rattle.report.proofs.Pages.{sheet_refused, sheet_read}

refused_walk-length : (q : ℕ) → q ≤ 40 → length (refused_walk q) ≤ 18
unfolding refused_walk no_walk_line
refused_walk-length q h = go (eqb q 38 || eqb q 39)
  where
    go : (b : Bool) → length (cond b no_walk_line (refusal_line q 0)) ≤ 18
    go true = simp length-append (omega arith)
    go false = refusal_length q 0 (omega arith) (omega arith)

shown_length : (n count : ℕ) (buffer : List ℕ) → (n ≡ 0 → length (walk_line (take count buffer)) ≤ 32774) → n ≤ 40 → length (shown_line (record { number = n; count = count; buffer = buffer })) ≤ 32774
unfolding shown_line
shown_length zero count buffer h l = h refl
shown_length (suc q) count buffer h l = omega (arith, refused_walk-length (suc q) l)

-- the walk's line, of a table that some sheet gives and a log with an entry
walk_page-length : (t : Table) (log : List ℕ) → TableFacts t → 1 ≤ length log → length (walk_page t log) ≤ 32774
unfolding walk_page
walk_page-length t log f some =
    let S = sheet_of t in
    let o = walk_outcome (well_formed t) S log (rule_of t) 0 (replicate walk_limit 0) in
    let es = edges_of (walk_of S log (rule_of t) 0) in
    shown_length o.number o.count o.buffer
    (λ z.
    let ((given, fits, entry, there, long), is) = outcome_0 S log (rule_of t) 0 (replicate walk_limit 0) (well_formed t) z in
    let e : take o.count o.buffer ≡ es = ap (λ (s : Shown). take s.count s.buffer) is ∙ take_at es (drop (length es) (replicate walk_limit 0)) (length es) refl in
    let room = leb-true (length es) (length (replicate {A = ℕ} walk_limit 0)) long in
    rw e (walk_length es (omega (arith, room, length-replicate {A = ℕ} walk_limit 0)) (edges_small t log (rule_of t) 0 f (omega arith))))
    (outcome_most S log (rule_of t) 0 (replicate walk_limit 0) (well_formed t))

judged_length : (n held rule m : ℕ) (buffer rest : List ℕ) → (n ≡ 0 → length (verdict_lines rule held (take (2 * m) buffer) ++ rest) ≤ page_limit) → n ≤ 33
    → length (judged_page rule m rest (record { number = n; held = held; buffer = buffer })) ≤ page_limit
unfolding judged_page
judged_length zero held rule m buffer rest h l = h refl
judged_length (suc q) held rule m buffer rest h l = omega (arith, refusal_length (suc q) 0 (omega arith) (omega arith))

whole_number-le : (given : Bool) (log buffer : List ℕ) → whole_number given log buffer ≤ 33
unfolding whole_number
whole_number-le given log buffer =
    first_le 33 ((given, 31) ∷ (log_fits log, 32) ∷ (leb (2 * length log) (length buffer), 33) ∷ []) (omega arith, (omega arith, (omega arith, tt)))

table_page-length : (t : Table) (log : List ℕ) → length (table_page t log) ≤ page_limit
unfolding table_page
table_page-length t log =
    let S = sheet_of t in
    let o = whole_outcome (well_formed t) S log lent_words in
    judged_length o.number o.held (rule_of t) (length log) o.buffer (walk_page t log)
    (λ z.
    let y = whole_yes (well_formed t) S log lent_words z in
    let some : 1 ≤ length log = leb-true 1 (length log) (and_left (leb 1 (length log)) (leb (length log) entry_limit) y.1) in
    let few : length log ≤ entry_limit = leb-true (length log) entry_limit (and_right (leb 1 (length log)) (leb (length log) entry_limit) y.1) in
    let v = take (2 * length log) o.buffer in
    omega (
      arith,
      length-append (verdict_lines (rule_of t) o.held v) (walk_page t log),
      verdicts_length (rule_of t) o.held v (omega (arith, whole_held (well_formed t) S log lent_words z, held_le S log)) (omega (arith, length-take (2 * length log) o.buffer)),
      walk_page-length t log (table_facts t y.0) some,
    ))
    (omega (arith, whole-number (well_formed t) S log lent_words, whole_number-le (well_formed t) log lent_words))

log_page-length : (t : Table) (r : LogRead) → Sound entry_limit r → length (log_page t r) ≤ page_limit
log_page-length t (entries log) s = table_page-length t log
log_page-length t (refused q k) s = omega (arith, refusal_length q k (omega (arith, s.number≤)) (omega (arith, s.line≤)))

-- by a rule that was read
pub rule_page_fits : (t : Table) (steps : List ℕ) → length (rule_page t steps) ≤ page_limit
unfolding rule_page
rule_page_fits t steps = log_page-length t (read_log steps entry_limit) (sound_log steps entry_limit)

-- every page is within the limit
pub page_fits : (rules steps : List ℕ) → length (page_of rules steps) ≤ page_limit
unfolding page_of
page_fits rules steps =
    let a = read_sheet rules in
    let s = sheet_small rules in
    ⊎_elim (λ (z : a.number ≡ 0). rw (sheet_read a steps z) (rule_page_fits a.table steps))
    (λ z. rw (sheet_refused a steps z) (omega (arith, sheet_refusal_length a.number a.line a.field (omega (arith, s.number≤)) (omega (arith, s.line≤)) (omega (arith, s.field≤)))))
    (same a.number 0)

-- so a buffer of that many bytes takes every page whole
pub page_whole : (rules steps lent : List ℕ) → page_limit ≤ length lent
    → page_outcome rules steps lent ≡ record { number = 0; count = length (page_of rules steps); buffer = page_of rules steps ++ drop (length (page_of rules steps)) lent }
unfolding page_outcome
page_whole rules steps lent h = placed_fits 44 (page_of rules steps) lent (omega (arith, page_fits rules steps))

-- and is never refused
pub page_never_refused : (rules steps lent : List ℕ) → page_limit ≤ length lent → (page_outcome rules steps lent).number ≡ 44 → ⊥
page_never_refused rules steps lent h e =
    let z : ◌≡◌ {A = ℕ} 0 44 = sym (ap (λ (p : Printed). p.number) (page_whole rules steps lent h)) ∙ e in
    absurd (omega arith)

-- what a caller may take from an answer: the bytes are within the buffer, and within the limit
pub page_bytes : (rules steps lent after : List ℕ) (r : Result ℕ Refusal) → printed_of r after ≡ page_outcome rules steps lent
    → ((printed_of r after).count ≤ length lent) × ((printed_of r after).count ≤ page_limit)
unfolding page_outcome
page_bytes rules steps lent after r e =
    let c : (printed_of r after).count ≡ (placed 44 (page_of rules steps) lent).count = ap (λ (p : Printed). p.count) e in
    let (room, all) = placed-count 44 (page_of rules steps) lent in
    (omega arith, omega (arith, page_fits rules steps))

-- and of a buffer that takes every page: there is no refusal
pub page_ok : (rules steps lent after : List ℕ) (r : Result ℕ Refusal) → page_limit ≤ length lent → printed_of r after ≡ page_outcome rules steps lent → IsOk r
page_ok rules steps lent after (Ok n) h e = refl
page_ok rules steps lent after (Err r) h e =
    let z : refusal_number r ≡ 0 = ap (λ (p : Printed). p.number) (e ∙ page_whole rules steps lent h) in
    absurd (grind arith)

pub page_few : (rules steps lent after : List ℕ) (r : Result ℕ Refusal) (n : ℕ) → r ≡ Ok n → printed_of r after ≡ page_outcome rules steps lent → n ≤ length lent
page_few rules steps lent after r n s e = (page_bytes rules steps lent after (Ok n) (ap (λ (x : Result ℕ Refusal). printed_of x after) (sym s) ∙ e)).0
