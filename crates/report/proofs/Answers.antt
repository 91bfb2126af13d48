-- The answers of the calls, case by case, as the outcomes that the page is defined over.
use Prim.Native.Nat.{ℕ, zero, suc, ◌*◌, ◌≤◌}
use mathlib.Core.Path.{◌≡◌, refl, ap, sym, ◌∙◌}
use mathlib.Core.Bool.{Bool}
use mathlib.Core.List.{List, ◌++◌}
use native.Mathlib.Omega.{arith}
use borrow.Author.Tests.{leb-true, eqb-false}
use lib.ListN.{length, take, drop, length-append}
use lib.Seq.{take_at}
use lib.Dec.{eqb}
use Rattle.aldlf.specs.Sheet.{Sheet}
use Rattle.aldlf.specs.Outcomes.{Whole, whole_number, whole_outcome}
use Rattle.aldlf.specs.Walks.{Shown}
use Rattle.aldlf.proofs.Outcomes.{whole-number, whole_yes}
use Rattle.walk.specs.Answer as walk
use Rattle.aldlf.specs.Refusals.{refusal_number}
use Rattle.aldlf.specs.declared.Refusal.{Refusal}
use Rattle.std.specs.Prelude.{Result, Ok, Err}
use Rattle.joblog.specs.Log as log
use Rattle.joblog.specs.Log.{LogAnswer, entries, read_log, read_outcome}
use Rattle.joblog.proofs.Answers.{sound_log}
use Rattle.joblog.proofs.Told.{told_read}
use Rattle.judge.specs.Answers.{whole_of, is_held}
use Rattle.lines.specs.Lines.{refusal_line, verdict_lines, walk_line}
use Rattle.report.specs.Page.{refused_walk, shown_line, judged_page}

-- a log that was read to the first words of a buffer
pub log-entries : (text old new : List ℕ) (a : LogAnswer) (n : ℕ) → log.answer_of a new ≡ read_outcome text old → a ≡ log.Read n → (n ≤ length new) × (read_log text (length old) ≡ entries (take n new))
log-entries text old new a n is r =
    let t = told_read old new (read_log text (length old)) (sound_log text (length old)) a is n r in
    let ws = t.words in
    (omega (arith, t.count, ap length t.stored, length-append ws (drop (length ws) old)), t.read ∙ ap entries (sym (ap (take n) t.stored ∙ take_at ws (drop (length ws) old) n (sym t.count))))

refused_line : (rule n : ℕ) (rest : List ℕ) (q : ℕ) (new : List ℕ) → (q ≡ 0 → ⊥) → refusal_line q 0 ≡ judged_page rule n rest (record { number = q; held = 0; buffer = new })
unfolding judged_page
refused_line rule n rest zero new z = absurd (z refl)
refused_line rule n rest (suc q) new z = refl

module _ (given : Bool) (S : Sheet) (log buffer : List ℕ) where
  -- the answer Ok: there are two places for each entry, and the page goes on with the verdicts
  pub held_room : (a : Result ℕ Refusal) (h : ℕ) (new : List ℕ) → a ≡ Ok h → whole_of a new ≡ whole_outcome given S log buffer → 2 * length log ≤ length buffer
  held_room a h new r e = leb-true (2 * length log) (length buffer) (whole_yes given S log buffer (ap (λ (w : Whole). w.number) (sym e ∙ ap (λ (x : Result ℕ Refusal). whole_of x new) r))).2

  pub held_page : (rule n : ℕ) (rest : List ℕ) (a : Result ℕ Refusal) (h : ℕ) (new : List ℕ) → a ≡ Ok h → whole_of a new ≡ whole_outcome given S log buffer
      → verdict_lines rule h (take (2 * n) new) ++ rest ≡ judged_page rule n rest (whole_outcome given S log buffer)
  unfolding judged_page
  held_page rule n rest a h new r e = ap (judged_page rule n rest) (ap (λ (x : Result ℕ Refusal). whole_of x new) (sym r) ∙ e)

  -- the answer Err: its line
  pub refused_page : (rule n : ℕ) (rest : List ℕ) (a : Result ℕ Refusal) (q : Refusal) (new : List ℕ) → a ≡ Err q → whole_of a new ≡ whole_outcome given S log buffer
      → is_held a ≡ eqb (whole_number given log buffer) 0 → refusal_line (refusal_number q) 0 ≡ judged_page rule n rest (whole_outcome given S log buffer)
  refused_page rule n rest a q new r e f =
      let w : whole_of (Err q) new ≡ whole_outcome given S log buffer = ap (λ (x : Result ℕ Refusal). whole_of x new) (sym r) ∙ e in
      let n₁ : refusal_number q ≡ whole_number given log buffer = ap (λ (x : Whole). x.number) w ∙ whole-number given S log buffer in
      let z : whole_number given log buffer ≡ 0 → ⊥ = eqb-false (whole_number given log buffer) 0 (sym (ap is_held (sym r) ∙ f)) in
      refused_line rule n rest (refusal_number q) new (λ e₀. z (sym n₁ ∙ e₀)) ∙ ap (judged_page rule n rest) w

-- a walk that is shown: its line
pub shown_page : (n : ℕ) (new : List ℕ) (w : Result ℕ Refusal) (s : Shown) → w ≡ Ok n → walk.answer_of w new ≡ s → walk_line (take n new) ≡ shown_line s
unfolding shown_line walk.answer_of
shown_page n new w s r e = ap (λ (x : Result ℕ Refusal). shown_line (walk.answer_of x new)) (sym r) ∙ ap shown_line e

-- no walk is shown: its line
pub unshown_page : (q : ℕ) (new : List ℕ) (s : Shown) → (q ≡ 0 → ⊥) → record { number = q; count = 0; buffer = new } ≡ s → refused_walk q ≡ shown_line s
unfolding shown_line
unshown_page zero new s z e = absurd (z refl)
unshown_page (suc q) new s z e = ap shown_line e
