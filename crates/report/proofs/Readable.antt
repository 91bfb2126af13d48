-- THE PAGE OF A SHEET AND A LOG THAT WERE BOTH READ IS NO REFUSAL: the verdicts, the count held, and the rule's walk or `walk,none`.
-- Of the questions that are left, 31 to 33, 36, 37 and 40 get a yes; 38 and 39 are printed as `walk,none`.
use Prim.Native.Nat.{ℕ, zero, suc, ◌*◌, ◌≤◌}
use mathlib.Core.Path.{◌≡◌, refl, ap, sym, ◌∙◌, subst}
use mathlib.Core.Logic.{◌⊎◌, inl, inr}
use mathlib.Core.Bool.{Bool, true, false, false≢true}
use mathlib.Core.List.{List, [], ◌∷◌, ◌++◌}
use mathlib.Core.Option.{Option, none, some}
use native.Mathlib.Omega.{arith}
use borrow.Author.Tests.{le-leb, lt-ltb}
use lib.ListN.{length, take, drop, replicate, length-replicate}
use lib.Seq.{take_at}
use lib.Dec.{leb, ltb}
use Rattle.aldlf.specs.Constants.{entry_limit}
use Rattle.aldlf.specs.Sheet.{Sheet, Line, T, F, P, N, A, O, D, B, by_mode, sheet_of}
use Rattle.aldlf.specs.Outcomes.{first_no, log_fits, log_words, held_in, whole_number, whole_outcome}
use Rattle.aldlf.specs.Walks.{walk_by, walk_of, walk_outcome}
use Rattle.aldlf.specs.declared.Table.{Table}
use Rattle.aldlf.proofs.Bools.{bool_cases, and_intro}
use Rattle.aldlf.proofs.Outcomes.{whole-number, whole_held, whole_words}
use Rattle.sheet.specs.Questions.{read_sheet}
use Rattle.sheet.specs.Given.{well_formed}
use Rattle.sheet.proofs.Facts.{table_facts}
use Rattle.sheet.proofs.Question31.{read_well_formed}
use Rattle.joblog.specs.Log.{entries, read_log}
use Rattle.joblog.proofs.Answers.{Accepted, Sound, sound_log}
use Rattle.walk.proofs.Questions.{shown_by, by_room, refusal, outcome_38, outcome_walk}
use Rattle.walk.proofs.Shown.{short}
use Rattle.lines.specs.Lines.{verdict_lines, walk_line, no_walk_line}
use Rattle.report.specs.Page.{walk_limit, rule_of, lent_words, refused_walk, shown_line, walk_page, judged_page, table_page, log_page, rule_page, page_of}
use Rattle.report.specs.Readable.{walk_or_none, read_page}
use Rattle.report.proofs.Accepted.{sheet_accepted}
use Rattle.report.proofs.Pages.{sheet_read}

all_yes : (a b c : Bool) → a ≡ true → b ≡ true → c ≡ true → first_no ((a, 31) ∷ (b, 32) ∷ (c, 33) ∷ []) ≡ 0
all_yes a b c p q r = rw (p, q, r)

-- an accepted judging
judged_yes : (rule n : ℕ) (rest : List ℕ) (q h : ℕ) (b : List ℕ) → q ≡ 0 → judged_page rule n rest (record { number = q; held = h; buffer = b }) ≡ verdict_lines rule h (take (2 * n) b) ++ rest
unfolding judged_page
judged_yes rule n rest zero h b z = refl
judged_yes rule n rest (suc q) h b z = absurd (omega arith)

-- a line that is no D and no B has no walk
no_walk : (S : Sheet) (log : List ℕ) (k i : ℕ) (l : Line) → by_mode (λ m a. true) (λ m a. true) false l ≡ false → walk_by S log k i l ≡ none
no_walk S log k i T e = refl
no_walk S log k i F e = refl
no_walk S log k i (P f) e = refl
no_walk S log k i (N a) e = refl
no_walk S log k i (A a b) e = refl
no_walk S log k i (O a b) e = refl
no_walk S log k i (D m a) e = absurd (false≢true (sym e))
no_walk S log k i (B m a) e = absurd (false≢true (sym e))

-- a walk with room for it
room_line : (es buffer : List ℕ) (b : Bool) → b ≡ true → shown_line (by_room b es buffer) ≡ walk_line es
unfolding shown_line
room_line es buffer true e = ap walk_line (take_at es (drop (length es) buffer) (length es) refl)
room_line es buffer false e = absurd (false≢true e)

-- 38 and 39
none_line : (buffer : List ℕ) → (shown_line (refusal 38 buffer) ≡ no_walk_line) × (shown_line (refusal 39 buffer) ≡ no_walk_line)
unfolding shown_line refused_walk
none_line buffer = (refl, refl)

-- a table that some sheet gives, and a log of 1 to 512 entries
module _ (t : Table) (log : List ℕ) (given : well_formed t ≡ true) (some-entry : 1 ≤ length log) (few : length log ≤ entry_limit) where
  abbrev S : Sheet
  S = sheet_of t

  abbrev lent : List ℕ
  lent = replicate walk_limit 0

  fits : log_fits log ≡ true
  fits = and_intro (le-leb 1 (length log) some-entry) (le-leb (length log) entry_limit few)

  -- the log is judged
  pub judged : (whole_outcome (well_formed t) S log lent_words).number ≡ 0
  unfolding whole_number
  judged =
      whole-number (well_formed t) S log lent_words
      ∙ all_yes (well_formed t) (log_fits log) (leb (2 * length log) (length lent_words)) given fits (le-leb (2 * length log) (length lent_words) (omega (arith, length-replicate {A = ℕ} (2 * entry_limit) 0)))

  -- the words that the page reads are those of the log
  pub words : take (2 * length log) (whole_outcome (well_formed t) S log lent_words).buffer ≡ log_words S log
  words = whole_words (well_formed t) S log lent_words judged

  rule_there : ltb (rule_of t) S.nodes ≡ true
  unfolding sheet_of
  rule_there = lt-ltb (rule_of t) S.nodes (omega (arith, (table_facts t given).some_node))

  first_there : ltb 0 (length log) ≡ true
  first_there = lt-ltb 0 (length log) (omega arith)

  walk-line : (o : Option (List ℕ)) → walk_of S log (rule_of t) 0 ≡ o → shown_line (shown_by o lent) ≡ walk_or_none o
  walk-line none e = (none_line lent).1
  walk-line (some es) e =
      let l = short t log (rule_of t) 0 given fits (omega arith) es e in
      room_line es lent (leb (length es) (length lent)) (le-leb (length es) (length lent) (omega (arith, length-replicate {A = ℕ} walk_limit 0)))

  by_line : (by_mode (λ m a. true) (λ m a. true) false (S.line (rule_of t)) ≡ true) ⊎ (by_mode (λ m a. true) (λ m a. true) false (S.line (rule_of t)) ≡ false)
      → shown_line (walk_outcome true S log (rule_of t) 0 lent) ≡ walk_or_none (walk_of S log (rule_of t) 0)
  unfolding walk_of
  by_line (inl m) = ap shown_line (outcome_walk S log (rule_of t) 0 lent fits rule_there first_there m) ∙ walk-line (walk_of S log (rule_of t) 0) refl
  by_line (inr m) =
      ap shown_line (outcome_38 S log (rule_of t) 0 lent fits rule_there first_there m) ∙ (none_line lent).0 ∙ sym (ap walk_or_none (no_walk S log (rule_of t) 0 (S.line (rule_of t)) m))

  -- the rule's walk, or `walk,none`
  walk-page : walk_page t log ≡ walk_or_none (walk_of S log (rule_of t) 0)
  unfolding walk_page
  walk-page =
      ap (λ (g : Bool). shown_line (walk_outcome g S log (rule_of t) 0 lent)) given
      ∙ by_line (bool_cases (by_mode (λ m a. true) (λ m a. true) false (S.line (rule_of t))))

  -- the page of such a table and log
  pub table-page : table_page t log ≡ read_page t log
  unfolding table_page read_page
  table-page =
      let o = whole_outcome (well_formed t) S log lent_words in
      judged_yes (rule_of t) (length log) (walk_page t log) o.number o.held o.buffer judged
      ∙ ap (λ (h : ℕ). verdict_lines (rule_of t) h (take (2 * length log) o.buffer) ++ walk_page t log) (whole_held (well_formed t) S log lent_words judged)
      ∙ ap (λ (ws : List ℕ). verdict_lines (rule_of t) (held_in S log) ws ++ walk_page t log) words
      ∙ ap (λ (l : List ℕ). verdict_lines (rule_of t) (held_in S log) (log_words S log) ++ l) walk-page

-- a table that some sheet gives and a log that was read: the page is their verdicts and the rule's walk
pub log_page_read : (t : Table) (steps log : List ℕ) → well_formed t ≡ true → read_log steps entry_limit ≡ entries log → rule_page t steps ≡ read_page t log
unfolding rule_page
log_page_read t steps log given e =
    let x : Accepted entry_limit log = subst (Sound entry_limit) e (sound_log steps entry_limit) in
    ap (log_page t) e ∙ table-page t log given x.some x.limit

-- so of a sheet that was read
pub read-page : (rules steps log : List ℕ) → (read_sheet rules).number ≡ 0 → read_log steps entry_limit ≡ entries log → page_of rules steps ≡ read_page (read_sheet rules).table log
unfolding page_of
read-page rules steps log z e =
    let t = (read_sheet rules).table in
    sheet_read (read_sheet rules) steps z ∙ log_page_read t steps log (read_well_formed rules t (sheet_accepted rules z)) e
