-- A log of either form judged line by line: what the lines left are judged, after those before them, is always what the whole log is.
use Rattle.std.proofs.Common.{◌≡◌, ℕ, ◌+◌, ◌<◌, ◌≤◌, Bool, List, [], ◌∷◌, Result, Ok, Err, refl, arith, le-ltb, lt-ltb, ne_eqb}
use Rattle.aldlf.specs.Constants.{entry_limit}
use Rattle.text.specs.Text.{lines}
use Rattle.joblog.specs.declared.LogRefusal.{LogRefusal}
use Rattle.joblog.specs.Log.{LogRead, entries, refused, after, word_in}
use Rattle.joblog.specs.Results.{question_number}
use Rattle.joblog.specs.Counted.{counter_limit}
use Rattle.joblog.specs.Steps.{facts_by, question_by, due_by, lines_by, JudgedFrom}
use Rattle.joblog.proofs.Results.{question_some}

-- A line --------------------------------------------------------------------------------------------------------------------------

module _ (counted : Bool) (due n : ℕ) (l : List ℕ) (ls : List (List ℕ)) where
  read_over : entry_limit ≤ n → lines_by counted due n (l ∷ ls) ≡ refused 23 (n + 1)
  unfolding lines_by
  read_over h = rw (le-ltb n entry_limit h)

  module _ (h : n < entry_limit) where
    read_no : (q : ℕ) → question_by counted due l ≡ q → (q ≡ 0 → ⊥) → lines_by counted due n (l ∷ ls) ≡ refused q (n + 1)
    unfolding lines_by
    read_no q e nz = rw (lt-ltb n entry_limit h, e, ne_eqb q 0 nz)

    read_yes : question_by counted due l ≡ 0 → lines_by counted due n (l ∷ ls) ≡ after (word_in (facts_by counted l)) (lines_by counted (due_by counted due l) (n + 1) ls)
    unfolding lines_by
    read_yes e = rw (lt-ltb n entry_limit h, e)

judged_after : (k w : ℕ) (r : LogRead) (x : Result ℕ LogRefusal) → JudgedFrom (k + 1) r x → JudgedFrom k (after w r) x
judged_after k w (entries ws) (Ok n) h = omega (arith, h)
judged_after k w (entries ws) (Err e) h = h
judged_after k w (refused q l) (Ok n) h = h
judged_after k w (refused q l) (Err e) h = h

-- Lines ---------------------------------------------------------------------------------------------------------------------------

-- the whole log is judged as the lines left are, after n others, where `due` is due
abbrev pub Standing : (counted : Bool) (text : List ℕ) (left : List (List ℕ)) (n due : ℕ) → Type 0
Standing counted text left n due = (x : Result ℕ LogRefusal) → JudgedFrom n (lines_by counted due n left) x → JudgedFrom 0 (lines_by counted counter_limit 0 (lines text)) x

module _ (counted : Bool) (text : List ℕ) (n due : ℕ) where
  abbrev Whole : Result ℕ LogRefusal → Type 0
  Whole x = JudgedFrom 0 (lines_by counted counter_limit 0 (lines text)) x

  pub standing_end : (left : List (List ℕ)) → Standing counted text left n due → left ≡ [] → Whole (Ok n)
  unfolding lines_by
  standing_end left s e = s (Ok n) (rw e (omega arith))

  module _ (left : List (List ℕ)) (line : List ℕ) (rest : List (List ℕ)) (s : Standing counted text left n due) (e : left ≡ line ∷ rest) where
    by_line : (x : Result ℕ LogRefusal) → JudgedFrom n (lines_by counted due n (line ∷ rest)) x → Whole x
    by_line x j = s x (rw e j)

    pub standing_over : entry_limit ≤ n → (e : LogRefusal) → question_number e.question ≡ 23 → e.line ≡ n + 1 → Whole (Err e)
    standing_over o e q l = by_line (Err e) (rw (read_over counted due n line rest o) (q, l))

    module _ (few : n < entry_limit) where
      pub standing_no : (e : LogRefusal) → question_by counted due line ≡ question_number e.question → e.line ≡ n + 1 → Whole (Err e)
      standing_no e q l =
          let some = question_some e.question in
          by_line (Err e) (rw (read_no counted due n line rest few (question_number e.question) q (λ z. omega arith)) (refl, l))

      pub standing_next : (next : ℕ) → question_by counted due line ≡ 0 → next ≡ due_by counted due line → Standing counted text rest (n + 1) next
      standing_next next q d x j = by_line x (rw (read_yes counted due n line rest few q) (judged_after n (word_in (facts_by counted line)) _ x (rw (← d) j)))
