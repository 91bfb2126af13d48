-- The two forms of a log, read as one: the reading by form is the definition's of each, and what a log that was read says of its first line and of its words.
use Rattle.std.proofs.Common.{◌≡◌, ℕ, ◌+◌, ◌<◌, ◌≤◌, Bool, true, false, eqb, ltb, leb, List, [], ◌∷◌, length, take, drop, sym, refl, ap, ◌∙◌, arith, ltb-true, eqb-true, leb-true}
use Rattle.aldlf.specs.Constants.{entry_limit}
use Rattle.text.specs.Text.{byte_limit, lf, lines, ends_in_lf, up_to}
use Rattle.text.proofs.Lines.{lines_step}
use Rattle.joblog.specs.Log.{LogRead, entries, refused, choose, after, entry, read_lines, fits, as_text, read_log, question_of, word_in, facts_of}
use Rattle.joblog.specs.Counted.{counter_limit, next_counter, counter_at, facts_at, counted_question, counted_lines, read_counted}
use Rattle.joblog.specs.Steps.{facts_by, question_by, due_by, lines_by, read_by, words_by}

-- Each form -----------------------------------------------------------------------------------------------------------------------

pub lines_plain : (due k : ℕ) (ls : List (List ℕ)) → lines_by false due k ls ≡ read_lines k ls
unfolding lines_by read_lines
lines_plain due k [] = refl
lines_plain due k (l ∷ ls) = ap (entry k (question_of (facts_of l)) (facts_of l)) (lines_plain due (k + 1) ls)

pub lines_counted : (due k : ℕ) (ls : List (List ℕ)) → lines_by true due k ls ≡ counted_lines due k ls
unfolding lines_by counted_lines
lines_counted due k [] = refl
lines_counted due k (l ∷ ls) = ap (entry k (counted_question due l) (facts_at l)) (lines_counted (next_counter (counter_at l)) (k + 1) ls)

module _ (text : List ℕ) (room : ℕ) where
  pub read_plain : read_by false text room ≡ read_log text room
  unfolding read_by read_log
  read_plain = ap (as_text text room) (lines_plain counter_limit 0 (lines text))

  pub read-counted : read_by true text room ≡ read_counted text room
  unfolding read_by read_counted
  read-counted = ap (as_text text room) (lines_counted counter_limit 0 (lines text))

-- Lines that were read ------------------------------------------------------------------------------------------------------------

-- what lines read to words say of the first
pub record Taken (counted : Bool) (due k : ℕ) (l : List ℕ) (ls : List (List ℕ)) (ws : List ℕ) : Type 0 where
  pub limit : k < entry_limit
  pub asked : question_by counted due l ≡ 0
  pub word : ws ≡ word_in (facts_by counted l) ∷ drop 1 ws
  pub rest : lines_by counted (due_by counted due l) (k + 1) ls ≡ entries (drop 1 ws)

after-entries : (w : ℕ) (r : LogRead) (ws : List ℕ) → after w r ≡ entries ws → (ws ≡ w ∷ drop 1 ws) × (r ≡ entries (drop 1 ws))
after-entries w (entries vs) ws e = let p : w ∷ vs ≡ ws = cc in rw (← p) (refl, refl)
after-entries w (refused q k) ws e = let z : ◌≡◌ {A = ℕ} 0 1 = cc in absurd (omega arith)

taken_go : (w q k : ℕ) (r : LogRead) (ws : List ℕ) (t u : Bool) → choose t (choose u (after w r) (refused q (k + 1))) (refused 23 (k + 1)) ≡ entries ws → (t ≡ true) × (u ≡ true) × (ws ≡ w ∷ drop 1 ws) × (r ≡ entries (drop 1 ws))
taken_go w q k r ws true true e = let a = after-entries w r ws e in (refl, refl, a.0, a.1)
taken_go w q k r ws true false e = let z : ◌≡◌ {A = ℕ} 0 1 = cc in absurd (omega arith)
taken_go w q k r ws false u e = let z : ◌≡◌ {A = ℕ} 0 1 = cc in absurd (omega arith)

pub taken : (counted : Bool) (due k : ℕ) (l : List ℕ) (ls : List (List ℕ)) (ws : List ℕ) → lines_by counted due k (l ∷ ls) ≡ entries ws → Taken counted due k l ls ws
unfolding lines_by
taken counted due k l ls ws e =
    let q = question_by counted due l in
    let t = taken_go (word_in (facts_by counted l)) q k (lines_by counted (due_by counted due l) (k + 1) ls) ws (ltb k entry_limit) (eqb q 0) e in
    record { limit = ltb-true k entry_limit t.0; asked = eqb-true q 0 t.1; word = t.2; rest = t.3 }

-- the words read are those of the lines
pub words-by : (counted : Bool) (due k : ℕ) (ls : List (List ℕ)) (ws : List ℕ) → lines_by counted due k ls ≡ entries ws → ws ≡ words_by counted ls
unfolding lines_by words_by
words-by counted due k [] ws e = cc
words-by counted due k (l ∷ ls) ws e =
    let t = taken counted due k l ls ws e in
    t.word ∙ ap (λ (vs : List ℕ). word_in (facts_by counted l) ∷ vs) (words-by counted (due_by counted due l) (k + 1) ls (drop 1 ws) t.rest)

-- a text that ends in LF has a line
pub first_taken : (counted : Bool) (due : ℕ) (text ws : List ℕ) → ends_in_lf text ≡ true → lines_by counted due 0 (lines text) ≡ entries ws → Taken counted due 0 (take (up_to lf text) text) (lines (drop (up_to lf text + 1) text)) ws
first_taken counted due [] ws l e = let z : ◌≡◌ {A = ℕ} 0 1 = cc in absurd (omega arith)
first_taken counted due (b ∷ bs) ws l e =
    let text = b ∷ bs in
    taken counted due 0 (take (up_to lf text) text) (lines (drop (up_to lf text + 1) text)) ws (sym (ap (lines_by counted due 0) (lines_step text (omega arith))) ∙ e)

-- A log that was read got a yes to each question ----------------------------------------------------------------------------------

fits_go : (room : ℕ) (ws vs : List ℕ) (t : Bool) → leb (length vs) room ≡ t → choose t (entries vs) (refused 27 0) ≡ entries ws → (vs ≡ ws) × (length ws ≤ room)
fits_go room ws vs true e h = let z : vs ≡ ws = cc in (z, omega (arith, leb-true (length vs) room e, ap length z))
fits_go room ws vs false e h = let z : ◌≡◌ {A = ℕ} 0 1 = cc in absurd (omega arith)

fitting : (room : ℕ) (ws : List ℕ) (r : LogRead) → fits room r ≡ entries ws → (r ≡ entries ws) × (length ws ≤ room)
fitting room ws (entries vs) h = let f = fits_go room ws vs (leb (length vs) room) refl h in (ap entries f.0, f.1)
fitting room ws (refused q k) h = let z : ◌≡◌ {A = ℕ} 0 1 = cc in absurd (omega arith)

asked_go : (room : ℕ) (ws : List ℕ) (r : LogRead) (a b : Bool) → choose a (choose b (fits room r) (refused 22 0)) (refused 21 0) ≡ entries ws → (a ≡ true) × (b ≡ true) × (r ≡ entries ws) × (length ws ≤ room)
asked_go room ws r true true h = let f = fitting room ws r h in (refl, refl, f.0, f.1)
asked_go room ws r true false h = let z : ◌≡◌ {A = ℕ} 0 1 = cc in absurd (omega arith)
asked_go room ws r false b h = let z : ◌≡◌ {A = ℕ} 0 1 = cc in absurd (omega arith)

pub record Granted (counted : Bool) (text : List ℕ) (room : ℕ) (ws : List ℕ) : Type 0 where
  pub bytes≤ : length text ≤ byte_limit
  pub ended : ends_in_lf text ≡ true
  pub read : lines_by counted counter_limit 0 (lines text) ≡ entries ws
  pub room≤ : length ws ≤ room

pub granted : (counted : Bool) (text : List ℕ) (room : ℕ) (ws : List ℕ) → read_by counted text room ≡ entries ws → Granted counted text room ws
unfolding read_by
granted counted text room ws e =
    let a = asked_go room ws (lines_by counted counter_limit 0 (lines text)) (leb (length text) byte_limit) (ends_in_lf text) e in
    record { bytes≤ = leb-true (length text) byte_limit a.0; ended = a.1; read = a.2; room≤ = a.3 }
