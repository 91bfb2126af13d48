-- What a log with counters is that was read: the facts of its lines as the first form reads them, and counters that follow one another.
use Rattle.std.proofs.Common.{◌≡◌, ℕ, zero, suc, ◌+◌, ◌%◌, ◌<◌, ◌≤◌, Bool, true, false, ◌||◌, eqb, ◌↔◌, List, [], ◌∷◌, map, length, get_or, take, drop, sym, refl, ap, ◌∙◌, subst, arith, length-append, length-drop, lt-ltb, eqb-true, le-leb}
use Rattle.aldlf.specs.Constants.{entry_limit}
use Rattle.text.specs.Text.{byte_limit, lf, comma, lines, line_at, up_to, ends_in_lf}
use Rattle.text.proofs.Lines.{lines_step}
use Rattle.text.proofs.Joined.{lines_cut, ends_append, free_drop, Free, lines_free}
use Rattle.text.proofs.Sizes.{size, lines_bytes}
use Rattle.joblog.specs.Log.{entries, after, read_lines, read_log, question_of, word_in, facts_of}
use Rattle.joblog.specs.Counted.{counter_limit, next_counter, counter_at, after_comma, facts_at, counted_lines, read_counted, without_counters, first_counter, entry_bearing}
use Rattle.joblog.proofs.CountedLine.{Yes, question_yes}
use Rattle.joblog.proofs.BothForms.{lines_counted, read-counted, Taken, taken, first_taken, Granted, granted}
use Rattle.joblog.proofs.Answers.{Accepted, Sound, sound_counted}
use Rattle.joblog.proofs.Circle.{lookup_iff}

read_on : (k : ℕ) (l : List ℕ) (ls : List (List ℕ)) → k < entry_limit → question_of (facts_of l) ≡ 0 → read_lines k (l ∷ ls) ≡ after (word_in (facts_of l)) (read_lines (k + 1) ls)
unfolding read_lines
read_on k l ls h z = rw (lt-ltb k entry_limit h, z)

-- what a line of a log that was read says, and the lines after it
first_line : (due k : ℕ) (l : List ℕ) (ls : List (List ℕ)) (ws : List ℕ) → counted_lines due k (l ∷ ls) ≡ entries ws
    → Taken true due k l ls ws × Yes due l × (counted_lines (next_counter (counter_at l)) (k + 1) ls ≡ entries (drop 1 ws))
first_line due k l ls ws e =
    let t = taken true due k l ls ws (lines_counted due k (l ∷ ls) ∙ e) in
    (t, question_yes due l t.asked, sym (lines_counted (next_counter (counter_at l)) (k + 1) ls) ∙ t.rest)

-- the words of lines are those that the first form reads from the first comma on
words_from : (due k : ℕ) (ls : List (List ℕ)) (ws : List ℕ) → counted_lines due k ls ≡ entries ws → read_lines k (map after_comma ls) ≡ entries ws
unfolding counted_lines read_lines
words_from due k [] ws e = e
words_from due k (l ∷ ls) ws e =
    let f = first_line due k l ls ws e in
    let i = words_from (next_counter (counter_at l)) (k + 1) ls (drop 1 ws) f.2 in
    read_on k (after_comma l) (map after_comma ls) f.0.limit f.1.facts ∙ ap (after (word_in (facts_at l))) i ∙ ap entries (sym f.0.word)

-- a text put together from lines without their counters: its lines, its last byte and its length
without_lines : (ls : List (List ℕ)) → Free ls → lines (without_counters ls) ≡ map after_comma ls
unfolding without_counters lines
without_lines [] h = refl
without_lines (l ∷ ls) h =
    lines_cut (after_comma l) (without_counters ls) (free_drop lf (up_to comma l + 1) l h.0) ∙ ap (λ (ms : List (List ℕ)). after_comma l ∷ ms) (without_lines ls h.1)

ended_go : (ls : List (List ℕ)) → ends_in_lf (lf ∷ without_counters ls) ≡ true
unfolding without_counters
ended_go [] = refl
ended_go (l ∷ ls) = ends_append (lf ∷ after_comma l) lf (without_counters ls) (ended_go ls)

without_ends : (text : List ℕ) → ends_in_lf text ≡ true → ends_in_lf (without_counters (lines text)) ≡ true
unfolding without_counters
without_ends [] h = absurd (let z : ◌≡◌ {A = ℕ} 0 1 = cc in omega arith)
without_ends (b ∷ bs) h =
    let text = b ∷ bs in
    let rest = lines (drop (up_to lf text + 1) text) in
    rw (lines_step text (omega arith)) (ends_append (after_comma (line_at text 0)) lf (without_counters rest) (ended_go rest))

without_length : (ls : List (List ℕ)) → length (without_counters ls) ≤ size ls
unfolding without_counters
without_length [] = omega arith
without_length (l ∷ ls) = omega (arith, length-append (after_comma l) (lf ∷ without_counters ls), length-drop (up_to comma l + 1) l, without_length ls)

-- a counter that is due has come
due_came : (due c : ℕ) (t : Bool) → eqb due counter_limit ≡ t → due < counter_limit → (t || eqb c due) ≡ true → c ≡ due
due_came due c true e h f = absurd (omega (arith, eqb-true due counter_limit e))
due_came due c false e h f = eqb-true c due f

follow_from : (due k : ℕ) (ls : List (List ℕ)) (ws : List ℕ) → due < counter_limit → counted_lines due k ls ≡ entries ws → (i : ℕ) → i < length ws → counter_at (get_or ls i []) ≡ (due + i) % counter_limit
unfolding counted_lines
follow_from due k [] ws h e i l = let z : [] ≡ ws = cc in absurd (omega (arith, ap length z))
follow_from due k (l ∷ ls) ws h e zero b =
    let f = first_line due k l ls ws e in
    let c : counter_at l ≡ due = due_came due (counter_at l) (eqb due counter_limit) refl h f.1.next in
    omega arith
follow_from due k (l ∷ ls) ws h e (suc i) b =
    let f = first_line due k l ls ws e in
    let c : counter_at l ≡ due = due_came due (counter_at l) (eqb due counter_limit) refl h f.1.next in
    omega (arith, follow_from (next_counter (counter_at l)) (k + 1) ls (drop 1 ws) (omega arith) f.2 i (omega (arith, ap length f.0.word)))

follow_go : (l : List ℕ) (ls : List (List ℕ)) (ws : List ℕ) → counted_lines counter_limit 0 (l ∷ ls) ≡ entries ws → (i : ℕ) → i < length ws → counter_at (get_or (l ∷ ls) i []) ≡ (counter_at l + i) % counter_limit
follow_go l ls ws e zero b = let f = first_line counter_limit 0 l ls ws e in omega (arith, f.1.counter)
follow_go l ls ws e (suc i) b =
    let f = first_line counter_limit 0 l ls ws e in
    omega (arith, follow_from (next_counter (counter_at l)) 1 ls (drop 1 ws) (omega arith) f.2 i (omega (arith, ap length f.0.word)))

lines_go : (text ws : List ℕ) → ends_in_lf text ≡ true → counted_lines counter_limit 0 (lines text) ≡ entries ws → (i : ℕ) → i < length ws → counter_at (get_or (lines text) i []) ≡ (first_counter text + i) % counter_limit
lines_go [] ws l e i b = let z : ◌≡◌ {A = ℕ} 0 1 = cc in absurd (omega arith)
lines_go (b ∷ bs) ws l e i h =
    let text = b ∷ bs in
    let s : lines text ≡ line_at text 0 ∷ lines (drop (up_to lf text + 1) text) = lines_step text (omega arith) in
    rw s (follow_go (line_at text 0) (lines (drop (up_to lf text + 1) text)) ws (ap (counted_lines counter_limit 0) (sym s) ∙ e) i h)

module _ (text : List ℕ) (room : ℕ) (ws : List ℕ) (e : read_counted text room ≡ entries ws) where
  was : Granted true text room ws
  was = granted true text room ws (read-counted text room ∙ e)

  was_lines : counted_lines counter_limit 0 (lines text) ≡ entries ws
  was_lines = sym (lines_counted counter_limit 0 (lines text)) ∙ was.read

  -- Its words are those that the first form reads from its lines without their counters.
  pub counted_words : read_log (without_counters (lines text)) room ≡ entries ws
  unfolding read_log
  counted_words =
      let w = without_lines (lines text) (lines_free text) in
      let r : read_lines 0 (lines (without_counters (lines text))) ≡ entries ws = ap (read_lines 0) w ∙ words_from counter_limit 0 (lines text) ws was_lines in
      let b : length (without_counters (lines text)) ≤ byte_limit = omega (arith, without_length (lines text), lines_bytes text was.ended, was.bytes≤) in
      rw (le-leb (length (without_counters (lines text))) byte_limit b, without_ends text was.ended, r, le-leb (length ws) room was.room≤)

  -- The counters of its entries follow one another round the circle, from the first on.
  pub counted_follow : (i : ℕ) → i < length ws → counter_at (get_or (lines text) i []) ≡ (first_counter text + i) % counter_limit
  counted_follow i h = lines_go text ws was.ended was_lines i h

  was_sound : Accepted room ws
  was_sound = subst (Sound room) e (sound_counted text room)

  -- Its first counter is one,
  pub first_small : first_counter text < counter_limit
  first_small = (question_yes counter_limit (take (up_to lf text) text) (first_taken true counter_limit text ws was.ended was.read).asked).counter

  -- and the entry found for a counter is exactly the one whose line bears it.
  pub counted_found : (c i : ℕ) → c < counter_limit → (entry_bearing (first_counter text) (length ws) c ≡ record { number = 0; entry = i }) ↔ ((i < length ws) × (counter_at (get_or (lines text) i []) ≡ c))
  counted_found c i h = ((λ p. let q = bears.0 p in (q.0, counted_follow i q.0 ∙ q.1)), (λ p. bears.1 (p.0, sym (counted_follow i p.0) ∙ p.1)))
    where
      bears : (entry_bearing (first_counter text) (length ws) c ≡ record { number = 0; entry = i }) ↔ ((i < length ws) × ((first_counter text + i) % counter_limit ≡ c))
      bears = lookup_iff (first_counter text) (length ws) c was_sound.some was_sound.limit first_small h i
