-- What a log of either form reads to: words of an entry at least, within the limit and the buffer; or a question's number with a line of the log or none, never 27
-- where the buffer has the limit's room.
use Rattle.std.proofs.Common.{◌≡◌, ℕ, ◌+◌, ◌<◌, ◌≤◌, Bool, true, false, eqb, ltb, leb, List, [], ◌∷◌, length, refl, ap, subst, arith, ltb-true, leb-false, leb-true}
use borrow.Author.Tests.{eqb-false}
use Rattle.aldlf.specs.Constants.{entry_limit}
use Rattle.text.specs.Text.{byte_limit, lines, ends_in_lf}
use Rattle.joblog.specs.Log.{LogRead, entries, refused, choose, after, fits, read_log}
use Rattle.joblog.specs.Counted.{counter_limit, read_counted}
use Rattle.joblog.specs.Steps.{question_by, due_by, lines_by, read_by}
use Rattle.joblog.proofs.CountedLine.{OfLine, line_asked}
use Rattle.joblog.proofs.BothForms.{read_plain, read-counted, first_taken}

-- the words of a log that was read with `room` words lent
pub record Accepted (room : ℕ) (words : List ℕ) : Type 0 where
  pub some : 1 ≤ length words
  pub limit : length words ≤ entry_limit
  pub room≤ : length words ≤ room

-- the number and the line of a refusal
pub record Refusal (room q k : ℕ) : Type 0 where
  pub asked : 1 ≤ q
  pub number≤ : q ≤ 29
  pub line≤ : k ≤ entry_limit + 1
  pub short : q ≡ 27 → room < entry_limit

abbrev pub Sound : (room : ℕ) → LogRead → Type 0
Sound room (entries ws) = Accepted room ws
Sound room (refused q k) = Refusal room q k

-- The lines -----------------------------------------------------------------------------------------------------------------------

-- what the lines after k others read to, whatever room is lent
abbrev SoundFrom : (k : ℕ) → LogRead → Type 0
SoundFrom k (entries ws) = k + length ws ≤ entry_limit
SoundFrom k (refused q l) = (room : ℕ) → Refusal room q l

sound_after : (k w : ℕ) (r : LogRead) → SoundFrom (k + 1) r → SoundFrom k (after w r)
sound_after k w (entries ws) s = omega arith
sound_after k w (refused q l) s = s

sound_entry : (k q w : ℕ) (r : LogRead) (t u : Bool) → ltb k entry_limit ≡ t → eqb q 0 ≡ u → k ≤ entry_limit → OfLine q → (k < entry_limit → SoundFrom (k + 1) r)
    → SoundFrom k (choose t (choose u (after w r) (refused q (k + 1))) (refused 23 (k + 1)))
sound_entry k q w r true true e f h n s = sound_after k w r (s (ltb-true k entry_limit e))
sound_entry k q w r true false e f h n s = let nz = eqb-false q 0 f in λ room. record { asked = omega arith; number≤ = n.0; line≤ = omega arith; short = λ z. absurd (n.1 z) }
sound_entry k q w r false u e f h n s = λ room. record { asked = omega arith; number≤ = omega arith; line≤ = omega arith; short = λ z. absurd (omega arith) }

sound_lines : (form : Bool) (due k : ℕ) (ls : List (List ℕ)) → k ≤ entry_limit → SoundFrom k (lines_by form due k ls)
unfolding lines_by
sound_lines form due k [] h = omega arith
sound_lines form due k (l ∷ ls) h =
    sound_entry k (question_by form due l) _ (lines_by form (due_by form due l) (k + 1) ls) (ltb k entry_limit) (eqb (question_by form due l) 0) refl refl h (line_asked form due l)
    (λ i. sound_lines form (due_by form due l) (k + 1) ls (omega arith))

-- The whole log -------------------------------------------------------------------------------------------------------------------

sound_fits : (room : ℕ) (r : LogRead) → SoundFrom 0 r → ((ws : List ℕ) → r ≡ entries ws → 1 ≤ length ws) → Sound room (fits room r)
sound_fits room (entries ws) s some = go (leb (length ws) room) refl
  where
    go : (t : Bool) → leb (length ws) room ≡ t → Sound room (choose t (entries ws) (refused 27 0))
    go true e = record { some = some ws refl; limit = omega arith; room≤ = leb-true (length ws) room e }
    go false e = record { asked = omega arith; number≤ = omega arith; line≤ = omega arith; short = λ z. omega (arith, leb-false (length ws) room e) }
sound_fits room (refused q k) s some = s room

sound_text : (room : ℕ) (r : LogRead) (a b : Bool) → (b ≡ true → Sound room (fits room r)) → Sound room (choose a (choose b (fits room r) (refused 22 0)) (refused 21 0))
sound_text room r true true s = s refl
sound_text room r true false s = record { asked = omega arith; number≤ = omega arith; line≤ = omega arith; short = λ z. absurd (omega arith) }
sound_text room r false b s = record { asked = omega arith; number≤ = omega arith; line≤ = omega arith; short = λ z. absurd (omega arith) }

pub sound_by : (form : Bool) (text : List ℕ) (room : ℕ) → Sound room (read_by form text room)
unfolding read_by
sound_by form text room =
    let r = lines_by form counter_limit 0 (lines text) in
    sound_text room r (leb (length text) byte_limit) (ends_in_lf text)
    (λ l. sound_fits room r (sound_lines form counter_limit 0 (lines text) (omega arith)) (λ ws e. omega (arith, ap length (first_taken form counter_limit text ws l e).word)))

pub sound_log : (text : List ℕ) (room : ℕ) → Sound room (read_log text room)
sound_log text room = subst (Sound room) (read_plain text room) (sound_by false text room)

pub sound_counted : (text : List ℕ) (room : ℕ) → Sound room (read_counted text room)
sound_counted text room = subst (Sound room) (read-counted text room) (sound_by true text room)

-- with the limit's room question 27 never gets a no: a log that passes 23 has at most 512 lines
pub never_27 : (text : List ℕ) (k : ℕ) → read_log text entry_limit ≡ refused 27 k → ⊥
never_27 text k e = let s : Refusal entry_limit 27 k = subst (Sound entry_limit) e (sound_log text entry_limit) in omega (arith, s.short refl)
