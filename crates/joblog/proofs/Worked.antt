-- Logs worked by hand, by computation: each with the words of its lent buffer counted, and what is read. Steps between counters, and entries found.
use Rattle.std.proofs.Common.{◌≡◌, ℕ, zero, suc, List, [], ◌∷◌, refl}
use Rattle.text.specs.Text.{pieces, lines, up_to, number, number_in, all_digits, value_of}
use Rattle.joblog.specs.Log.{LogRead, entries, refused, read_log, read_lines, facts_of, all_below, rising, word_of}
use Rattle.joblog.specs.Counted.{steps_between, counted_question, counted_lines, read_counted, without_counters, first_counter, Lookup, entry_bearing}

pub record Example : Type 0 where
  pub text : List ℕ
  pub room : ℕ
  pub gives : LogRead

abbrev pub AllGive : List Example → Type 0
AllGive [] = Unit {0}
AllGive (e ∷ es) = (read_log e.text e.room ≡ e.gives) × AllGive es

-- n lines of a lone `-`
unfoldable pub dashes : ℕ → List ℕ
dashes zero = []
dashes (suc n) = 45 ∷ 10 ∷ dashes n

-- `0` `1` `2` `-`; `0,31`; `07` `-` `00,007,031`; nothing; `1,1`; `7,07`; `32,1`; `32,x`; `-` `0007`; `-` and an empty line; `3,`; `-,1`; two entries and one word;
-- 513 entries
abbrev pub examples : List Example
examples =
    record { text = 48 ∷ 10 ∷ 49 ∷ 10 ∷ 50 ∷ 10 ∷ 45 ∷ 10 ∷ []; room = 4; gives = entries (1 ∷ 2 ∷ 4 ∷ 0 ∷ []) }
    ∷ record { text = 48 ∷ 44 ∷ 51 ∷ 49 ∷ 10 ∷ []; room = 4; gives = entries (2147483649 ∷ []) }
    ∷ record { text = 48 ∷ 55 ∷ 10 ∷ 45 ∷ 10 ∷ 48 ∷ 48 ∷ 44 ∷ 48 ∷ 48 ∷ 55 ∷ 44 ∷ 48 ∷ 51 ∷ 49 ∷ 10 ∷ []; room = 4; gives = entries (128 ∷ 0 ∷ 2147483777 ∷ []) }
    ∷ record { text = []; room = 4; gives = refused 22 0 }
    ∷ record { text = 49 ∷ 44 ∷ 49 ∷ 10 ∷ []; room = 4; gives = refused 26 1 }
    ∷ record { text = 55 ∷ 44 ∷ 48 ∷ 55 ∷ 10 ∷ []; room = 4; gives = refused 26 1 }
    ∷ record { text = 51 ∷ 50 ∷ 44 ∷ 49 ∷ 10 ∷ []; room = 4; gives = refused 25 1 }
    ∷ record { text = 51 ∷ 50 ∷ 44 ∷ 120 ∷ 10 ∷ []; room = 4; gives = refused 24 1 }
    ∷ record { text = 45 ∷ 10 ∷ 48 ∷ 48 ∷ 48 ∷ 55 ∷ 10 ∷ []; room = 4; gives = refused 24 2 }
    ∷ record { text = 45 ∷ 10 ∷ 10 ∷ []; room = 4; gives = refused 24 2 }
    ∷ record { text = 51 ∷ 44 ∷ 10 ∷ []; room = 4; gives = refused 24 1 }
    ∷ record { text = 45 ∷ 44 ∷ 49 ∷ 10 ∷ []; room = 4; gives = refused 24 1 }
    ∷ record { text = 45 ∷ 10 ∷ 45 ∷ 10 ∷ []; room = 1; gives = refused 27 0 }
    ∷ record { text = dashes 513; room = 600; gives = refused 23 513 }
    ∷ []

pub all_give : AllGive examples
unfolding dashes read_log read_lines facts_of all_below rising word_of pieces lines number number_in all_digits value_of
all_give = (refl, (refl, (refl, (refl, (refl, (refl, (refl, (refl, (refl, (refl, (refl, (refl, (refl, (refl, tt))))))))))))))

-- The second form -----------------------------------------------------------------------------------------------------------------

abbrev pub AllCounted : List Example → Type 0
AllCounted [] = Unit {0}
AllCounted (e ∷ es) = (read_counted e.text e.room ≡ e.gives) × AllCounted es

-- `65534,0` `65535,-` `0,1,2`; `00007,31`; `1,2`; `7,-` `9,-`; `7,-` `7,-`; `5`; `5,`; `,1`; an empty line; `-,1`; `99999,x`; `70000,32`; `65536,-`; `000007,-`; `5,-` `9,32`; `5,-` `6,32`; `5,-` `6,2,1`; `5,-,1`; `5,07`; two entries and one word
abbrev pub counted_examples : List Example
counted_examples =
    record { text = 54 ∷ 53 ∷ 53 ∷ 51 ∷ 52 ∷ 44 ∷ 48 ∷ 10 ∷ 54 ∷ 53 ∷ 53 ∷ 51 ∷ 53 ∷ 44 ∷ 45 ∷ 10 ∷ 48 ∷ 44 ∷ 49 ∷ 44 ∷ 50 ∷ 10 ∷ []; room = 4; gives = entries (1 ∷ 0 ∷ 6 ∷ []) }
    ∷ record { text = 48 ∷ 48 ∷ 48 ∷ 48 ∷ 55 ∷ 44 ∷ 51 ∷ 49 ∷ 10 ∷ []; room = 4; gives = entries (2147483648 ∷ []) }
    ∷ record { text = 49 ∷ 44 ∷ 50 ∷ 10 ∷ []; room = 4; gives = entries (4 ∷ []) }
    ∷ record { text = 55 ∷ 44 ∷ 45 ∷ 10 ∷ 57 ∷ 44 ∷ 45 ∷ 10 ∷ []; room = 4; gives = refused 29 2 }
    ∷ record { text = 55 ∷ 44 ∷ 45 ∷ 10 ∷ 55 ∷ 44 ∷ 45 ∷ 10 ∷ []; room = 4; gives = refused 29 2 }
    ∷ record { text = 53 ∷ 10 ∷ []; room = 4; gives = refused 24 1 }
    ∷ record { text = 53 ∷ 44 ∷ 10 ∷ []; room = 4; gives = refused 24 1 }
    ∷ record { text = 44 ∷ 49 ∷ 10 ∷ []; room = 4; gives = refused 28 1 }
    ∷ record { text = 10 ∷ []; room = 4; gives = refused 24 1 }
    ∷ record { text = 45 ∷ 44 ∷ 49 ∷ 10 ∷ []; room = 4; gives = refused 28 1 }
    ∷ record { text = 57 ∷ 57 ∷ 57 ∷ 57 ∷ 57 ∷ 44 ∷ 120 ∷ 10 ∷ []; room = 4; gives = refused 24 1 }
    ∷ record { text = 55 ∷ 48 ∷ 48 ∷ 48 ∷ 48 ∷ 44 ∷ 51 ∷ 50 ∷ 10 ∷ []; room = 4; gives = refused 28 1 }
    ∷ record { text = 54 ∷ 53 ∷ 53 ∷ 51 ∷ 54 ∷ 44 ∷ 45 ∷ 10 ∷ []; room = 4; gives = refused 28 1 }
    ∷ record { text = 48 ∷ 48 ∷ 48 ∷ 48 ∷ 48 ∷ 55 ∷ 44 ∷ 45 ∷ 10 ∷ []; room = 4; gives = refused 28 1 }
    ∷ record { text = 53 ∷ 44 ∷ 45 ∷ 10 ∷ 57 ∷ 44 ∷ 51 ∷ 50 ∷ 10 ∷ []; room = 4; gives = refused 29 2 }
    ∷ record { text = 53 ∷ 44 ∷ 45 ∷ 10 ∷ 54 ∷ 44 ∷ 51 ∷ 50 ∷ 10 ∷ []; room = 4; gives = refused 25 2 }
    ∷ record { text = 53 ∷ 44 ∷ 45 ∷ 10 ∷ 54 ∷ 44 ∷ 50 ∷ 44 ∷ 49 ∷ 10 ∷ []; room = 4; gives = refused 26 2 }
    ∷ record { text = 53 ∷ 44 ∷ 45 ∷ 44 ∷ 49 ∷ 10 ∷ []; room = 4; gives = refused 24 1 }
    ∷ record { text = 53 ∷ 44 ∷ 48 ∷ 55 ∷ 10 ∷ []; room = 4; gives = entries (128 ∷ []) }
    ∷ record { text = 53 ∷ 44 ∷ 45 ∷ 10 ∷ 54 ∷ 44 ∷ 45 ∷ 10 ∷ []; room = 1; gives = refused 27 0 }
    ∷ []

pub all_counted : AllCounted counted_examples
unfolding read_counted counted_lines counted_question facts_of all_below rising word_of up_to pieces lines number number_in all_digits value_of
all_counted = (refl, (refl, (refl, (refl, (refl, (refl, (refl, (refl, (refl, (refl, (refl, (refl, (refl, (refl, (refl, (refl, (refl, (refl, (refl, (refl, tt))))))))))))))))))))

-- a log whose first line is `65534,0`, and one of `00007,31`
pub firsts_worked : (first_counter (54 ∷ 53 ∷ 53 ∷ 51 ∷ 52 ∷ 44 ∷ 48 ∷ 10 ∷ []) ≡ 65534) × (first_counter (48 ∷ 48 ∷ 48 ∷ 48 ∷ 55 ∷ 44 ∷ 51 ∷ 49 ∷ 10 ∷ []) ≡ 7)
unfolding up_to number_in all_digits value_of
firsts_worked = (refl, refl)

-- `7,0` and `8,-` without their counters are `0` and `-`
pub without_worked : without_counters ((55 ∷ 44 ∷ 48 ∷ []) ∷ (56 ∷ 44 ∷ 45 ∷ []) ∷ []) ≡ 48 ∷ 10 ∷ 45 ∷ 10 ∷ []
unfolding without_counters up_to
without_worked = refl

-- from 65,535 to 0, from 0 to 65,535, from 5 to itself, from 10 to 3
pub steps_worked : (steps_between 65535 0 ≡ 1) × (steps_between 0 65535 ≡ 65535) × (steps_between 5 5 ≡ 0) × (steps_between 10 3 ≡ 65529)
steps_worked = (refl, refl, refl, refl)

-- of three entries from 65,534 on: those of 65,534, 65,535 and 0, none of 1 or 65,533; no entry, 513; the last of 512, and the next
abbrev pub at : ℕ → Lookup
at i = record { number = 0; entry = i }

abbrev pub no : ℕ → Lookup
no q = record { number = q; entry = 0 }

pub lookups_worked : (entry_bearing 65534 3 65534 ≡ at 0) × (entry_bearing 65534 3 65535 ≡ at 1) × (entry_bearing 65534 3 0 ≡ at 2) × (entry_bearing 65534 3 1 ≡ no 30) × (entry_bearing 65534 3 65533 ≡ no 30)
    × (entry_bearing 7 0 7 ≡ no 32) × (entry_bearing 7 513 7 ≡ no 32) × (entry_bearing 7 512 518 ≡ at 511) × (entry_bearing 7 512 519 ≡ no 30)
unfolding entry_bearing
lookups_worked = (refl, refl, refl, refl, refl, refl, refl, refl, refl)
