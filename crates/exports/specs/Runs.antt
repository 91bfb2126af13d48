-- Runs of `rozsvelen_judge_part`: one table, one way and one lent row, which every call may change in place.
use Rattle.std.specs.Prelude.{ℕ, ◌*◌, true, false, cond, List, [], ◌∷◌, eqb, length, take}
use Rattle.aldlf.specs.Parts.{join}
use Rattle.aldlf.specs.Run.{Call, Stand}
use Rattle.crossing.specs.Numbers.{row_of}
use Rattle.exports.specs.Answers.{accepted}
use Rattle.exports.specs.Judging.{way_of, PartOutcome, judge_part_outcome}

-- The lent row is as the call leaves it; an accepted call joins its words and its verdicts, in the order of its way.
abbrev pub after_part : ℕ → Stand → Call → PartOutcome → Stand
after_part way st c a =
    cond (eqb a.answer (accepted 0))
    (record { row = row_of a.row; answered = true; joined = join (way_of way) c.words st.joined; verdicts = join (way_of way) (take (2 * length c.words) a.verdicts) st.verdicts })
    (record { row = row_of a.row; answered = st.answered; joined = st.joined; verdicts = st.verdicts })

-- The calls of a run in order, each lent the row as the one before left it.
abbrev pub parts_from : List ℕ → ℕ → Stand → List Call → Stand
parts_from table way st [] = st
parts_from table way st (c ∷ cs) = parts_from table way (after_part way st c (judge_part_outcome table way st.row.bits c.words c.buffer)) cs

-- A run, from the lent row as it is at its start.
unfoldable pub parts_run : List ℕ → ℕ → List ℕ → List Call → Stand
parts_run table way row calls = parts_from table way (record { row = row_of row; answered = false; joined = []; verdicts = [] }) calls
