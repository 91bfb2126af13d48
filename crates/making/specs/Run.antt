-- Instructions run one after the other: what each does to what is made and to what is kept.
use Rattle.std.specs.Prelude.{ℕ, Option, Some, None, Bool, true, false, cond, ◌||◌, List, [], ◌∷◌, eqb, ltb}
use Rattle.aldlf.specs.Constants.{fact_limit, letter_t, letter_p, letter_n, letter_a, letter_o, letter_d, letter_b}
use Rattle.aldlf.specs.Sheet.{ahead, back, stay}
use Rattle.aldlf.specs.declared.Table.{Table}
use Rattle.sheet.specs.Questions.{empty_table}
use Rattle.formula.specs.Numbering.{first_table, dir_number}
use Rattle.formula.specs.Code.{code_true, code_keep, code_and, code_or, code_not, code_apply, code_begin, code_some, code_every, code_step, code_keep_part, code_seq, code_alt, code_many}
use Rattle.making.specs.declared.stack.Kept.{Kept}
use Rattle.making.specs.Work.{Made, over, live, no_outline, grown, newest_of, automaton_of, under, no_kept, node_kept, mark_kept, part_of, frame_of, begun, step_drawn, seq_drawn, alt_drawn, star_drawn, emitted}

-- What is made, and what is kept for later, the last one first.
pub record Bench : Type 0 where
  pub made : Made
  pub stack : List Kept

-- Once a limit is passed, what is kept means nothing.
abbrev pub bench : Made → List Kept → Bench
bench over s = record { made = over; stack = [] }
bench (live t o) s = record { made = live t o; stack = s }

-- What was kept last, zeros where nothing is; and the rest.
abbrev pub last_of : List Kept → Kept
last_of [] = no_kept
last_of (k ∷ s) = k

abbrev pub rest_of : List Kept → List Kept
rest_of [] = []
rest_of (k ∷ s) = s

-- Facts, `T`, `&`, `|` and `.` make a node.
abbrev pub makes_node : ℕ → Bool
makes_node k = ltb k fact_limit || eqb k code_true || eqb k code_and || eqb k code_or || eqb k code_apply

-- The node that one of them makes: `&`, `|` and `.` take what was kept last.
unfoldable pub node_on : ℕ → Made → List Kept → Bench
node_on k w s =
    cond (ltb k fact_limit) (bench (grown letter_p k 0 w) s)
    (cond (eqb k code_true) (bench (grown letter_t 0 0 w) s)
    (cond (eqb k code_and) (bench (grown letter_a (last_of s).a (newest_of w) w) (rest_of s))
    (cond (eqb k code_or) (bench (grown letter_o (last_of s).a (newest_of w) w) (rest_of s))
    (bench (under (last_of s).a (last_of s).b w) (rest_of s)))))

-- `,`, `!` and `:` keep something: the last node, a negation, the last part.
abbrev pub keeps : ℕ → Bool
keeps k = eqb k code_keep || eqb k code_not || eqb k code_keep_part

-- What one of them keeps.
unfoldable pub kept_by : ℕ → Made → Kept
kept_by k w = cond (eqb k code_keep) (node_kept (newest_of w)) (cond (eqb k code_not) (mark_kept letter_n 0) (part_of w))

-- It is kept on top.
abbrev pub kept_on : ℕ → Made → List Kept → Bench
kept_on k w s = bench w (kept_by k w ∷ s)

-- `{`: a path begins, and the outer one is put aside.
abbrev pub begun_on : Made → List Kept → Bench
begun_on w s = bench (begun w) (frame_of w ∷ s)

-- Steps, `*`, `;` and `+` draw the path in hand.
abbrev pub is_step : ℕ → Bool
is_step k = eqb k (code_step ahead) || eqb k (code_step back) || eqb k (code_step stay)

-- Whether it is one of them.
abbrev pub draws : ℕ → Bool
draws k = is_step k || eqb k code_many || eqb k code_seq || eqb k code_alt

-- The direction of a step.
abbrev pub dir_of : ℕ → ℕ
dir_of k = cond (eqb k (code_step ahead)) (dir_number ahead) (cond (eqb k (code_step back)) (dir_number back) (dir_number stay))

-- What one of them draws: `;` and `+` take what was kept last for their left side.
unfoldable pub drawn_on : ℕ → Made → List Kept → Bench
drawn_on k w s =
    cond (is_step k) (bench (step_drawn (dir_of k) w) s)
    (cond (eqb k code_many) (bench (star_drawn w) s)
    (cond (eqb k code_seq) (bench (seq_drawn (last_of s) w) (rest_of s))
    (bench (alt_drawn (last_of s) w) (rest_of s))))

-- `>` and `]`: the path ends, and its mark is kept for the formula behind it.
abbrev pub ends_path : ℕ → Bool
ends_path k = eqb k code_some || eqb k code_every

-- The letter of the path's mark.
abbrev pub letter_of : ℕ → ℕ
letter_of k = cond (eqb k code_some) letter_d letter_b

-- What one of them leaves: the outer path was kept last.
unfoldable pub emitted_on : ℕ → Made → List Kept → Bench
emitted_on k w s = let u = emitted (last_of s) w in bench u (mark_kept (letter_of k) (automaton_of u) ∷ rest_of s)

-- An instruction, group by group; any other byte changes nothing.
unfoldable pub exec_on : ℕ → Made → List Kept → Bench
exec_on k w s =
    cond (makes_node k) (node_on k w s)
    (cond (keeps k) (kept_on k w s)
    (cond (eqb k code_begin) (begun_on w s)
    (cond (draws k) (drawn_on k w s)
    (cond (ends_path k) (emitted_on k w s)
    (bench w s)))))

-- ONE INSTRUCTION. Nothing happens once a limit is passed.
abbrev pub exec_made : ℕ → Made → List Kept → Bench
exec_made k over s = bench over []
exec_made k (live t o) s = exec_on k (live t o) s

unfoldable pub exec : ℕ → Bench → Bench
exec k b = exec_made k b.made b.stack

-- INSTRUCTIONS ONE AFTER THE OTHER
unfoldable pub run : List ℕ → Bench → Bench
run [] b = b
run (k ∷ ks) b = run ks (exec k b)

-- Node 0 is T, and nothing is kept.
abbrev pub first_bench : Bench
first_bench = record { made = live first_table no_outline; stack = [] }

-- An outcome: a table that fits a sheet; or that a limit is passed, and then a table all zeros.
pub record Making : Type 0 where
  pub fits : Bool
  pub table : Table

-- What the code's answer stands for: nothing where a limit is passed.
abbrev pub making_by : Option Table → Making
making_by None = record { fits = false; table = empty_table }
making_by (Some t) = record { fits = true; table = t }

-- What the instructions come to: the table, or that a limit is passed.
unfoldable pub making_of : Made → Making
making_of over = record { fits = false; table = empty_table }
making_of (live t o) = record { fits = true; table = t }
