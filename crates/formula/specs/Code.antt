-- A formula as a list of instructions, in the order in which its sheet is made: what reading a text writes down, and what the sheet is then made from.
use Rattle.std.specs.Prelude.{ℕ, List, [], ◌∷◌, ◌++◌}
use Rattle.aldlf.specs.Sheet.{Dir, ahead, back, stay}
use Rattle.formula.specs.Formula.{Formula, always, fact, neg, both, either, some, every, Path, step, seq, alt, many}

-- A number below 32 makes the node of that fact. `T`: the node of `true`.
abbrev pub code_true : ℕ
code_true = 84

-- `,`: the last node is kept as a left side, until `&` or `|` joins it and the last node.
abbrev pub code_keep : ℕ
code_keep = 44

abbrev pub code_and : ℕ
code_and = 38

abbrev pub code_or : ℕ
code_or = 124

-- `!`: a negation is kept, until `.` makes the node of what was kept last on the last node.
abbrev pub code_not : ℕ
code_not = 33

abbrev pub code_apply : ℕ
code_apply = 46

-- `{`: a path begins; `>` and `]`: it ends, its automaton is made, and D or B on it is kept for a `.`.
abbrev pub code_begin : ℕ
code_begin = 123

abbrev pub code_some : ℕ
code_some = 62

abbrev pub code_every : ℕ
code_every = 93

-- `a`, `b`, `t`: a step ahead, a step back, a test, each of the last node.
abbrev pub code_step : Dir → ℕ
code_step ahead = 97
code_step back = 98
code_step stay = 116

-- `:`: the last part of the path is kept as a left side, until `;` or `+` joins it and the last part.
abbrev pub code_keep_part : ℕ
code_keep_part = 58

abbrev pub code_seq : ℕ
code_seq = 59

abbrev pub code_alt : ℕ
code_alt = 43

-- `*`: the last part any number of times.
abbrev pub code_many : ℕ
code_many = 42

abbrev mutual
  -- The instructions of a formula.
  pub code : Formula → List ℕ
  code always = code_true ∷ []
  code (fact f) = f ∷ []
  code (neg a) = code_not ∷ (code a ++ (code_apply ∷ []))
  code (both a b) = code a ++ (code_keep ∷ (code b ++ (code_and ∷ [])))
  code (either a b) = code a ++ (code_keep ∷ (code b ++ (code_or ∷ [])))
  code (some p a) = code_begin ∷ (code_in p ++ (code_some ∷ (code a ++ (code_apply ∷ []))))
  code (every p a) = code_begin ∷ (code_in p ++ (code_every ∷ (code a ++ (code_apply ∷ []))))

  -- The instructions of a path.
  pub code_in : Path → List ℕ
  code_in (step d a) = code a ++ (code_step d ∷ [])
  code_in (seq p q) = code_in p ++ (code_keep_part ∷ (code_in q ++ (code_seq ∷ [])))
  code_in (alt p q) = code_in p ++ (code_keep_part ∷ (code_in q ++ (code_alt ∷ [])))
  code_in (many p) = code_in p ++ (code_many ∷ [])
