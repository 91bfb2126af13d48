-- The instructions written so far, and one step of writing.
use Rattle.std.specs.Prelude.{ℕ, zero, suc, Bool, true, false, cond, not, ◌&&◌, ◌||◌, List, [], ◌∷◌, ◌++◌, eqb, ltb, length, take}
use Rattle.aldlf.specs.Sheet.{stay}
use Rattle.formula.specs.Code.{code_apply, code_step}
use Rattle.parsing.specs.declared.writing.Writing.{Writing}

-- The instructions, and how many there is room for; whether a path mark was read since the innermost `{`; whether one stood within an ahead or back step.
pub record Work : Type 0 where
  pub bytes : List ℕ
  pub room : ℕ
  pub modal : Bool
  pub stray : Bool

-- A mark that is kept as a number.
abbrev pub is_set : ℕ → Bool
is_set n = not (eqb n 0)

-- What the code's numbers and the lent bytes stand for.
abbrev pub work_of : Writing → List ℕ → Work
work_of w out = record { bytes = take w.length out; room = length out; modal = is_set w.modal; stray = is_set w.stray }

-- One instruction more, where there is room for so many.
abbrev pub put_in : (room b : ℕ) → List ℕ → List ℕ
put_in room b xs = cond (ltb (length xs) room) (xs ++ (b ∷ [])) xs

unfoldable pub put : ℕ → Work → Work
put b w = record { bytes = put_in w.room b w.bytes; room = w.room; modal = w.modal; stray = w.stray }

-- The same where something waits for it.
abbrev pub put_if : Bool → ℕ → Work → Work
put_if true b w = put b w
put_if false b w = w

-- As many times the instruction that makes the node of a prefix.
unfoldable pub applied : ℕ → Work → Work
applied zero w = w
applied (suc n) w = applied n (put code_apply w)

-- A step's formula begins.
unfoldable pub masked : Work → Work
masked w = record { bytes = w.bytes; room = w.room; modal = false; stray = w.stray }

-- A path ends: a path mark was read.
unfoldable pub ended : ℕ → Work → Work
ended b w = record { bytes = put_in w.room b w.bytes; room = w.room; modal = true; stray = w.stray }

-- A path mark in a step is astray unless the step is a test.
abbrev pub stray_by : ℕ → (modal stray : Bool) → Bool
stray_by b modal stray = stray || (not (eqb b (code_step stay)) && modal)

unfoldable pub stepped : ℕ → Work → Work
stepped b w = record { bytes = put_in w.room b w.bytes; room = w.room; modal = w.modal; stray = stray_by b w.modal w.stray }
