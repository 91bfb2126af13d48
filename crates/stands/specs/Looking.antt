-- Helper definitions that only the proofs of the code need: which ways edges go, gathered line by line and edge by edge.
use Rattle.std.specs.Prelude.{ℕ, ◌+◌, ◌≡◌, Bool, true, false, ◌||◌, List, get_or}
use Rattle.aldlf.specs.Sheet.{Sheet, Line, Dir, ahead, back, stay, sheet_of}
use Rattle.aldlf.specs.Stands.{any_below, same_dir, has_dir, line_has, stands_on_dir}
use Rattle.aldlf.specs.declared.Table.{Table}
use Rattle.stands.specs.declared.Looks.{Looks}

-- What was found of a direction.
abbrev pub found : Looks → Dir → Bool
found l ahead = l.ahead
found l back = l.back
found l stay = false

-- What was found, of ahead and of back, is what f says.
pub record Ways (f : Dir → Bool) (l : Looks) : Type 0 where
  pub ahead_is : l.ahead ≡ f ahead
  pub back_is : l.back ≡ f back

-- The ways of the first n lines of a sheet.
abbrev pub SheetLooks : Sheet → ℕ → Looks → Type 0
SheetLooks S n l = Ways (λ d. any_below n (λ k. line_has S d (S.line k))) l

-- The ways that the rule of a table looks.
abbrev pub RuleWays : Table → Looks → Type 0
RuleWays t l = Ways (λ d. stands_on_dir (sheet_of t) d) l

-- The ways found before, and those of a line.
abbrev pub WithLine : Sheet → Line → Looks → Looks → Type 0
WithLine S x before l = Ways (λ d. found before d || line_has S d x) l

-- The ways found before, and those of c edges from number f on.
abbrev pub WithEdges : Sheet → (f c : ℕ) → Looks → Looks → Type 0
WithEdges S f c before l = Ways (λ d. found before d || any_below c (λ e. same_dir (S.edge (f + e)).dir d)) l

-- Of each automaton that was asked, the ways are found.
abbrev pub Asked : Sheet → Looks → List Bool → Type 0
Asked S l asked = (m : ℕ) → get_or asked m false ≡ true → Ways (λ d. found l d || has_dir S d m) l
