-- The formula of a rule's file.
use Rattle.std.specs.Prelude.{ℕ, ◌-◌, cond, List, length}
use Rattle.text.specs.Text.{ends_in_lf}

-- how many of its bytes are the formula's: all but one LF at the end
unfoldable pub formula_bytes : List ℕ → ℕ
formula_bytes rule = cond (ends_in_lf rule) (length rule - 1) (length rule)
