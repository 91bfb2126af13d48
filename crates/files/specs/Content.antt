-- What reading a file gives: how many bytes came, or none of it where it failed.
use Rattle.std.specs.Prelude.{ℕ, ◌≤◌, Option, Some, None}

-- the bytes that came are at most so many
abbrev pub Within : ℕ → Option ℕ → Type 0
Within most (Some n) = n ≤ most
Within most None = Unit {0}

-- what is said of the bytes that came, where they came
abbrev pub OnBytes : Option ℕ → (ℕ → Type 0) → Type 0
OnBytes (Some n) P = P n
OnBytes None P = Unit {0}
