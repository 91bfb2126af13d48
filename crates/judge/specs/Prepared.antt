-- A table lent as numbers and prepared for many logs.
use Rattle.std.specs.Prelude.{◌≡◌, ℕ, List}
use Rattle.aldlf.specs.Sheet.{sheet_of}
use Rattle.aldlf.specs.Outcomes.{plain_row}
use Rattle.aldlf.specs.declared.Table.{Table}
use Rattle.aldlf.specs.declared.Row.{Row}
use Rattle.sheet.specs.Facts.{Lent}

-- The table is lent as these numbers, and this is its plain row.
pub record Prepared (t : Table) (plain : Row) (numbers : List ℕ) : Type 0 where
  pub lent : Lent t numbers
  pub plain_is : plain ≡ plain_row (sheet_of t)
