-- What reading a sheet answers, as document 01's numbers.
use Rattle.std.specs.Prelude.{ℕ}
use Rattle.aldlf.specs.declared.Table.{Table}

-- What stops the reading at a line: the number of a question that gets a no, and the field it is about (the letter is field 1; 0 where it is about none). Both are 0 where nothing does.
pub record Stop : Type 0 where
  pub number : ℕ
  pub field : ℕ

-- Number 0: the sheet's table, line 0 and field 0. Else the number of the first question that gets a no, the line and the field it is about, and a table all zeros.
pub record SheetAnswer : Type 0 where
  pub number : ℕ
  pub line : ℕ
  pub field : ℕ
  pub table : Table
