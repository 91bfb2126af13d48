-- The texts of the sheets that the starred jobs are about, and that each is read to its table.
use Rattle.std.specs.Prelude.{ℕ, ◌≡◌, List, [], ◌∷◌}
use Rattle.aldlf.specs.Jobs.{W, X, Y, Z, circle}
use Rattle.aldlf.specs.declared.Table.{Table}
use Rattle.sheet.specs.Questions.{read_sheet}

-- A sheet's text and the table that a job has for it.
pub record Text : Type 0 where
  pub bytes : List ℕ
  pub table : Table

-- Each text is accepted and read to its table.
abbrev pub AllRead : List Text → Type 0
AllRead [] = Unit {0}
AllRead (x ∷ xs) = (read_sheet x.bytes ≡ record { number = 0; line = 0; field = 0; table = x.table }) × AllRead xs

-- The sheets of document 01.
abbrev pub texts : List Text
texts =
    -- W: `T` `P,1` `M,1,0` `G,0` `E,0,1,0,0` `D,0,1`
    record { bytes = 84 ∷ 10 ∷ 80 ∷ 44 ∷ 49 ∷ 10 ∷ 77 ∷ 44 ∷ 49 ∷ 44 ∷ 48 ∷ 10 ∷ 71 ∷ 44 ∷ 48 ∷ 10 ∷ 69 ∷ 44 ∷ 48 ∷ 44 ∷ 49 ∷ 44 ∷ 48 ∷ 44 ∷ 48 ∷ 10 ∷ 68 ∷ 44 ∷ 48 ∷ 44 ∷ 49 ∷ 10 ∷ []; table = W }
    -- X: `T` `F` `M,2,0` `G,1` `E,0,2,0,1` `B,0,1`
    ∷ record { bytes = 84 ∷ 10 ∷ 70 ∷ 10 ∷ 77 ∷ 44 ∷ 50 ∷ 44 ∷ 48 ∷ 10 ∷ 71 ∷ 44 ∷ 49 ∷ 10 ∷ 69 ∷ 44 ∷ 48 ∷ 44 ∷ 50 ∷ 44 ∷ 48 ∷ 44 ∷ 49 ∷ 10 ∷ 66 ∷ 44 ∷ 48 ∷ 44 ∷ 49 ∷ 10 ∷ []; table = X }
    -- Y: `T` `M,2,0` `G,1` `E,0,1,0,1` `D,0,0`
    ∷ record { bytes = 84 ∷ 10 ∷ 77 ∷ 44 ∷ 50 ∷ 44 ∷ 48 ∷ 10 ∷ 71 ∷ 44 ∷ 49 ∷ 10 ∷ 69 ∷ 44 ∷ 48 ∷ 44 ∷ 49 ∷ 44 ∷ 48 ∷ 44 ∷ 49 ∷ 10 ∷ 68 ∷ 44 ∷ 48 ∷ 44 ∷ 48 ∷ 10 ∷ []; table = Y }
    -- Z: `P,0` `P,1` `P,2` `N,0` `T` `M,1,0` `G,0` `E,0,2,3,0` `D,0,1` `N,2` `O,6,5` `M,1,0` `G,0` `E,0,1,4,0` `B,1,7`
    ∷ record { bytes = 80 ∷ 44 ∷ 48 ∷ 10 ∷ 80 ∷ 44 ∷ 49 ∷ 10 ∷ 80 ∷ 44 ∷ 50 ∷ 10 ∷ 78 ∷ 44 ∷ 48 ∷ 10 ∷ 84 ∷ 10 ∷ 77 ∷ 44 ∷ 49 ∷ 44 ∷ 48 ∷ 10 ∷ 71 ∷ 44 ∷ 48 ∷ 10 ∷ 69 ∷ 44 ∷ 48 ∷ 44 ∷ 50 ∷ 44 ∷ 51 ∷ 44 ∷ 48 ∷ 10 ∷ 68 ∷ 44 ∷ 48 ∷ 44 ∷ 49 ∷ 10 ∷ 78 ∷ 44 ∷ 50 ∷ 10 ∷ 79 ∷ 44 ∷ 54 ∷ 44 ∷ 53 ∷ 10 ∷ 77 ∷ 44 ∷ 49 ∷ 44 ∷ 48 ∷ 10 ∷ 71 ∷ 44 ∷ 48 ∷ 10 ∷ 69 ∷ 44 ∷ 48 ∷ 44 ∷ 49 ∷ 44 ∷ 52 ∷ 44 ∷ 48 ∷ 10 ∷ 66 ∷ 44 ∷ 49 ∷ 44 ∷ 55 ∷ 10 ∷ []; table = Z }
    -- the circle that accepts: `T` `F` `M,1,0` `G,0` `E,0,0,0,0` `B,0,1` `D,0,0`
    ∷ record { bytes = 84 ∷ 10 ∷ 70 ∷ 10 ∷ 77 ∷ 44 ∷ 49 ∷ 44 ∷ 48 ∷ 10 ∷ 71 ∷ 44 ∷ 48 ∷ 10 ∷ 69 ∷ 44 ∷ 48 ∷ 44 ∷ 48 ∷ 44 ∷ 48 ∷ 44 ∷ 48 ∷ 10 ∷ 66 ∷ 44 ∷ 48 ∷ 44 ∷ 49 ∷ 10 ∷ 68 ∷ 44 ∷ 48 ∷ 44 ∷ 48 ∷ 10 ∷ []; table = circle 1 }
    -- the circle that does not: `T` `F` `M,1,0` `E,0,0,0,0` `B,0,1` `D,0,0`
    ∷ record { bytes = 84 ∷ 10 ∷ 70 ∷ 10 ∷ 77 ∷ 44 ∷ 49 ∷ 44 ∷ 48 ∷ 10 ∷ 69 ∷ 44 ∷ 48 ∷ 44 ∷ 48 ∷ 44 ∷ 48 ∷ 44 ∷ 48 ∷ 10 ∷ 66 ∷ 44 ∷ 48 ∷ 44 ∷ 49 ∷ 10 ∷ 68 ∷ 44 ∷ 48 ∷ 44 ∷ 48 ∷ 10 ∷ []; table = circle 0 }
    ∷ []
