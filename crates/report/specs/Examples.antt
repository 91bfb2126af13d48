-- Pages worked by hand: the texts of a sheet and a log, the bytes that are to be printed, and what a lent buffer holds after it.
use Rattle.std.specs.Prelude.{ℕ, List, [], ◌∷◌, ◌++◌, ◌≡◌, replicate}
use Rattle.report.specs.Page.{page_of, page_outcome}
use Rattle.appending.specs.Placed.{Printed}

-- a sheet, a log and its page
pub record Example : Type 0 where
  pub rules : List ℕ
  pub steps : List ℕ
  pub page : List ℕ

-- every page is the one that is to be printed
abbrev pub AllPrint : List Example → Type 0
AllPrint [] = Unit {0}
AllPrint (e ∷ es) = (page_of e.rules e.steps ≡ e.page) × AllPrint es

-- `M,1,0` `T`: a sheet whose page is the line of a refusal, 15 bytes
abbrev pub refused_rules : List ℕ
refused_rules = 77 ∷ 44 ∷ 49 ∷ 44 ∷ 48 ∷ 10 ∷ 84 ∷ 10 ∷ []

-- `refused,10,1,0`
abbrev pub refused_page : List ℕ
refused_page = 114 ∷ 101 ∷ 102 ∷ 117 ∷ 115 ∷ 101 ∷ 100 ∷ 44 ∷ 49 ∷ 48 ∷ 44 ∷ 49 ∷ 44 ∷ 48 ∷ 10 ∷ []

-- document 01's page, and one of each kind
abbrev pub examples : List Example
examples =
    -- sheet Z on `0` `1` `2` `0` `2`: the page that document 01 prints
    record {
      rules = 80 ∷ 44 ∷ 48 ∷ 10 ∷ 80 ∷ 44 ∷ 49 ∷ 10 ∷ 80 ∷ 44 ∷ 50 ∷ 10 ∷ 78 ∷ 44 ∷ 48 ∷ 10 ∷ 84 ∷ 10 ∷ 77 ∷ 44 ∷ 49 ∷ 44 ∷ 48 ∷ 10 ∷ 71 ∷ 44 ∷ 48 ∷ 10 ∷ 69 ∷ 44 ∷ 48 ∷ 44 ∷ 50 ∷ 44 ∷ 51 ∷ 44 ∷ 48 ∷ 10 ∷ 68 ∷ 44 ∷ 48 ∷ 44 ∷ 49 ∷ 10 ∷ 78 ∷ 44 ∷ 50 ∷ 10 ∷ 79 ∷ 44 ∷ 54 ∷ 44 ∷ 53 ∷ 10 ∷ 77 ∷ 44 ∷ 49 ∷ 44 ∷ 48 ∷ 10 ∷ 71 ∷ 44 ∷ 48 ∷ 10 ∷ 69 ∷ 44 ∷ 48 ∷ 44 ∷ 49 ∷ 44 ∷ 52 ∷ 44 ∷ 48 ∷ 10 ∷ 66 ∷ 44 ∷ 49 ∷ 44 ∷ 55 ∷ 10 ∷ [];
      steps = 48 ∷ 10 ∷ 49 ∷ 10 ∷ 50 ∷ 10 ∷ 48 ∷ 10 ∷ 50 ∷ 10 ∷ [];
      page = 48 ∷ 44 ∷ 48 ∷ 10 ∷ 49 ∷ 44 ∷ 48 ∷ 10 ∷ 50 ∷ 44 ∷ 48 ∷ 10 ∷ 51 ∷ 44 ∷ 48 ∷ 10 ∷ 52 ∷ 44 ∷ 48 ∷ 10 ∷ 114 ∷ 117 ∷ 108 ∷ 101 ∷ 44 ∷ 48 ∷ 44 ∷ 104 ∷ 101 ∷ 108 ∷ 100 ∷ 44 ∷ 48 ∷ 44 ∷ 111 ∷ 102 ∷ 44 ∷ 53 ∷ 10 ∷ 119 ∷ 97 ∷ 108 ∷ 107 ∷ 44 ∷ 52 ∷ 44 ∷ 49 ∷ 44 ∷ 49 ∷ 44 ∷ 49 ∷ 44 ∷ 49 ∷ 10 ∷ [];
    }
    -- sheet W on `0` `1` `2`: held at two entries, and the walk of edge 0
    ∷ record {
      rules = 84 ∷ 10 ∷ 80 ∷ 44 ∷ 49 ∷ 10 ∷ 77 ∷ 44 ∷ 49 ∷ 44 ∷ 48 ∷ 10 ∷ 71 ∷ 44 ∷ 48 ∷ 10 ∷ 69 ∷ 44 ∷ 48 ∷ 44 ∷ 49 ∷ 44 ∷ 48 ∷ 44 ∷ 48 ∷ 10 ∷ 68 ∷ 44 ∷ 48 ∷ 44 ∷ 49 ∷ 10 ∷ [];
      steps = 48 ∷ 10 ∷ 49 ∷ 10 ∷ 50 ∷ 10 ∷ [];
      page = 48 ∷ 44 ∷ 49 ∷ 10 ∷ 49 ∷ 44 ∷ 49 ∷ 10 ∷ 50 ∷ 44 ∷ 48 ∷ 10 ∷ 114 ∷ 117 ∷ 108 ∷ 101 ∷ 44 ∷ 49 ∷ 44 ∷ 104 ∷ 101 ∷ 108 ∷ 100 ∷ 44 ∷ 50 ∷ 44 ∷ 111 ∷ 102 ∷ 44 ∷ 51 ∷ 10 ∷ 119 ∷ 97 ∷ 108 ∷ 107 ∷ 44 ∷ 49 ∷ 44 ∷ 48 ∷ 10 ∷ [];
    }
    -- sheet W on a lone `-`: no walk to show (39)
    ∷ record {
      rules = 84 ∷ 10 ∷ 80 ∷ 44 ∷ 49 ∷ 10 ∷ 77 ∷ 44 ∷ 49 ∷ 44 ∷ 48 ∷ 10 ∷ 71 ∷ 44 ∷ 48 ∷ 10 ∷ 69 ∷ 44 ∷ 48 ∷ 44 ∷ 49 ∷ 44 ∷ 48 ∷ 44 ∷ 48 ∷ 10 ∷ 68 ∷ 44 ∷ 48 ∷ 44 ∷ 49 ∷ 10 ∷ [];
      steps = 45 ∷ 10 ∷ [];
      page = 48 ∷ 44 ∷ 48 ∷ 10 ∷ 114 ∷ 117 ∷ 108 ∷ 101 ∷ 44 ∷ 48 ∷ 44 ∷ 104 ∷ 101 ∷ 108 ∷ 100 ∷ 44 ∷ 48 ∷ 44 ∷ 111 ∷ 102 ∷ 44 ∷ 49 ∷ 10 ∷ 119 ∷ 97 ∷ 108 ∷ 107 ∷ 44 ∷ 110 ∷ 111 ∷ 110 ∷ 101 ∷ 10 ∷ [];
    }
    -- `T` on a lone `-`: the rule is neither D nor B (38)
    ∷ record {
      rules = 84 ∷ 10 ∷ [];
      steps = 45 ∷ 10 ∷ [];
      page = 48 ∷ 44 ∷ 49 ∷ 10 ∷ 114 ∷ 117 ∷ 108 ∷ 101 ∷ 44 ∷ 49 ∷ 44 ∷ 104 ∷ 101 ∷ 108 ∷ 100 ∷ 44 ∷ 49 ∷ 44 ∷ 111 ∷ 102 ∷ 44 ∷ 49 ∷ 10 ∷ 119 ∷ 97 ∷ 108 ∷ 107 ∷ 44 ∷ 110 ∷ 111 ∷ 110 ∷ 101 ∷ 10 ∷ [];
    }
    -- `M,1,0` `T` and an empty log: the sheet's refusal comes first
    ∷ record { rules = refused_rules; steps = []; page = refused_page }
    -- `T` on `0` and `1,1`: the log's refusal
    ∷ record {
      rules = 84 ∷ 10 ∷ [];
      steps = 48 ∷ 10 ∷ 49 ∷ 44 ∷ 49 ∷ 10 ∷ [];
      page = 114 ∷ 101 ∷ 102 ∷ 117 ∷ 115 ∷ 101 ∷ 100 ∷ 44 ∷ 50 ∷ 54 ∷ 44 ∷ 50 ∷ 10 ∷ [];
    }
    ∷ []

-- a lent buffer, and what printing that page answers
pub record Lending : Type 0 where
  pub lent : List ℕ
  pub answer : Printed

-- every answer is the one that is to be given
abbrev pub AllAnswer : List Lending → Type 0
AllAnswer [] = Unit {0}
AllAnswer (l ∷ ls) = (page_outcome refused_rules [] l.lent ≡ l.answer) × AllAnswer ls

-- a byte to spare, none to spare, a byte too few
abbrev pub lendings : List Lending
lendings =
    record { lent = replicate 16 7; answer = record { number = 0; count = 15; buffer = refused_page ++ (7 ∷ []) } }
    ∷ record { lent = replicate 15 7; answer = record { number = 0; count = 15; buffer = refused_page } }
    ∷ record { lent = replicate 14 7; answer = record { number = 44; count = 0; buffer = replicate 14 7 } }
    ∷ []
