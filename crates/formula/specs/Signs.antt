-- The bytes that formulas and paths are written with.
use Rattle.std.specs.Prelude.{ℕ, List, [], ◌∷◌}

-- `!`
abbrev pub sign_not : ℕ
sign_not = 33

-- `&`
abbrev pub sign_and : ℕ
sign_and = 38

-- `|`
abbrev pub sign_or : ℕ
sign_or = 124

-- `;`
abbrev pub sign_seq : ℕ
sign_seq = 59

-- `+`
abbrev pub sign_alt : ℕ
sign_alt = 43

-- `*`
abbrev pub sign_star : ℕ
sign_star = 42

-- `-`
abbrev pub sign_back : ℕ
sign_back = 45

-- `?`
abbrev pub sign_test : ℕ
sign_test = 63

-- `(`
abbrev pub round_open : ℕ
round_open = 40

-- `)`
abbrev pub round_close : ℕ
round_close = 41

-- `{`
abbrev pub curly_open : ℕ
curly_open = 123

-- `}`
abbrev pub curly_close : ℕ
curly_close = 125

-- `<`
abbrev pub angle_open : ℕ
angle_open = 60

-- `>`
abbrev pub angle_close : ℕ
angle_close = 62

-- `[`
abbrev pub square_open : ℕ
square_open = 91

-- `]`
abbrev pub square_close : ℕ
square_close = 93

-- `f`, before a fact's number
abbrev pub sign_fact : ℕ
sign_fact = 102

-- `true`
abbrev pub word_true : List ℕ
word_true = 116 ∷ 114 ∷ 117 ∷ 101 ∷ []
