-- The lines of the printed page, as bytes.
use Rattle.std.specs.Prelude.{ℕ, zero, suc, ◌/◌, ◌&&◌, List, [], ◌∷◌, ◌++◌, ltb, get_or, length}
use Rattle.aldlf.specs.Constants.{node_limit}
use Rattle.aldlf.specs.Outcomes.{one, verdict_at}
use Rattle.text.specs.Text.{lf, comma}
use Rattle.appending.specs.Appending.{decimal}

-- `rule,`
abbrev pub word_rule : List ℕ
word_rule = 114 ∷ 117 ∷ 108 ∷ 101 ∷ 44 ∷ []

-- `,held,`
abbrev pub word_held : List ℕ
word_held = 44 ∷ 104 ∷ 101 ∷ 108 ∷ 100 ∷ 44 ∷ []

-- `,of,`
abbrev pub word_of : List ℕ
word_of = 44 ∷ 111 ∷ 102 ∷ 44 ∷ []

-- `walk,`
abbrev pub word_walk : List ℕ
word_walk = 119 ∷ 97 ∷ 108 ∷ 107 ∷ 44 ∷ []

-- `none`
abbrev pub word_none : List ℕ
word_none = 110 ∷ 111 ∷ 110 ∷ 101 ∷ []

-- `refused,`
abbrev pub word_refused : List ℕ
word_refused = 114 ∷ 101 ∷ 102 ∷ 117 ∷ 115 ∷ 101 ∷ 100 ∷ 44 ∷ []

-- `refused,number,line`, a line's end to follow
unfoldable pub refused_at : (number line : ℕ) → List ℕ
refused_at number line = word_refused ++ decimal number ++ (comma ∷ []) ++ decimal line

-- a refusal: `refused,number,line`
unfoldable pub refusal_line : (number line : ℕ) → List ℕ
refusal_line number line = refused_at number line ++ (lf ∷ [])

-- a sheet's refusal tells the field too: `refused,number,line,field`
unfoldable pub sheet_refusal_line : (number line field : ℕ) → List ℕ
sheet_refusal_line number line field = refused_at number line ++ (comma ∷ []) ++ decimal field ++ (lf ∷ [])

-- how many entries have these verdict words, two for each
abbrev pub entries_in : List ℕ → ℕ
entries_in words = length words / 2

-- the verdict on node k at entry i, as a digit; 0 where there is no such node or entry
abbrev pub verdict_digit : List ℕ → (i k : ℕ) → ℕ
verdict_digit words i k = one (ltb k node_limit && (ltb i (entries_in words) && verdict_at words i k))

-- an entry: its number and the rule's verdict
unfoldable pub entry_line : (i verdict : ℕ) → List ℕ
entry_line i verdict = decimal i ++ (comma ∷ []) ++ decimal verdict ++ (lf ∷ [])

-- the lines of the first n entries
unfoldable pub entries_below : (rule : ℕ) → List ℕ → (n : ℕ) → List ℕ
entries_below rule words zero = []
entries_below rule words (suc n) = entries_below rule words n ++ entry_line n (verdict_digit words n rule)

-- `rule,` the verdict at entry 0, `,held,` the count held, `,of,` the log's length
unfoldable pub rule_line : (verdict held entries : ℕ) → List ℕ
rule_line verdict held entries = word_rule ++ decimal verdict ++ word_held ++ decimal held ++ word_of ++ decimal entries ++ (lf ∷ [])

-- the lines of all entries, then that of the rule
unfoldable pub verdict_lines : (rule held : ℕ) → List ℕ → List ℕ
verdict_lines rule held words = entries_below rule words (entries_in words) ++ rule_line (verdict_digit words 0 rule) held (entries_in words)

-- the first n edges of a walk, each after a comma
unfoldable pub edges_below : List ℕ → (n : ℕ) → List ℕ
edges_below es zero = []
edges_below es (suc n) = edges_below es n ++ (comma ∷ []) ++ decimal (get_or es n 0)

-- `walk,` its length and its edges
unfoldable pub walk_line : List ℕ → List ℕ
walk_line es = word_walk ++ decimal (length es) ++ edges_below es (length es) ++ (lf ∷ [])

-- `walk,none`
unfoldable pub no_walk_line : List ℕ
no_walk_line = word_walk ++ word_none ++ (lf ∷ [])
