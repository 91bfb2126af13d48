-- THE PLAIN PROFILE (document 02, S-4): the table in which N stands directly on facts, what making it answers, and whether a sheet is in it.
use Rattle.std.specs.Prelude.{Result, Ok, Err, ℕ, zero, suc, ◌+◌, ◌*◌, ◌-◌, Bool, false, cond, not, ◌||◌, List, [], ◌∷◌, map, get_or, set, replicate, eqb, leb}
use Rattle.aldlf.specs.Constants.{node_limit, letter_t, letter_f, letter_p, letter_n, letter_a, letter_o, letter_d, letter_b}
use Rattle.aldlf.specs.Sheet.{no_line}
use Rattle.aldlf.specs.Outcomes.{first_no}
use Rattle.aldlf.specs.Refusals.{refusal_number}
use Rattle.aldlf.specs.declared.Refusal.{Refusal}
use Rattle.aldlf.specs.declared.NodeLine.{NodeLine}
use Rattle.aldlf.specs.declared.Edge.{Edge}
use Rattle.aldlf.specs.declared.Automaton.{Automaton}
use Rattle.aldlf.specs.declared.Table.{Table}
use Rattle.sheet.specs.Questions.{empty_table, each}
use Rattle.sheet.specs.Given.{well_formed}

-- What making a profile answers. Number 0: the table in the profile. Else 31 or 42, and a table all zeros.
pub record ProfileAnswer : Type 0 where
  pub number : ℕ
  pub table : Table

-- What the yes-or-no answers. Number 0: whether the sheet is in the profile. Else 31, and no.
pub record ProfileCheck : Type 0 where
  pub number : ℕ
  pub yes : Bool

-- The table that was made, or a refusal by its number, with a table all zeros.
abbrev pub profile_answer : Result Table Refusal → ProfileAnswer
profile_answer (Ok t) = record { number = 0; table = t }
profile_answer (Err r) = record { number = refusal_number r; table = empty_table }

-- The yes-or-no, or a refusal by its number, with a no.
abbrev pub check_answer : Result Bool Refusal → ProfileCheck
check_answer (Ok b) = record { number = 0; yes = b }
check_answer (Err r) = record { number = refusal_number r; yes = false }

-- A node line by its letter and its two numbers.
abbrev pub line : ℕ → ℕ → ℕ → NodeLine
line kind a b = record { kind = kind; a = a; b = b }

-- The letter that says the opposite over opposites: T and F, A and O, D and B exchange; another letter stays.
unfoldable pub exchanged : ℕ → ℕ
exchanged c =
    cond (eqb c letter_t) letter_f
    (cond (eqb c letter_f) letter_t
    (cond (eqb c letter_a) letter_o
    (cond (eqb c letter_o) letter_a
    (cond (eqb c letter_d) letter_b
    (cond (eqb c letter_b) letter_d
    c)))))

-- New line 2k, for an old line k that is no N: the same letter over the new nodes 2a.
unfoldable pub kept_line : NodeLine → NodeLine
kept_line x =
    cond (eqb x.kind letter_a || eqb x.kind letter_o) (line x.kind (2 * x.a) (2 * x.b))
    (cond (eqb x.kind letter_d || eqb x.kind letter_b) (line x.kind x.a (2 * x.b))
    x)

-- New line 2k+1, for an old line k that is no N: of a fact `N,2k`, of another letter the exchanged one over the new nodes 2a+1.
unfoldable pub opposite_line : ℕ → NodeLine → NodeLine
opposite_line k x =
    cond (eqb x.kind letter_p) (line letter_n (2 * k) 0)
    (cond (eqb x.kind letter_a || eqb x.kind letter_o) (line (exchanged x.kind) (2 * x.a + 1) (2 * x.b + 1))
    (cond (eqb x.kind letter_d || eqb x.kind letter_b) (line (exchanged x.kind) x.a (2 * x.b + 1))
    (line (exchanged x.kind) x.a x.b)))

-- New line 2k of the old line x, where the new lines before it are `out`: an `N,a` line repeats a's second line.
unfoldable pub kept_in : List NodeLine → NodeLine → NodeLine
kept_in out x = cond (eqb x.kind letter_n) (get_or out (2 * x.a + 1) no_line) (kept_line x)

-- New line 2k+1: an `N,a` line repeats a's first line.
unfoldable pub opposite_in : ℕ → List NodeLine → NodeLine → NodeLine
opposite_in k out x = cond (eqb x.kind letter_n) (get_or out (2 * x.a) no_line) (opposite_line k x)

-- The lines with x at 2k and y at 2k+1.
abbrev pub with_pair : ℕ → NodeLine → NodeLine → List NodeLine → List NodeLine
with_pair k x y out = set (set out (2 * k) x) (2 * k + 1) y

-- The new lines of the old lines below k.
unfoldable pub doubled : List NodeLine → ℕ → List NodeLine
doubled nodes zero = replicate node_limit no_line
doubled nodes (suc k) =
    let out = doubled nodes k in
    let x = get_or nodes k no_line in
    with_pair k (kept_in out x) (opposite_in k out x) out

-- All new lines, of n old ones: a last line repeats the rule's.
unfoldable pub profile_lines : List NodeLine → ℕ → List NodeLine
profile_lines nodes n = set (doubled nodes n) (2 * n) (get_or (doubled nodes n) (2 * (n - 1)) no_line)

-- An automaton in its place: its M line stands below the new lines of the nodes that it stood below.
abbrev pub kept_automaton : Automaton → Automaton
kept_automaton x =
    record { states = x.states; start = x.start; accepting = x.accepting; first = x.first; count = x.count; before = 2 * x.before }

-- An edge that names 2a for a.
abbrev pub kept_edge : Edge → Edge
kept_edge e = record { from = e.from; dir = e.dir; test = record { 0 = 2 * e.test.0 }; to = e.to }

-- The table in the profile.
unfoldable pub profile_of : Table → Table
profile_of t =
    record {
      nodes = profile_lines t.nodes t.used.nodes;
      automata = map kept_automaton t.automata;
      edges = map kept_edge t.edges;
      used = record { nodes = 2 * t.used.nodes + 1; automata = t.used.automata; edges = t.used.edges };
    }

-- Question 31, then 42: no more nodes than the sheet limit.
unfoldable pub profile_number : Table → ℕ
profile_number t = first_no ((well_formed t, 31) ∷ (leb (2 * t.used.nodes + 1) node_limit, 42) ∷ [])

-- What making the profile answers: the table, or a refusal with a table all zeros.
unfoldable pub profile_outcome : Table → ProfileAnswer
profile_outcome t =
    elim (profile_number t) [
      | zero ↦ record { number = 0; table = profile_of t }
      | suc q ↦ record { number = suc q; table = empty_table }
    ]

-- A letter on whose lines N may stand in the profile: a fact's.
abbrev pub under_not : ℕ → Bool
under_not c = eqb c letter_p

-- Line k is no N, or stands on such a line.
unfoldable pub line_in_profile : List NodeLine → ℕ → Bool
line_in_profile nodes k =
    let x = get_or nodes k no_line in
    not (eqb x.kind letter_n) || under_not (get_or nodes x.a no_line).kind

-- The sheet is in the profile: each N on it stands directly on a fact.
unfoldable pub in_profile : Table → Bool
in_profile t = each (line_in_profile t.nodes) t.used.nodes

-- What the yes-or-no answers: 31 and no for a table that no sheet gives.
unfoldable pub profile_check : Table → ProfileCheck
profile_check t = cond (well_formed t) (record { number = 0; yes = in_profile t }) (record { number = 31; yes = false })
