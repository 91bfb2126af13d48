-- One induction over the grammar: what passes along each of its lines holds of every text that it writes.
use Prim.Native.Nat.{ℕ, ◌<◌}
use mathlib.Core.Path.{◌≡◌, sym, subst}
use mathlib.Core.List.{List, [], ◌∷◌, ◌++◌}
use Rattle.aldlf.specs.Constants.{fact_limit}
use Rattle.aldlf.specs.Sheet.{ahead, back, stay}
use Rattle.appending.specs.Appending.{decimal}
use Rattle.formula.specs.Signs.{sign_not, sign_and, sign_or, sign_seq, sign_alt, sign_star, sign_back, sign_test, round_open, round_close, curly_open, curly_close, angle_open, angle_close, square_open, square_close, sign_fact, word_true}
use Rattle.formula.specs.Formula.{Formula, always, fact, neg, both, either, some, every, Path, step, seq, alt, many}
use Rattle.formula.specs.Grammar.{Disjunction, Conjunction, Operand, Atom, Choice, Sequence, Starred, Piece, d_one, d_more, c_one, c_more, o_atom, o_not, o_some, o_every, a_true, a_fact, a_group, h_one, h_more, s_one, s_more, r_none, r_star, p_ahead, p_back, p_test, p_group}

-- a claim for each kind of text
pub record Claims : Type 1 where
  pub disjunction : Formula → List ℕ → Type 0
  pub conjunction : Formula → List ℕ → Type 0
  pub operand : Formula → List ℕ → Type 0
  pub atom : Formula → List ℕ → Type 0
  pub choice : Path → List ℕ → Type 0
  pub sequence : Path → List ℕ → Type 0
  pub starred : Path → List ℕ → Type 0
  pub piece : Path → List ℕ → Type 0

-- one claim of formulas and one of paths, whatever the kind of text
abbrev pub alike : (Formula → List ℕ → Type 0) → (Path → List ℕ → Type 0) → Claims
alike F P = record { disjunction = F; conjunction = F; operand = F; atom = F; choice = P; sequence = P; starred = P; piece = P }

-- each line of the grammar keeps the claims
pub record Keeps (Q : Claims) : Type 0 where
  pub d_first : (a : Formula) (u : List ℕ) → Q.conjunction a u → Q.disjunction a u
  pub d_next : (a b : Formula) (u w : List ℕ) → Q.disjunction a u → Q.conjunction b w → Q.disjunction (either a b) (u ++ (sign_or ∷ w))
  pub c_first : (a : Formula) (u : List ℕ) → Q.operand a u → Q.conjunction a u
  pub c_next : (a b : Formula) (u w : List ℕ) → Q.conjunction a u → Q.operand b w → Q.conjunction (both a b) (u ++ (sign_and ∷ w))
  pub atoms : (a : Formula) (u : List ℕ) → Q.atom a u → Q.operand a u
  pub nots : (a : Formula) (u : List ℕ) → Q.operand a u → Q.operand (neg a) (sign_not ∷ u)
  pub somes : (p : Path) (a : Formula) (u w : List ℕ) → Q.choice p u → Q.operand a w → Q.operand (some p a) (angle_open ∷ (u ++ (angle_close ∷ w)))
  pub everys : (p : Path) (a : Formula) (u w : List ℕ) → Q.choice p u → Q.operand a w → Q.operand (every p a) (square_open ∷ (u ++ (square_close ∷ w)))
  pub trues : Q.atom always word_true
  pub facts : (f : ℕ) → f < fact_limit → Q.atom (fact f) (sign_fact ∷ decimal f)
  pub groups : (a : Formula) (u : List ℕ) → Q.disjunction a u → Q.atom a (round_open ∷ (u ++ (round_close ∷ [])))
  pub h_first : (p : Path) (u : List ℕ) → Q.sequence p u → Q.choice p u
  pub h_next : (p q : Path) (u w : List ℕ) → Q.choice p u → Q.sequence q w → Q.choice (alt p q) (u ++ (sign_alt ∷ w))
  pub s_first : (p : Path) (u : List ℕ) → Q.starred p u → Q.sequence p u
  pub s_next : (p q : Path) (u w : List ℕ) → Q.sequence p u → Q.starred q w → Q.sequence (seq p q) (u ++ (sign_seq ∷ w))
  pub pieces : (p : Path) (u : List ℕ) → Q.piece p u → Q.starred p u
  pub stars : (p : Path) (u : List ℕ) → Q.starred p u → Q.starred (many p) (u ++ (sign_star ∷ []))
  pub aheads : (a : Formula) (u : List ℕ) → Q.disjunction a u → Q.piece (step ahead a) (curly_open ∷ (u ++ (curly_close ∷ [])))
  pub backs : (a : Formula) (u : List ℕ) → Q.disjunction a u → Q.piece (step back a) (curly_open ∷ (u ++ (curly_close ∷ sign_back ∷ [])))
  pub tests : (a : Formula) (u : List ℕ) → Q.disjunction a u → Q.piece (step stay a) (curly_open ∷ (u ++ (curly_close ∷ sign_test ∷ [])))
  pub brackets : (p : Path) (u : List ℕ) → Q.choice p u → Q.piece p (round_open ∷ (u ++ (round_close ∷ [])))

module _ (Q : Claims) (K : Keeps Q) where
  as_formula : (T : Formula → List ℕ → Type 0) (a : Formula) {u v : List ℕ} → v ≡ u → T a u → T a v
  as_formula T a e t = subst (λ (z : List ℕ). T a z) (sym e) t

  as_path : (T : Path → List ℕ → Type 0) (p : Path) {u v : List ℕ} → v ≡ u → T p u → T p v
  as_path T p e t = subst (λ (z : List ℕ). T p z) (sym e) t

  mutual
    pub on_disjunction : {a : Formula} {v : List ℕ} → Disjunction a v → Q.disjunction a v
    on_disjunction (d_one {a} {v} c) = K.d_first a v (on_conjunction c)
    on_disjunction (d_more {a} {b} {u} {w} e d c) = as_formula Q.disjunction (either a b) e (K.d_next a b u w (on_disjunction d) (on_conjunction c))

    pub on_conjunction : {a : Formula} {v : List ℕ} → Conjunction a v → Q.conjunction a v
    on_conjunction (c_one {a} {v} o) = K.c_first a v (on_operand o)
    on_conjunction (c_more {a} {b} {u} {w} e c o) = as_formula Q.conjunction (both a b) e (K.c_next a b u w (on_conjunction c) (on_operand o))

    on_operand : {a : Formula} {v : List ℕ} → Operand a v → Q.operand a v
    on_operand (o_atom {a} {v} t) = K.atoms a v (on_atom t)
    on_operand (o_not {a} {u} e o) = as_formula Q.operand (neg a) e (K.nots a u (on_operand o))
    on_operand (o_some {p} {a} {u} {w} e h o) = as_formula Q.operand (some p a) e (K.somes p a u w (on_choice h) (on_operand o))
    on_operand (o_every {p} {a} {u} {w} e h o) = as_formula Q.operand (every p a) e (K.everys p a u w (on_choice h) (on_operand o))

    on_atom : {a : Formula} {v : List ℕ} → Atom a v → Q.atom a v
    on_atom (a_true e) = as_formula Q.atom always e K.trues
    on_atom (a_fact {f} e l) = as_formula Q.atom (fact f) e (K.facts f l)
    on_atom (a_group {a} {u} e d) = as_formula Q.atom a e (K.groups a u (on_disjunction d))

    pub on_choice : {p : Path} {v : List ℕ} → Choice p v → Q.choice p v
    on_choice (h_one {p} {v} s) = K.h_first p v (on_sequence s)
    on_choice (h_more {p} {q} {u} {w} e h s) = as_path Q.choice (alt p q) e (K.h_next p q u w (on_choice h) (on_sequence s))

    pub on_sequence : {p : Path} {v : List ℕ} → Sequence p v → Q.sequence p v
    on_sequence (s_one {p} {v} r) = K.s_first p v (on_starred r)
    on_sequence (s_more {p} {q} {u} {w} e s r) = as_path Q.sequence (seq p q) e (K.s_next p q u w (on_sequence s) (on_starred r))

    pub on_starred : {p : Path} {v : List ℕ} → Starred p v → Q.starred p v
    on_starred (r_none {p} {v} t) = K.pieces p v (on_piece t)
    on_starred (r_star {p} {u} e r) = as_path Q.starred (many p) e (K.stars p u (on_starred r))

    on_piece : {p : Path} {v : List ℕ} → Piece p v → Q.piece p v
    on_piece (p_ahead {a} {u} e d) = as_path Q.piece (step ahead a) e (K.aheads a u (on_disjunction d))
    on_piece (p_back {a} {u} e d) = as_path Q.piece (step back a) e (K.backs a u (on_disjunction d))
    on_piece (p_test {a} {u} e d) = as_path Q.piece (step stay a) e (K.tests a u (on_disjunction d))
    on_piece (p_group {p} {u} e h) = as_path Q.piece p e (K.brackets p u (on_choice h))
