-- How formulas and paths are written: which texts write which formula, which texts can go on to one, and how many marks a text has open.
use Rattle.std.specs.Prelude.{ℕ, suc, ◌-◌, ◌≤◌, ◌<◌, ◌≡◌, List, [], ◌∷◌, ◌++◌, Bool, cond, ◌||◌, eqb, length, take}
use Rattle.aldlf.specs.Constants.{fact_limit}
use Rattle.aldlf.specs.Sheet.{ahead, back, stay}
use Rattle.appending.specs.Appending.{decimal}
use Rattle.formula.specs.Limits.{depth_limit}
use Rattle.formula.specs.Signs.{sign_not, sign_and, sign_or, sign_seq, sign_alt, sign_star, sign_back, sign_test, round_open, round_close, curly_open, curly_close, angle_open, angle_close, square_open, square_close, sign_fact, word_true}
use Rattle.formula.specs.Formula.{Formula, always, fact, neg, both, either, some, every, Path, step, seq, alt, many}

mutual
  -- A formula: conjunctions parted by `|`, grouped to the left.
  pub data Disjunction : Formula → List ℕ → Type 0 where
    d_one : {a : Formula} {v : List ℕ} → Conjunction a v → Disjunction a v
    d_more : {a b : Formula} {u w v : List ℕ} → v ≡ u ++ (sign_or ∷ w) → Disjunction a u → Conjunction b w → Disjunction (either a b) v

  -- Operands parted by `&`, grouped to the left.
  pub data Conjunction : Formula → List ℕ → Type 0 where
    c_one : {a : Formula} {v : List ℕ} → Operand a v → Conjunction a v
    c_more : {a b : Formula} {u w v : List ℕ} → v ≡ u ++ (sign_and ∷ w) → Conjunction a u → Operand b w → Conjunction (both a b) v

  -- `!`, `<path>` or `[path]` before an operand, or what stands without them.
  pub data Operand : Formula → List ℕ → Type 0 where
    o_atom : {a : Formula} {v : List ℕ} → Atom a v → Operand a v
    o_not : {a : Formula} {u v : List ℕ} → v ≡ sign_not ∷ u → Operand a u → Operand (neg a) v
    o_some : {p : Path} {a : Formula} {u w v : List ℕ} → v ≡ angle_open ∷ (u ++ (angle_close ∷ w)) → Choice p u → Operand a w → Operand (some p a) v
    o_every : {p : Path} {a : Formula} {u w v : List ℕ} → v ≡ square_open ∷ (u ++ (square_close ∷ w)) → Choice p u → Operand a w → Operand (every p a) v

  -- `true`, `f` and a fact's number in decimal without leading zeros, or a formula in round brackets.
  pub data Atom : Formula → List ℕ → Type 0 where
    a_true : {v : List ℕ} → v ≡ word_true → Atom always v
    a_fact : {f : ℕ} {v : List ℕ} → v ≡ sign_fact ∷ decimal f → f < fact_limit → Atom (fact f) v
    a_group : {a : Formula} {u v : List ℕ} → v ≡ round_open ∷ (u ++ (round_close ∷ [])) → Disjunction a u → Atom a v

  -- A path: sequences parted by `+`, grouped to the left.
  pub data Choice : Path → List ℕ → Type 0 where
    h_one : {p : Path} {v : List ℕ} → Sequence p v → Choice p v
    h_more : {p q : Path} {u w v : List ℕ} → v ≡ u ++ (sign_alt ∷ w) → Choice p u → Sequence q w → Choice (alt p q) v

  -- Starred pieces parted by `;`, grouped to the left.
  pub data Sequence : Path → List ℕ → Type 0 where
    s_one : {p : Path} {v : List ℕ} → Starred p v → Sequence p v
    s_more : {p q : Path} {u w v : List ℕ} → v ≡ u ++ (sign_seq ∷ w) → Sequence p u → Starred q w → Sequence (seq p q) v

  -- A piece and any number of `*` behind it.
  pub data Starred : Path → List ℕ → Type 0 where
    r_none : {p : Path} {v : List ℕ} → Piece p v → Starred p v
    r_star : {p : Path} {u v : List ℕ} → v ≡ u ++ (sign_star ∷ []) → Starred p u → Starred (many p) v

  -- A step: a formula in curly brackets, ahead as it stands, back with `-` behind it, a test with `?`; or a path in round brackets.
  pub data Piece : Path → List ℕ → Type 0 where
    p_ahead : {a : Formula} {u v : List ℕ} → v ≡ curly_open ∷ (u ++ (curly_close ∷ [])) → Disjunction a u → Piece (step ahead a) v
    p_back : {a : Formula} {u v : List ℕ} → v ≡ curly_open ∷ (u ++ (curly_close ∷ sign_back ∷ [])) → Disjunction a u → Piece (step back a) v
    p_test : {a : Formula} {u v : List ℕ} → v ≡ curly_open ∷ (u ++ (curly_close ∷ sign_test ∷ [])) → Disjunction a u → Piece (step stay a) v
    p_group : {p : Path} {u v : List ℕ} → v ≡ round_open ∷ (u ++ (round_close ∷ [])) → Choice p u → Piece p v

-- The text writes the formula.
abbrev pub Writes : Formula → List ℕ → Type 0
Writes a u = Disjunction a u

-- Some formula's text, of whatever depth and length, begins with this one.
abbrev pub Viable : List ℕ → Type 0
Viable u = (v : List ℕ) × (a : Formula) × Writes a (u ++ v)

-- The byte opens a mark: `(`, `{`, `<` or `[`.
abbrev pub opens_mark : ℕ → Bool
opens_mark b = eqb b round_open || (eqb b curly_open || (eqb b angle_open || eqb b square_open))

-- The byte closes one: `)`, `}`, `>` or `]`.
abbrev pub closes_mark : ℕ → Bool
closes_mark b = eqb b round_close || (eqb b curly_close || (eqb b angle_close || eqb b square_close))

-- How many marks are open after the byte, where k were before it.
abbrev pub now_open : ℕ → ℕ → ℕ
now_open b k = cond (opens_mark b) (suc k) (cond (closes_mark b) (k - 1) k)

-- How many marks are open after a text, where k were before it.
unfoldable pub open_after : List ℕ → ℕ → ℕ
open_after [] k = k
open_after (b ∷ u) k = open_after u (now_open b k)

-- Nowhere in the text are more marks open than allowed.
abbrev pub Shallow : List ℕ → Type 0
Shallow u = (n : ℕ) → n ≤ length u → open_after (take n u) 0 ≤ depth_limit
