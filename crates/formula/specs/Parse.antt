-- A formula's text read from the left, at most 16 marks open at once: the formula, or the place of the first byte that refusal 51 or 52 is about.
use Rattle.std.specs.Prelude.{ℕ, zero, suc, ◌+◌, ◌*◌, ◌-◌, Bool, cond, ◌&&◌, ◌||◌, List, [], ◌∷◌, eqb, ltb, leb, get_or, length}
use Rattle.aldlf.specs.Sheet.{ahead, back, stay}
use Rattle.text.specs.Text.{is_digit}
use Rattle.formula.specs.Limits.{depth_limit}
use Rattle.formula.specs.Signs.{sign_not, sign_and, sign_or, sign_seq, sign_alt, sign_star, sign_back, sign_test, round_open, round_close, curly_open, curly_close, angle_open, angle_close, square_open, square_close, sign_fact}
use Rattle.formula.specs.Formula.{Formula, always, fact, neg, both, either, some, every, Path, step, seq, alt, many}

-- What reading from a place gives: a value and the place after it; the place of the first byte at which no formula can go on; the place after a mark too deep.
pub data Got (X : Type 0) : Type 0 where
  ok : X → ℕ → Got X
  bad deep : ℕ → Got X

-- What stands behind a mark, from a place on: a formula, or a path.
pub record Inner : Type 0 where
  pub formula : ℕ → Got Formula
  pub path : ℕ → Got Path

-- An operand yet to be joined, or none.
pub data Held (X : Type 0) : Type 0 where
  nothing : Held X
  held : X → Held X

-- What stood before joined with what follows.
abbrev pub joined : {X : Type 0} → (X → X → X) → Held X → X → X
joined f nothing x = x
joined f (held y) x = f y x

-- What stands before an operand: `!`, `<path>`, `[path]`.
pub data Prefix : Type 0 where
  bang : Prefix
  angle square : Path → Prefix

-- A formula behind such prefixes, the last of them first.
abbrev pub wrap : List Prefix → Formula → Formula
wrap [] a = a
wrap (bang ∷ ps) a = wrap ps (neg a)
wrap (angle p ∷ ps) a = wrap ps (some p a)
wrap (square p ∷ ps) a = wrap ps (every p a)

-- The value that is read, changed.
abbrev pub map_got : {X Y : Type 0} → (X → Y) → Got X → Got Y
map_got f (ok x at) = ok (f x) at
map_got f (bad at) = bad at
map_got f (deep at) = deep at

-- The byte begins a prefix.
abbrev pub is_prefix : ℕ → Bool
is_prefix b = eqb b sign_not || (eqb b angle_open || eqb b square_open)

-- Two digits that are a fact's number: 10 to 31.
abbrev pub is_pair : ℕ → ℕ → Bool
is_pair b c = is_digit c && ((leb 49 b && leb b 50) || (eqb b 51 && leb c 49))

-- Reading goes on with the prefix that was read, put before those in hand.
abbrev pub prefixed : (List Prefix → ℕ → Got Formula) → List Prefix → Got Prefix → Got Formula
prefixed next ps (ok p to) = next (p ∷ ps) to
prefixed next ps (bad to) = bad to
prefixed next ps (deep to) = deep to

module _ (text : List ℕ) where
  -- The byte at a place; 256 past the end.
  unfoldable pub byte : ℕ → ℕ
  byte at = cond (ltb at (length text)) (get_or text at 0) 256

  -- What is read, if the byte b stands behind it.
  unfoldable pub closed : {X : Type 0} → ℕ → Got X → Got X
  closed b (ok x at) = cond (eqb (byte at) b) (ok x (at + 1)) (bad at)
  closed b (bad at) = bad at
  closed b (deep at) = deep at

  -- After an item of a chain: b joins it by f to what a holds, c joins that by g to what o holds, and any other byte ends the chain.
  abbrev pub chained : {X : Type 0} → (f g : X → X → X) → (b c : ℕ) → (Held X → Held X → ℕ → Got X) → (o a : Held X) → Got X → Got X
  chained f g b c next o a (ok x to) =
      let y = next o (held (joined f a x)) (to + 1) in
      let z = next (held (joined g o (joined f a x))) nothing (to + 1) in
      cond (eqb (byte to) b) y (cond (eqb (byte to) c) z (ok (joined g o (joined f a x)) to))
  chained f g b c next o a (bad to) = bad to
  chained f g b c next o a (deep to) = deep to

  -- At most n items joined to the left, b before c: o holds what stood before the last c, a what stood before the last b behind it.
  unfoldable pub chain : {X : Type 0} → (f g : X → X → X) → (b c : ℕ) → (ℕ → Got X) → ℕ → (o a : Held X) → ℕ → Got X
  chain f g b c item zero o a at = bad at
  chain f g b c item (suc n) o a at = chained f g b c (chain f g b c item n) o a (item at)

  -- After `f`: 0 to 31 without padding, the longest that goes on.
  unfoldable pub fact_at : ℕ → Got Formula
  fact_at at =
      cond (is_digit (byte at))
      (cond (is_pair (byte at) (byte (at + 1)))
      (ok (fact ((byte at - 48) * 10 + (byte (at + 1) - 48))) (at + 2))
      (ok (fact (byte at - 48)) (at + 1)))
      (bad at)

  -- After `t`: `r`, `u`, `e`.
  unfoldable pub true_at : ℕ → Got Formula
  true_at at =
      cond (eqb (byte at) 114)
      (cond (eqb (byte (at + 1)) 117)
      (cond (eqb (byte (at + 2)) 101) (ok always (at + 3)) (bad (at + 2)))
      (bad (at + 1)))
      (bad at)

  -- The step of a formula in `{` and `}`: `-` behind it is back, `?` test, anything else ahead.
  unfoldable pub stepped : Got Formula → Got Path
  stepped (ok a at) =
      cond (eqb (byte at) sign_back) (ok (step back a) (at + 1))
      (cond (eqb (byte at) sign_test) (ok (step stay a) (at + 1))
      (ok (step ahead a) at))
  stepped (bad at) = bad at
  stepped (deep at) = deep at

  -- As many `*` as there are, at most n.
  unfoldable pub starred_from : ℕ → Path → ℕ → Got Path
  starred_from zero p at = ok p at
  starred_from (suc n) p at = let r = starred_from n (many p) (at + 1) in cond (eqb (byte at) sign_star) r (ok p at)

  -- A piece that was read, with its stars.
  abbrev pub starred : Got Path → Got Path
  starred (ok p at) = starred_from (length text) p at
  starred (bad at) = bad at
  starred (deep at) = deep at

  module _ (I : Inner) where
    -- `true`, a fact, or a formula in brackets.
    unfoldable pub atom_at : ℕ → Got Formula
    atom_at at =
        let t = true_at (at + 1) in
        let f = fact_at (at + 1) in
        let g = closed round_close (I.formula (at + 1)) in
        cond (eqb (byte at) 116) t
        (cond (eqb (byte at) sign_fact) f
        (cond (eqb (byte at) round_open) g
        (bad at)))

    -- `!`, `<path>` or, where neither begins, `[path]`.
    unfoldable pub prefix_at : ℕ → Got Prefix
    prefix_at at =
        let d = map_got angle (closed angle_close (I.path (at + 1))) in
        let b = map_got square (closed square_close (I.path (at + 1))) in
        cond (eqb (byte at) sign_not) (ok bang (at + 1)) (cond (eqb (byte at) angle_open) d b)

    -- As many prefixes as there are, at most n, and an atom; ps stood before, the last first.
    unfoldable pub operand_from : ℕ → List Prefix → ℕ → Got Formula
    operand_from zero ps at = bad at
    operand_from (suc n) ps at =
        let p = prefixed (operand_from n) ps (prefix_at at) in
        let a = map_got (wrap ps) (atom_at at) in
        cond (is_prefix (byte at)) p a

    -- An operand: its prefixes and an atom.
    abbrev pub operand_at : ℕ → Got Formula
    operand_at at = operand_from (suc (length text)) [] at

    -- A step, or a path in brackets.
    unfoldable pub piece_at : ℕ → Got Path
    piece_at at =
        let f = stepped (closed curly_close (I.formula (at + 1))) in
        let g = closed round_close (I.path (at + 1)) in
        cond (eqb (byte at) curly_open) f
        (cond (eqb (byte at) round_open) g
        (bad at))

    -- A piece with its stars.
    abbrev pub starred_at : ℕ → Got Path
    starred_at at = starred (piece_at at)

    -- What is read outside that mark: `&` before `|`, `;` before `+`.
    abbrev pub outside : Inner
    outside =
        record {
          formula = λ at. chain both either sign_and sign_or operand_at (suc (length text)) nothing nothing at;
          path = λ at. chain seq alt sign_seq sign_alt starred_at (suc (length text)) nothing nothing at;
        }

  -- What is read behind a mark where d more marks may be open, this one counted.
  unfoldable pub inner : ℕ → Inner
  inner zero = record { formula = λ at. deep at; path = λ at. deep at }
  inner (suc d) = outside (inner d)

  -- A formula from a place on, where d more marks may be open.
  abbrev pub formula_at : ℕ → ℕ → Got Formula
  formula_at d at = (outside (inner d)).formula at

  -- What is read, if it ends where the text does.
  abbrev pub whole : Got Formula → Got Formula
  whole (ok a at) = cond (eqb at (length text)) (ok a at) (bad at)
  whole (bad at) = bad at
  whole (deep at) = deep at

  -- The whole text.
  unfoldable pub parsed : Got Formula
  parsed = whole (formula_at depth_limit 0)
