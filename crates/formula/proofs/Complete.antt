-- Every text of the grammar is read, where as many marks may be open as it has bytes. By induction over the grammar: each kind of text is read wherever it stands before a byte that ends it.
use Prim.Native.Nat.{ℕ, zero, suc, ◌+◌, ◌*◌, ◌-◌, ◌/◌, ◌%◌, ◌≤◌, ◌<◌}
use native.Mathlib.Omega.{arith}
use mathlib.Core.Path.{◌≡◌, refl, ap, sym, subst, ◌∙◌}
use mathlib.Core.List.{List, [], ◌∷◌, ◌++◌}
use mathlib.Core.Logic.{◌⊎◌, inl, inr}
use mathlib.Core.Bool.{Bool, true, false, cond}
use lib.Dec.{eqb}
use lib.ListN.{length, length-append}
use borrow.Author.Tests.{eq-eqb, ne_eqb, le-leb}
use Rattle.aldlf.specs.Constants.{fact_limit}
use Rattle.aldlf.specs.Sheet.{Dir, ahead, back, stay}
use Rattle.text.specs.Text.{is_digit}
use Rattle.sheet.proofs.Bools.{split}
use Rattle.appending.specs.Appending.{decimal}
use Rattle.appending.proofs.Decimals.{decimal_one, decimal_two}
use Rattle.formula.specs.Signs.{sign_not, sign_and, sign_or, sign_seq, sign_alt, sign_star, sign_back, sign_test, round_open, round_close, curly_open, curly_close, angle_open, angle_close, square_open, square_close, sign_fact, word_true}
use Rattle.formula.specs.Formula.{Formula, always, fact, neg, both, either, some, every, Path, step, seq, alt, many}
use Rattle.formula.specs.Grammar.{Disjunction}
use Rattle.formula.specs.Parse.{Got, ok, Held, nothing, held, joined, Prefix, bang, angle, square, wrap, is_prefix, is_pair, byte, closed, chained, chain, fact_at, true_at, stepped, starred_from, starred, atom_at, prefix_at, operand_from, operand_at, piece_at, starred_at, inner, formula_at}
use Rattle.formula.proofs.Bytes.{byte_out, Slice, head_of, head_in, tail_of, split_left, split_right, slice_all}
use Rattle.formula.proofs.Induction.{Claims, Keeps, on_disjunction}

module _ (text : List ℕ) where
  -- a chain's items, given where they are read
  module _ {X : Type 0} (f g : X → X → X) (b c : ℕ) (item : ℕ → Got X) where
    -- the item with this text is read
    record ItemRead (x : X) (at to : ℕ) : Type 0 where
      item_is : item at ≡ ok x to
      item_on : at < to
      item_in : at < length text

    abbrev go : ℕ → Held X → Held X → ℕ → Got X
    go n o a at = chain text f g b c item n o a at

    -- items joined by f are read behind what o holds
    record InnerRead (x : X) (at to : ℕ) : Type 0 where
      inner_on : at < to
      inner_in : at < length text
      inner_is : (o : Held X) (n : ℕ) → length text < at + n → (m : ℕ) × (length text < to + m) × (go n o nothing at ≡ chained text f g b c (go m) o nothing (ok x to))

    -- the same joined by g are read from the start
    record OuterRead (x : X) (at to : ℕ) : Type 0 where
      outer_on : at < to
      outer_in : at < length text
      outer_is : (n : ℕ) → length text < at + n
          → (m : ℕ) × (o : Held X) × (y : X) × (joined g o y ≡ x) × (length text < to + m) × (go n nothing nothing at ≡ chained text f g b c (go m) o nothing (ok y to))

    inner_first : (x : X) (at to : ℕ) → ItemRead x at to → InnerRead x at to
    unfolding chain
    inner_first x at to r = record { inner_on = r.item_on; inner_in = r.item_in; inner_is = is }
      where
        is : (o : Held X) (n : ℕ) → length text < at + n → (m : ℕ) × (length text < to + m) × (go n o nothing at ≡ chained text f g b c (go m) o nothing (ok x to))
        is o zero l = absurd (let h = r.item_in in omega arith)
        is o (suc n) l = (n, (let h = r.item_on in omega arith), ap (λ (z : Got X). chained text f g b c (go n) o nothing z) r.item_is)

    inner_next : (x y : X) (at mid to : ℕ) → InnerRead x at mid → byte text mid ≡ b → mid < length text → ItemRead y (mid + 1) to → InnerRead (f x y) at to
    unfolding chain
    inner_next x y at mid to r e i q = record { inner_on = (let h = r.inner_on in let k = q.item_on in omega arith); inner_in = r.inner_in; inner_is = is }
      where
        step-on : (o : Held X) (n m : ℕ) → length text < mid + m → go n o nothing at ≡ chained text f g b c (go m) o nothing (ok x mid)
            → (m : ℕ) × (length text < to + m) × (go n o nothing at ≡ chained text f g b c (go m) o nothing (ok (f x y) to))
        step-on o n zero l p = absurd (omega arith)
        step-on o n (suc m) l p = (
          m,
          (let k = q.item_on in omega arith),
          p ∙ ap (λ (z : Bool). cond z (go (suc m) o (held x) (mid + 1)) (cond (eqb (byte text mid) c) (go (suc m) (held (joined g o x)) nothing (mid + 1)) (ok (joined g o x) mid))) (eq-eqb (byte text mid) b e)
              ∙ ap (λ (z : Got X). chained text f g b c (go m) o (held x) z) q.item_is,
        )

        is : (o : Held X) (n : ℕ) → length text < at + n → (m : ℕ) × (length text < to + m) × (go n o nothing at ≡ chained text f g b c (go m) o nothing (ok (f x y) to))
        is o n l = let s = r.inner_is o n l in step-on o n s.0 s.1 s.2

    outer_first : (x : X) (at to : ℕ) → InnerRead x at to → OuterRead x at to
    outer_first x at to r =
        record { outer_on = r.inner_on; outer_in = r.inner_in; outer_is = λ n l. let s = r.inner_is nothing n l in (s.0, nothing, x, refl, s.1, s.2) }

    outer_next : (x y : X) (at mid to : ℕ) → OuterRead x at mid → byte text mid ≡ c → ¬ (c ≡ b) → InnerRead y (mid + 1) to → OuterRead (g x y) at to
    outer_next x y at mid to r e ne q = record { outer_on = (let h = r.outer_on in let k = q.inner_on in omega arith); outer_in = r.outer_in; outer_is = is }
      where
        step-on : (n m : ℕ) (o : Held X) (y₀ : X) → joined g o y₀ ≡ x → length text < mid + m → go n nothing nothing at ≡ chained text f g b c (go m) o nothing (ok y₀ mid)
            → (m : ℕ) × (o : Held X) × (z : X) × (joined g o z ≡ g x y) × (length text < to + m) × (go n nothing nothing at ≡ chained text f g b c (go m) o nothing (ok z to))
        step-on n m o y₀ j l p =
            let s = q.inner_is (held x) m (omega arith) in (
              s.0,
              held x,
              y,
              refl,
              s.1,
              p ∙ ap (λ (z : Bool). cond z (go m o (held y₀) (mid + 1)) (cond (eqb (byte text mid) c) (go m (held (joined g o y₀)) nothing (mid + 1)) (ok (joined g o y₀) mid))) (ne_eqb (byte text mid) b (λ h. ne (sym e ∙ h)))
                  ∙ ap (λ (z : Bool). cond z (go m (held (joined g o y₀)) nothing (mid + 1)) (ok (joined g o y₀) mid)) (eq-eqb (byte text mid) c e)
                  ∙ ap (λ (z : X). go m (held z) nothing (mid + 1)) j ∙ s.2,
            )

        is : (n : ℕ) → length text < at + n
            → (m : ℕ) × (o : Held X) × (z : X) × (joined g o z ≡ g x y) × (length text < to + m) × (go n nothing nothing at ≡ chained text f g b c (go m) o nothing (ok z to))
        is n l = let s = r.outer_is n l in step-on n s.0 s.1 s.2 s.3 s.4 s.5

    -- where no operator follows, the chain ends
    outer_ends : (x : X) (at to : ℕ) → OuterRead x at to → ¬ (byte text to ≡ b) → ¬ (byte text to ≡ c) → go (suc (length text)) nothing nothing at ≡ ok x to
    outer_ends x at to r nb nc =
        let s = r.outer_is (suc (length text)) (omega arith) in
        let m = s.0 in let o = s.1 in let y = s.2 in
        s.5 ∙ ap (λ (z : Bool). cond z (go m o (held y) (to + 1)) (cond (eqb (byte text to) c) (go m (held (joined g o y)) nothing (to + 1)) (ok (joined g o y) to))) (ne_eqb (byte text to) b nb)
        ∙ ap (λ (z : Bool). cond z (go m (held (joined g o y)) nothing (to + 1)) (ok (joined g o y) to)) (ne_eqb (byte text to) c nc)
        ∙ ap (λ (z : X). ok z to) s.3

    -- and so does what stands in a mark that is closed
    outer_closed : (x : X) (at to e : ℕ) → OuterRead x at to → byte text to ≡ e → ¬ (e ≡ b) → ¬ (e ≡ c) → closed text e (go (suc (length text)) nothing nothing at) ≡ ok x (to + 1)
    unfolding closed
    outer_closed x at to e r h nb nc =
        ap (λ (z : Got X). closed text e z) (outer_ends x at to r (λ q. nb (sym h ∙ q)) (λ q. nc (sym h ∙ q))) ∙ rw (eq-eqb (byte text to) e h) refl

  -- what ends an operand, and what ends a starred piece
  abbrev NoDigit : ℕ → Type 0
  NoDigit z = is_digit (byte text z) ≡ false

  record NoStep (z : ℕ) : Type 0 where
    no_back : ¬ (byte text z ≡ sign_back)
    no_test : ¬ (byte text z ≡ sign_test)

  record Stop (z : ℕ) : Type 0 where
    step_ends : NoStep z
    no_star : ¬ (byte text z ≡ sign_star)

  abbrev Formulas : ℕ → Formula → ℕ → ℕ → Type 0
  Formulas D a at to = OuterRead both either sign_and sign_or (operand_at text (inner text D)) a at to

  abbrev Conjoined : ℕ → Formula → ℕ → ℕ → Type 0
  Conjoined D a at to = InnerRead both either sign_and sign_or (operand_at text (inner text D)) a at to

  abbrev Paths : ℕ → Path → ℕ → ℕ → Type 0
  Paths D p at to = OuterRead seq alt sign_seq sign_alt (starred_at text (inner text D)) p at to

  abbrev Sequenced : ℕ → Path → ℕ → ℕ → Type 0
  Sequenced D p at to = InnerRead seq alt sign_seq sign_alt (starred_at text (inner text D)) p at to

  record OperandRead (D : ℕ) (a : Formula) (at to : ℕ) : Type 0 where
    operand_on : at < to
    operand_in : at < length text
    operand_is : (ps : List Prefix) (n : ℕ) → length text < at + n → operand_from text (inner text D) n ps at ≡ ok (wrap ps a) to

  record AtomRead (D : ℕ) (a : Formula) (at to : ℕ) : Type 0 where
    atom_on : at < to
    atom_in : at < length text
    atom_first : is_prefix (byte text at) ≡ false
    atom_is : atom_at text (inner text D) at ≡ ok a to

  record PieceRead (D : ℕ) (p : Path) (at to : ℕ) : Type 0 where
    piece_on : at < to
    piece_in : at < length text
    piece_is : piece_at text (inner text D) at ≡ ok p to

  record StarRead (D : ℕ) (p : Path) (at to : ℕ) : Type 0 where
    star_on : at < to
    star_in : at < length text
    star_is : (m : ℕ) × (length text ≤ to + m) × (starred_at text (inner text D) at ≡ starred_from text m p to)

  -- where the text stands, ended so, it is read so
  abbrev Where : {X : Type 0} → (ℕ → Type 0) → (ℕ → X → ℕ → ℕ → Type 0) → X → List ℕ → Type 0
  Where F R x u = (D : ℕ) → length u ≤ D → (at to : ℕ) → Slice text at u to → F to → R D x at to

  abbrev claims : Claims
  claims =
      record {
        disjunction = Where NoDigit Formulas;
        conjunction = Where NoDigit Conjoined;
        operand = Where NoDigit OperandRead;
        atom = Where NoDigit AtomRead;
        choice = Where Stop Paths;
        sequence = Where Stop Sequenced;
        starred = Where NoStep StarRead;
        piece = Where NoStep PieceRead;
      }

  -- the bytes that end
  no_digit : (z e : ℕ) → byte text z ≡ e → is_digit e ≡ false → NoDigit z
  no_digit z e h d = ap is_digit h ∙ d

  stops : (z e : ℕ) → byte text z ≡ e → ¬ (e ≡ sign_back) → ¬ (e ≡ sign_test) → ¬ (e ≡ sign_star) → Stop z
  stops z e h p q r = record { step_ends = record { no_back = λ k. p (sym h ∙ k); no_test = λ k. q (sym h ∙ k) }; no_star = λ k. r (sym h ∙ k) }

  -- the left side, the operator's byte, the right side
  module _ (u w : List ℕ) (e at to : ℕ) (s : Slice text at (u ++ (e ∷ w)) to) where
    abbrev mid : ℕ
    mid = at + length u

    left_part : Slice text at u mid
    left_part = split_left text u (e ∷ w) at to s

    mid-byte : byte text mid ≡ e
    mid-byte = head_of text e w mid to (split_right text u (e ∷ w) at to s)

    mid_in : mid < length text
    mid_in = head_in text e w mid to (split_right text u (e ∷ w) at to s)

    right_part : Slice text (mid + 1) w to
    right_part = tail_of text e w mid to (split_right text u (e ∷ w) at to s)

    left_short : (D : ℕ) → length (u ++ (e ∷ w)) ≤ D → length u ≤ D
    left_short D l = let h = length-append u (e ∷ w) in omega arith

    right_short : (D : ℕ) → length (u ++ (e ∷ w)) ≤ D → length w ≤ D
    right_short D l = let h = length-append u (e ∷ w) in omega arith

  operand_item : (D : ℕ) (a : Formula) (at to : ℕ) → OperandRead D a at to → ItemRead both either sign_and sign_or (operand_at text (inner text D)) a at to
  operand_item D a at to r = record { item_is = r.operand_is [] (suc (length text)) (omega arith); item_on = r.operand_on; item_in = r.operand_in }

  no_more : (m : ℕ) (p : Path) (at : ℕ) → ¬ (byte text at ≡ sign_star) → starred_from text m p at ≡ ok p at
  unfolding starred_from
  no_more zero p at n = refl
  no_more (suc m) p at n = rw (ne_eqb (byte text at) sign_star n) refl

  star_item : (D : ℕ) (p : Path) (at to : ℕ) → StarRead D p at to → Stop to → ItemRead seq alt sign_seq sign_alt (starred_at text (inner text D)) p at to
  star_item D p at to r s = record { item_is = r.star_is.2 ∙ no_more r.star_is.0 p to s.no_star; item_on = r.star_on; item_in = r.star_in }

  -- operands
  atom_operand : (D : ℕ) (a : Formula) (at to : ℕ) → AtomRead D a at to → OperandRead D a at to
  unfolding operand_from
  atom_operand D a at to r = record { operand_on = r.atom_on; operand_in = r.atom_in; operand_is = is }
    where
      is : (ps : List Prefix) (n : ℕ) → length text < at + n → operand_from text (inner text D) n ps at ≡ ok (wrap ps a) to
      is ps zero l = absurd (let h = r.atom_in in omega arith)
      is ps (suc n) l = rw (r.atom_first, r.atom_is) refl

  prefix_operand : (D : ℕ) (q : Prefix) (a b : Formula) (at mid to : ℕ) → is_prefix (byte text at) ≡ true → prefix_at text (inner text D) at ≡ ok q mid → at < mid → at < length text
      → ((ps : List Prefix) → wrap (q ∷ ps) a ≡ wrap ps b) → OperandRead D a mid to → OperandRead D b at to
  unfolding operand_from
  prefix_operand D q a b at mid to e h l i w r = record { operand_on = (let k = r.operand_on in omega arith); operand_in = i; operand_is = is }
    where
      is : (ps : List Prefix) (n : ℕ) → length text < at + n → operand_from text (inner text D) n ps at ≡ ok (wrap ps b) to
      is ps zero l = absurd (omega arith)
      is ps (suc n) k = rw (e, h) (r.operand_is (q ∷ ps) n (omega arith) ∙ ap (λ (z : Formula). ok z to) (w ps))

  read_not : (a : Formula) (u : List ℕ) → Where NoDigit OperandRead a u → Where NoDigit OperandRead (neg a) (sign_not ∷ u)
  unfolding prefix_at
  read_not a u r D l at to s n =
      let h = head_of text sign_not u at to s in
      prefix_operand D bang a (neg a) at (at + 1) to (rw h refl) (rw h refl) (omega arith) (head_in text sign_not u at to s) (λ ps. refl) (r D (omega arith) (at + 1) to (tail_of text sign_not u at to s) n)

  -- behind a mark, one mark fewer may be open
  path-closed : (D : ℕ) (p : Path) (at to e : ℕ) → Paths D p at to → byte text to ≡ e → ¬ (e ≡ sign_seq) → ¬ (e ≡ sign_alt) → closed text e ((inner text (suc D)).path at) ≡ ok p (to + 1)
  unfolding inner
  path-closed D p at to e r h nb nc = outer_closed seq alt sign_seq sign_alt (starred_at text (inner text D)) p at to e r h nb nc

  formula-closed : (D : ℕ) (a : Formula) (at to e : ℕ) → Formulas D a at to → byte text to ≡ e → ¬ (e ≡ sign_and) → ¬ (e ≡ sign_or) → closed text e ((inner text (suc D)).formula at) ≡ ok a (to + 1)
  unfolding inner
  formula-closed D a at to e r h nb nc = outer_closed both either sign_and sign_or (operand_at text (inner text D)) a at to e r h nb nc

  -- a byte that ends a formula, and one that ends a path
  abbrev EndsFormula : ℕ → Type 0
  EndsFormula e = (is_digit e ≡ false) × (¬ (e ≡ sign_and)) × (¬ (e ≡ sign_or))

  abbrev EndsPath : ℕ → Type 0
  EndsPath e = (¬ (e ≡ sign_back)) × (¬ (e ≡ sign_test)) × (¬ (e ≡ sign_star)) × (¬ (e ≡ sign_seq)) × (¬ (e ≡ sign_alt))

  -- an opening sign, what stands behind it, a closing sign, the rest
  module _ (o e : ℕ) (u w : List ℕ) (D at to : ℕ) (l : length (o ∷ (u ++ (e ∷ w))) ≤ suc D) (s : Slice text at (o ∷ (u ++ (e ∷ w))) to) where
    abbrev closing : ℕ
    closing = at + 1 + length u

    behind : Slice text (at + 1) (u ++ (e ∷ w)) to
    behind = tail_of text o (u ++ (e ∷ w)) at to s

    rest : Slice text (closing + 1) w to
    rest = right_part u w e (at + 1) to behind

    marked_formula : (a : Formula) → EndsFormula e → Where NoDigit Formulas a u → closed text e ((inner text (suc D)).formula (at + 1)) ≡ ok a (closing + 1)
    marked_formula a c r =
        let k = mid-byte u w e (at + 1) to behind in
        formula-closed D a (at + 1) closing e (r D (left_short u w e (at + 1) to behind D (omega arith)) (at + 1) closing (left_part u w e (at + 1) to behind) (no_digit closing e k c.0)) k c.1 c.2

    marked_path : (p : Path) → EndsPath e → Where Stop Paths p u → closed text e ((inner text (suc D)).path (at + 1)) ≡ ok p (closing + 1)
    marked_path p c r =
        let k = mid-byte u w e (at + 1) to behind in
        path-closed D p (at + 1) closing e (r D (left_short u w e (at + 1) to behind D (omega arith)) (at + 1) closing (left_part u w e (at + 1) to behind) (stops closing e k c.0 c.1 c.2)) k c.3 c.4

  -- a path mark before an operand
  read_modal : (o e : ℕ) (q : Path → Prefix) (g : Path → Formula → Formula) → is_prefix o ≡ true → EndsPath e
      → ((D at to : ℕ) (p : Path) → byte text at ≡ o → closed text e ((inner text D).path (at + 1)) ≡ ok p to → prefix_at text (inner text D) at ≡ ok (q p) to)
      → ((p : Path) (a : Formula) (ps : List Prefix) → wrap (q p ∷ ps) a ≡ wrap ps (g p a))
      → (p : Path) (a : Formula) (u w : List ℕ) → Where Stop Paths p u → Where NoDigit OperandRead a w → Where NoDigit OperandRead (g p a) (o ∷ (u ++ (e ∷ w)))
  read_modal o e q g first ends prefix wraps p a u w r ra zero l at to s n = absurd (omega arith)
  read_modal o e q g first ends prefix wraps p a u w r ra (suc D) l at to s n =
      let h = head_of text o (u ++ (e ∷ w)) at to s in
      let z = at + 1 + length u in
      prefix_operand (suc D) (q p) a (g p a) at (z + 1) to (ap is_prefix h ∙ first) (prefix (suc D) at (z + 1) p h (marked_path o e u w D at to l s p ends r)) (omega arith) (head_in text o (u ++ (e ∷ w)) at to s) (wraps p a)
      (ra (suc D) (right_short u w e (at + 1) to (behind o e u w D at to l s) (suc D) (omega arith)) (z + 1) to (rest o e u w D at to l s) n)

  prefix_some : (D at to : ℕ) (p : Path) → byte text at ≡ angle_open → closed text angle_close ((inner text D).path (at + 1)) ≡ ok p to → prefix_at text (inner text D) at ≡ ok (angle p) to
  unfolding prefix_at
  prefix_some D at to p h x = rw (h, x) refl

  prefix_every : (D at to : ℕ) (p : Path) → byte text at ≡ square_open → closed text square_close ((inner text D).path (at + 1)) ≡ ok p to → prefix_at text (inner text D) at ≡ ok (square p) to
  unfolding prefix_at
  prefix_every D at to p h x = rw (h, x) refl

  -- atoms
  read_true : Where NoDigit AtomRead always word_true
  unfolding atom_at true_at
  read_true D l at to s n =
      let h₀ = head_of text 116 _ at to s in
      let s₁ = tail_of text 116 _ at to s in
      let h₁ = head_of text 114 _ (at + 1) to s₁ in
      let s₂ = tail_of text 114 _ (at + 1) to s₁ in
      let h₂ = head_of text 117 _ (at + 1 + 1) to s₂ in
      let s₃ = tail_of text 117 _ (at + 1 + 1) to s₂ in
      let h₃ : byte text (at + 1 + 2) ≡ 101 = ap (byte text) (let z : at + 1 + 2 ≡ at + 1 + 1 + 1 = omega arith in z) ∙ head_of text 101 [] (at + 1 + 1 + 1) to s₃ in
      let e : at + 1 + 3 ≡ to = (let q = s.end in omega arith) in
      record { atom_on = omega arith; atom_in = head_in text 116 _ at to s; atom_first = rw h₀ refl; atom_is = rw (h₀, h₁, h₂, h₃, e) refl }

  read_group : (a : Formula) (u : List ℕ) → Where NoDigit Formulas a u → Where NoDigit AtomRead a (round_open ∷ (u ++ (round_close ∷ [])))
  unfolding atom_at
  read_group a u r zero l at to s n = absurd (omega arith)
  read_group a u r (suc D) l at to s n =
      let h = head_of text round_open _ at to s in
      let x = marked_formula round_open round_close u [] D at to l s a (refl, omega arith, omega arith) r in
      let e : at + 1 + length u + 1 ≡ to = (let q = (rest round_open round_close u [] D at to l s).end in omega arith) in
      record { atom_on = omega arith; atom_in = head_in text round_open _ at to s; atom_first = rw h refl; atom_is = rw (h, x, e) refl }

  -- facts
  pair_first : (b c : ℕ) → 48 ≤ c → c ≤ 57 → 49 ≤ b → b ≤ 50 → is_pair b c ≡ true
  pair_first b c p q r s = rw (le-leb 48 c p, le-leb c 57 q, le-leb 49 b r, le-leb b 50 s) refl

  pair_second : (b c : ℕ) → 48 ≤ c → c ≤ 49 → b ≡ 51 → is_pair b c ≡ true
  pair_second b c p q r = rw (le-leb 48 c p, le-leb c 57 (omega arith), r, le-leb c 49 q) refl

  is_digit_lem : (b : ℕ) → 48 ≤ b → b ≤ 57 → is_digit b ≡ true
  is_digit_lem b p q = rw (le-leb 48 b p, le-leb b 57 q) refl

  fact_pair : (f : ℕ) → f < fact_limit → 10 ≤ f → is_pair (48 + f / 10) (48 + f % 10) ≡ true
  fact_pair f l h = cases (split (f / 10) 2)
    where
      cases : (f / 10 ≤ 2) ⊎ (2 < f / 10) → is_pair (48 + f / 10) (48 + f % 10) ≡ true
      cases (inl m) = pair_first (48 + f / 10) (48 + f % 10) (omega arith) (omega arith) (omega arith) (omega arith)
      cases (inr m) = pair_second (48 + f / 10) (48 + f % 10) (omega arith) (omega arith) (omega arith)

  fact_one : (f : ℕ) → f < 10 → Where NoDigit AtomRead (fact f) (sign_fact ∷ (48 + f) ∷ [])
  unfolding atom_at fact_at
  fact_one f l D m at to s n =
      let h = head_of text sign_fact _ at to s in
      let t = tail_of text sign_fact _ at to s in
      let k = head_of text (48 + f) [] (at + 1) to t in
      let e : at + 1 + 1 ≡ to = (let q = s.end in omega arith) in
      let v : 48 + f - 48 ≡ f = omega arith in
      record { atom_on = omega arith; atom_in = head_in text sign_fact _ at to s; atom_first = rw h refl; atom_is = rw (h, k, is_digit_lem (48 + f) (omega arith) (omega arith), e, n, v) refl }

  fact_two : (f : ℕ) → f < fact_limit → 10 ≤ f → Where NoDigit AtomRead (fact f) (sign_fact ∷ (48 + f / 10) ∷ (48 + f % 10) ∷ [])
  unfolding atom_at fact_at
  fact_two f l g D m at to s n =
      let h = head_of text sign_fact _ at to s in
      let t = tail_of text sign_fact _ at to s in
      let k = head_of text (48 + f / 10) _ (at + 1) to t in
      let t' = tail_of text (48 + f / 10) _ (at + 1) to t in
      let k' = head_of text (48 + f % 10) [] (at + 1 + 1) to t' in
      let e : at + 1 + 2 ≡ to = (let q = s.end in omega arith) in
      let v : (48 + f / 10 - 48) * 10 + (48 + f % 10 - 48) ≡ f = omega arith in
      record { atom_on = omega arith; atom_in = head_in text sign_fact _ at to s; atom_first = rw h refl; atom_is = rw (h, k, is_digit_lem (48 + f / 10) (omega arith) (omega arith), k', fact_pair f l g, e, v) refl }

  read_fact : (f : ℕ) → f < fact_limit → Where NoDigit AtomRead (fact f) (sign_fact ∷ decimal f)
  read_fact f l = cases (split 10 f)
    where
      Digits : List ℕ → Type 0
      Digits u = Where NoDigit AtomRead (fact f) (sign_fact ∷ u)

      cases : (10 ≤ f) ⊎ (f < 10) → Digits (decimal f)
      cases (inr h) = subst Digits (sym (decimal_one f h)) (fact_one f h)
      cases (inl h) = subst Digits (sym (decimal_two f h (omega arith))) (fact_two f l h)

  -- pieces
  read_ahead : (a : Formula) (u : List ℕ) → Where NoDigit Formulas a u → Where NoStep PieceRead (step ahead a) (curly_open ∷ (u ++ (curly_close ∷ [])))
  unfolding piece_at stepped
  read_ahead a u r zero l at to s n = absurd (omega arith)
  read_ahead a u r (suc D) l at to s n =
      let h = head_of text curly_open _ at to s in
      let x = marked_formula curly_open curly_close u [] D at to l s a (refl, omega arith, omega arith) r in
      let e : at + 1 + length u + 1 ≡ to = (let q = (rest curly_open curly_close u [] D at to l s).end in omega arith) in
      record { piece_on = omega arith; piece_in = head_in text curly_open _ at to s; piece_is = rw (h, x, e, ne_eqb (byte text to) sign_back n.no_back, ne_eqb (byte text to) sign_test n.no_test) refl }

  -- a step with a sign behind it
  read_signed : (b : ℕ) (d : Dir) → ((a : Formula) (at : ℕ) → byte text at ≡ b → stepped text (ok a at) ≡ ok (step d a) (at + 1))
      → (a : Formula) (u : List ℕ) → Where NoDigit Formulas a u → Where NoStep PieceRead (step d a) (curly_open ∷ (u ++ (curly_close ∷ b ∷ [])))
  unfolding piece_at
  read_signed b d is a u r zero l at to s n = absurd (omega arith)
  read_signed b d is a u r (suc D) l at to s n =
      let h = head_of text curly_open _ at to s in
      let x = marked_formula curly_open curly_close u (b ∷ []) D at to l s a (refl, omega arith, omega arith) r in
      let p = rest curly_open curly_close u (b ∷ []) D at to l s in
      let k = is a (at + 1 + length u + 1) (head_of text b [] (at + 1 + length u + 1) to p) in
      let e : at + 1 + length u + 1 + 1 ≡ to = (let q = p.end in omega arith) in
      record { piece_on = omega arith; piece_in = head_in text curly_open _ at to s; piece_is = rw (h, x, k, e) refl }

  step_back : (a : Formula) (at : ℕ) → byte text at ≡ sign_back → stepped text (ok a at) ≡ ok (step back a) (at + 1)
  unfolding stepped
  step_back a at k = rw k refl

  step_test : (a : Formula) (at : ℕ) → byte text at ≡ sign_test → stepped text (ok a at) ≡ ok (step stay a) (at + 1)
  unfolding stepped
  step_test a at k = rw k refl

  read_bracket : (p : Path) (u : List ℕ) → Where Stop Paths p u → Where NoStep PieceRead p (round_open ∷ (u ++ (round_close ∷ [])))
  unfolding piece_at
  read_bracket p u r zero l at to s n = absurd (omega arith)
  read_bracket p u r (suc D) l at to s n =
      let h = head_of text round_open _ at to s in
      let x = marked_path round_open round_close u [] D at to l s p (omega arith) r in
      let e : at + 1 + length u + 1 ≡ to = (let q = (rest round_open round_close u [] D at to l s).end in omega arith) in
      record { piece_on = omega arith; piece_in = head_in text round_open _ at to s; piece_is = rw (h, x, e) refl }

  -- stars
  piece_star : (D : ℕ) (p : Path) (at to : ℕ) → PieceRead D p at to → StarRead D p at to
  piece_star D p at to r = record { star_on = r.piece_on; star_in = r.piece_in; star_is = (length text, omega arith, ap (λ (z : Got Path). starred text z) r.piece_is) }

  star_more : (D : ℕ) (p : Path) (at to : ℕ) → StarRead D p at to → byte text to ≡ sign_star → to < length text → StarRead D (many p) at (to + 1)
  unfolding starred_from
  star_more D p at to r e i = record { star_on = (let h = r.star_on in omega arith); star_in = r.star_in; star_is = next r.star_is }
    where
      next : ((m : ℕ) × (length text ≤ to + m) × (starred_at text (inner text D) at ≡ starred_from text m p to))
          → (m : ℕ) × (length text ≤ to + 1 + m) × (starred_at text (inner text D) at ≡ starred_from text m (many p) (to + 1))
      next (zero, l, q) = absurd (omega arith)
      next (suc m, l, q) = (m, omega arith, q ∙ ap (λ (z : Bool). cond z (starred_from text m (many p) (to + 1)) (ok p to)) (eq-eqb (byte text to) sign_star e))

  read_star : (p : Path) (u : List ℕ) → Where NoStep StarRead p u → Where NoStep StarRead (many p) (u ++ (sign_star ∷ []))
  read_star p u r D l at to s n =
      let k = mid-byte u [] sign_star at to s in
      let z = at + length u in
      let e : z + 1 ≡ to = (let q = (right_part u [] sign_star at to s).end in omega arith) in
      subst (λ (y : ℕ). StarRead D (many p) at y) e
      (star_more D p at z (r D (left_short u [] sign_star at to s D l) at z (left_part u [] sign_star at to s) (record { no_back = λ q. (let w : ◌≡◌ {A = ℕ} sign_star sign_back = sym k ∙ q in omega arith); no_test = λ q. (let w : ◌≡◌ {A = ℕ} sign_star sign_test = sym k ∙ q in omega arith) })) k (mid_in u [] sign_star at to s))

  keeps : Keeps claims
  keeps =
      record {
        d_first = λ a u r D l at to s n. outer_first both either sign_and sign_or (operand_at text (inner text D)) a at to (r D l at to s n);
        d_next = λ a b u w r q D l at to s n.
            let k = mid-byte u w sign_or at to s in
            outer_next both either sign_and sign_or (operand_at text (inner text D)) a b at (at + length u) to (r D (left_short u w sign_or at to s D l) at (at + length u) (left_part u w sign_or at to s) (no_digit (at + length u) sign_or k refl))
            k (λ e. omega arith) (q D (right_short u w sign_or at to s D l) (at + length u + 1) to (right_part u w sign_or at to s) n);
        c_first = λ a u r D l at to s n. inner_first both either sign_and sign_or (operand_at text (inner text D)) a at to (operand_item D a at to (r D l at to s n));
        c_next = λ a b u w r q D l at to s n.
            let k = mid-byte u w sign_and at to s in
            inner_next both either sign_and sign_or (operand_at text (inner text D)) a b at (at + length u) to (r D (left_short u w sign_and at to s D l) at (at + length u) (left_part u w sign_and at to s) (no_digit (at + length u) sign_and k refl))
            k (mid_in u w sign_and at to s) (operand_item D b (at + length u + 1) to (q D (right_short u w sign_and at to s D l) (at + length u + 1) to (right_part u w sign_and at to s) n));
        atoms = λ a u r D l at to s n. atom_operand D a at to (r D l at to s n);
        nots = read_not;
        somes = read_modal angle_open angle_close angle some refl (omega arith) prefix_some (λ p a ps. refl);
        everys = read_modal square_open square_close square every refl (omega arith) prefix_every (λ p a ps. refl);
        trues = read_true;
        facts = read_fact;
        groups = read_group;
        h_first = λ p u r D l at to s n. outer_first seq alt sign_seq sign_alt (starred_at text (inner text D)) p at to (r D l at to s n);
        h_next = λ p q u w r t D l at to s n.
            let k = mid-byte u w sign_alt at to s in
            outer_next seq alt sign_seq sign_alt (starred_at text (inner text D)) p q at (at + length u) to (r D (left_short u w sign_alt at to s D l) at (at + length u) (left_part u w sign_alt at to s) (stops (at + length u) sign_alt k (λ e. omega arith) (λ e. omega arith) (λ e. omega arith)))
            k (λ e. omega arith) (t D (right_short u w sign_alt at to s D l) (at + length u + 1) to (right_part u w sign_alt at to s) n);
        s_first = λ p u r D l at to s n. inner_first seq alt sign_seq sign_alt (starred_at text (inner text D)) p at to (star_item D p at to (r D l at to s n.step_ends) n);
        s_next = λ p q u w r t D l at to s n.
            let k = mid-byte u w sign_seq at to s in
            inner_next seq alt sign_seq sign_alt (starred_at text (inner text D)) p q at (at + length u) to (r D (left_short u w sign_seq at to s D l) at (at + length u) (left_part u w sign_seq at to s) (stops (at + length u) sign_seq k (λ e. omega arith) (λ e. omega arith) (λ e. omega arith)))
            k (mid_in u w sign_seq at to s) (star_item D q (at + length u + 1) to (t D (right_short u w sign_seq at to s D l) (at + length u + 1) to (right_part u w sign_seq at to s) n.step_ends) n);
        pieces = λ p u r D l at to s n. piece_star D p at to (r D l at to s n);
        stars = read_star;
        aheads = read_ahead;
        backs = read_signed sign_back back step_back;
        tests = read_signed sign_test stay step_test;
        brackets = read_bracket;
      }

  -- EVERY TEXT OF THE GRAMMAR IS READ WHOLE, where as many marks may be open as it has bytes
  pub read_whole : (a : Formula) → Disjunction a text → (D : ℕ) → length text ≤ D → formula_at text D 0 ≡ ok a (length text)
  read_whole a t D l =
      let e = byte_out text (length text) (omega arith) in
      let r = on_disjunction claims keeps t D l 0 (length text) (slice_all text) (no_digit (length text) 256 e refl) in
      outer_ends both either sign_and sign_or (operand_at text (inner text D)) a 0 (length text) r
      (λ q. let w : ◌≡◌ {A = ℕ} 256 sign_and = sym e ∙ q in omega arith) (λ q. let w : ◌≡◌ {A = ℕ} 256 sign_or = sym e ∙ q in omega arith)
