-- What is read is of the grammar; where reading stops, what stands before can go on; where a mark is too deep, it can go on too. Shown of each part of the reader, by induction over the depth.
use Prim.Native.Nat.{ℕ, zero, suc, ◌+◌, ◌*◌, ◌-◌, ◌/◌, ◌%◌, ◌≤◌, ◌<◌}
use native.Mathlib.Omega.{arith}
use mathlib.Core.Path.{◌≡◌, refl, ap, sym, subst, ◌∙◌}
use mathlib.Core.List.{List, [], ◌∷◌, ◌++◌, append_assoc, append-nil}
use mathlib.Core.Bool.{Bool, true, false, cond, ◌&&◌, ◌||◌}
use lib.Dec.{eqb, leb}
use lib.ListN.{length}
use borrow.Author.Tests.{eqb-true, leb-true}
use Rattle.aldlf.specs.Constants.{fact_limit}
use Rattle.aldlf.specs.Sheet.{ahead}
use Rattle.text.specs.Text.{is_digit}
use Rattle.sheet.proofs.Bools as bools
use Rattle.appending.specs.Appending.{decimal}
use Rattle.appending.proofs.Decimals.{decimal_one, decimal_two}
use Rattle.formula.specs.Signs.{sign_not, sign_and, sign_or, sign_seq, sign_alt, sign_star, sign_back, sign_test, round_open, round_close, curly_open, curly_close, angle_open, angle_close, square_open, square_close, sign_fact, word_true}
use Rattle.formula.specs.Formula.{Formula, always, fact, neg, both, either, some, every, Path, step, seq, alt, many}
use Rattle.formula.specs.Grammar.{Disjunction, Conjunction, Operand, Atom, Choice, Sequence, Starred, Piece, d_one, d_more, c_one, c_more, o_atom, o_not, o_some, o_every, a_true, a_fact, a_group, h_one, h_more, s_one, s_more, r_none, r_star, p_ahead, p_back, p_test, p_group, open_after}
use Rattle.formula.specs.Parse.{Got, ok, bad, deep, Inner, Held, nothing, held, joined, Prefix, bang, angle, square, wrap, map_got, is_prefix, is_pair, prefixed, byte, closed, chained, chain, fact_at, true_at, stepped, starred_from, starred, atom_at, prefix_at, operand_from, operand_at, piece_at, starred_at, outside, inner, formula_at}
use Rattle.formula.proofs.Bytes.{Slice, slice_none, slice_one, slice_cons, slice_append}
use Rattle.formula.proofs.Levels.{UnderBefore, Level, Low, Quiet, Opens, Closes, open_append, open_cons, low_none, low_append, before_behind, low_quiet, low_opens, before_opens, low_marked, level_none, level_append, level_quiet, level_marked, quiet_digit, down, d_level, c_level, h_level, s_level, r_level}

digit_of : (b : ℕ) → is_digit b ≡ true → (48 ≤ b) × (b ≤ 57)
digit_of b e = let p = bools.both (leb 48 b) (leb b 57) e in (leb-true 48 b p.0, leb-true b 57 p.1)

-- two digits that are a fact's number
pair_of : (b c : ℕ) → is_pair b c ≡ true → (48 ≤ c) × (c ≤ 57) × (49 ≤ b) × (b ≤ 51) × ((b - 48) * 10 + (c - 48) < fact_limit)
pair_of b c e =
    let p = bools.both (is_digit c) ((leb 49 b && leb b 50) || (eqb b 51 && leb c 49)) e in
    let d = digit_of c p.0 in
    go (leb 49 b && leb b 50) (eqb b 51 && leb c 49) refl refl p.1 d
  where
    go : (x y : Bool) → (leb 49 b && leb b 50) ≡ x → (eqb b 51 && leb c 49) ≡ y → (x || y) ≡ true → (48 ≤ c) × (c ≤ 57)
        → (48 ≤ c) × (c ≤ 57) × (49 ≤ b) × (b ≤ 51) × ((b - 48) * 10 + (c - 48) < fact_limit)
    go true y p q e d =
        let r = bools.both (leb 49 b) (leb b 50) p in let m = leb-true 49 b r.0 in let n = leb-true b 50 r.1 in
        (d.0, d.1, m, omega arith, omega arith)
    go false true p q e d =
        let r = bools.both (eqb b 51) (leb c 49) q in let m = eqb-true b 51 r.0 in let n = leb-true c 49 r.1 in
        (d.0, d.1, omega arith, omega arith, omega arith)
    go false false p q e d = absurd (let z : ◌≡◌ {A = ℕ} 0 1 = cc in omega arith)

-- their digits
digits_two : (b c : ℕ) → 48 ≤ c → c ≤ 57 → 49 ≤ b → b ≤ 57 → decimal ((b - 48) * 10 + (c - 48)) ≡ b ∷ c ∷ []
digits_two b c l h m n =
    let f = (b - 48) * 10 + (c - 48) in
    let p : 48 + f / 10 ≡ b = omega arith in
    let q : 48 + f % 10 ≡ c = omega arith in
    decimal_two f (omega arith) (omega arith) ∙ rw (p, q) refl

digits_one : (b : ℕ) → 48 ≤ b → b ≤ 57 → decimal (b - 48) ≡ b ∷ []
digits_one b l h =
    let p : 48 + (b - 48) ≡ b = omega arith in
    decimal_one (b - 48) (omega arith) ∙ rw p refl

-- a prefix's text
data PrefixText : Prefix → List ℕ → Type 0 where
  t_bang : {v : List ℕ} → v ≡ sign_not ∷ [] → PrefixText bang v
  t_angle : {p : Path} {u v : List ℕ} → v ≡ angle_open ∷ (u ++ (angle_close ∷ [])) → Choice p u → PrefixText (angle p) v
  t_square : {p : Path} {u v : List ℕ} → v ≡ square_open ∷ (u ++ (square_close ∷ [])) → Choice p u → PrefixText (square p) v

-- a prefix before an operand
marked_behind : (o b : ℕ) (u w v : List ℕ) → v ≡ o ∷ (u ++ (b ∷ [])) → v ++ w ≡ o ∷ (u ++ (b ∷ w))
marked_behind o b u w v e = ap (λ (z : List ℕ). z ++ w) e ∙ ap (λ (z : List ℕ). o ∷ z) (append_assoc u (b ∷ []) w)

prefix_before : {f : Prefix} {u : List ℕ} → PrefixText f u → (ps : List Prefix) (a : Formula) (w : List ℕ) → Operand a w
    → (b : Formula) × Operand b (u ++ w) × (wrap (f ∷ ps) a ≡ wrap ps b)
prefix_before (t_bang e) ps a w t = (neg a, o_not (ap (λ (z : List ℕ). z ++ w) e) t, refl)
prefix_before (t_angle {p} {u} {v} e h) ps a w t = (some p a, o_some (marked_behind angle_open angle_close u w v e) h t, refl)
prefix_before (t_square {p} {u} {v} e h) ps a w t = (every p a, o_every (marked_behind square_open square_close u w v e) h t, refl)

rejoin : (q u v w : List ℕ) → (q ++ (u ++ v)) ++ w ≡ (q ++ u) ++ (v ++ w)
rejoin q u v w = simp append_assoc

-- a formula and a step that can always be written
some_atom : Atom (fact 0) (sign_fact ∷ 48 ∷ [])
some_atom = a_fact (ap (λ (z : List ℕ). sign_fact ∷ z) (sym (decimal_one 0 (omega arith)))) (omega arith)

some_operand : Operand (fact 0) (sign_fact ∷ 48 ∷ [])
some_operand = o_atom some_atom

some_formula : Disjunction (fact 0) (sign_fact ∷ 48 ∷ [])
some_formula = d_one (c_one some_operand)

some_piece : Piece (step ahead (fact 0)) (curly_open ∷ sign_fact ∷ 48 ∷ curly_close ∷ [])
some_piece = p_ahead {u = sign_fact ∷ 48 ∷ []} refl some_formula

module _ (text : List ℕ) where
  -- what reading from `at` gives, where fewer than n marks more may be open: a text of the grammar; or one that can go on; or one that can go on and whose last byte opens one mark too many
  pub data Right {X : Type 0} (T : X → List ℕ → Type 0) (at n : ℕ) : Got X → Type 0 where
    reads : {x : X} {to : ℕ} (u : List ℕ) → Slice text at u to → T x u → Low n u → Right T at n (ok x to)
    goes_on : {to : ℕ} (u v : List ℕ) (x : X) → Slice text at u to → T x (u ++ v) → Low n u → Right T at n (bad to)
    too : {to : ℕ} (u v : List ℕ) (x : X) → Slice text at u to → T x (u ++ v) → ((k : ℕ) → open_after u k ≡ k + n) → ((k : ℕ) → UnderBefore (k + n) u k) → Right T at n (deep to)

  right_if : {X : Type 0} {T : X → List ℕ → Type 0} {at n : ℕ} (b : Bool) {p q : Got X} → (b ≡ true → Right T at n p) → (b ≡ false → Right T at n q) → Right T at n (cond b p q)
  right_if true f y = f refl
  right_if false f y = y refl

  -- the same under another name
  right_as : {X : Type 0} {T : X → List ℕ → Type 0} {U : X → List ℕ → Type 0} {at n : ℕ} {g : Got X} → ((x : X) (u : List ℕ) → T x u → U x u) → Right T at n g → Right U at n g
  right_as h (reads {x = x} u sl t lu) = reads u sl (h x u t) lu
  right_as h (goes_on u v x sl t lu) = goes_on u v x sl (h x (u ++ v) t) lu
  right_as h (too u v x sl t op bf) = too u v x sl (h x (u ++ v) t) op bf

  -- behind what stands before it
  right_behind : {X Y : Type 0} (T : X → List ℕ → Type 0) (U : Y → List ℕ → Type 0) (h : X → Y) (q : List ℕ) (s at n : ℕ) → Slice text s q at → Level q → Low n q
      → ((x : X) (w : List ℕ) → T x w → U (h x) (q ++ w)) → (g : Got X) → Right T at n g → Right U s n (map_got h g)
  right_behind T U h q s at n sl lev low f (ok x to) (reads u sl' t lu) = reads (q ++ u) (slice_append text q u s at to sl sl') (f x u t) (low_append n q u low lev lu)
  right_behind T U h q s at n sl lev low f (bad to) (goes_on u v x sl' t lu) =
      goes_on (q ++ u) v (h x) (slice_append text q u s at to sl sl') (subst (λ (z : List ℕ). U (h x) z) (sym (append_assoc q u v)) (f x (u ++ v) t)) (low_append n q u low lev lu)
  right_behind T U h q s at n sl lev low f (deep to) (too u v x sl' t op bf) =
      too (q ++ u) v (h x) (slice_append text q u s at to sl sl') (subst (λ (z : List ℕ). U (h x) z) (sym (append_assoc q u v)) (f x (u ++ v) t))
      (λ k. open_append q u k ∙ ap (λ (z : ℕ). open_after u z) (lev k) ∙ op k) (before_behind n q u low lev bf)

  -- an opening byte, what is read, a closing byte
  right_closed : {X : Type 0} (T : X → List ℕ → Type 0) (at o b n : ℕ) (g : Got X) → Opens o → Closes b → o < 256 → b < 256 → ((x : X) (u : List ℕ) → T x u → Level u) → byte text at ≡ o → Right T (at + 1) n g
      → Right (λ (x : X) (u : List ℕ). (w : List ℕ) × (u ≡ o ∷ (w ++ (b ∷ []))) × T x w) at (suc n) (closed text b g)
  unfolding closed
  right_closed T at o b n (ok x to) up dn lo lb lev e (reads u sl t lu) =
      right_if (eqb (byte text to) b)
      (λ q. reads (o ∷ (u ++ (b ∷ []))) (slice_cons text at o (to + 1) _ e lo (slice_append text u (b ∷ []) (at + 1) to (to + 1) sl (slice_one text to b (eqb-true (byte text to) b q) lb))) (u, refl, t) (low_marked n o b u up dn (lev x u t) lu))
      (λ q. goes_on (o ∷ u) (b ∷ []) x (slice_cons text at o to u e lo sl) (u, refl, t) (low_opens n o u up lu))
  right_closed T at o b n (bad to) up dn lo lb lev e (goes_on u v x sl t lu) =
      goes_on (o ∷ u) (v ++ (b ∷ [])) x (slice_cons text at o to u e lo sl) (u ++ v, ap (λ (z : List ℕ). o ∷ z) (sym (append_assoc u v (b ∷ []))), t) (low_opens n o u up lu)
  right_closed T at o b n (deep to) up dn lo lb lev e (too u v x sl t op bf) =
      too (o ∷ u) (v ++ (b ∷ [])) x (slice_cons text at o to u e lo sl) (u ++ v, ap (λ (z : List ℕ). o ∷ z) (sym (append_assoc u v (b ∷ []))), t)
      (λ k. open_cons o u k ∙ ap (λ (z : ℕ). open_after u z) (up k) ∙ op (suc k) ∙ (let q : suc k + n ≡ k + suc n = omega arith in q))
      (before_opens n o u up bf)

  -- items joined by one operator: what stood before the next item
  module _ {X : Type 0} (f : X → X → X) (sep : ℕ) (T C : X → List ℕ → Type 0)
      (first : (x : X) (u : List ℕ) → T x u → C x u) (next : (x y : X) (u w : List ℕ) → C x u → T y w → C (f x y) (u ++ (sep ∷ w)))
      (level : (x : X) (u : List ℕ) → C x u → Level u) (quiet : Quiet sep) where
    data Before : Held X → List ℕ → Type 0 where
      none : Before nothing []
      some_before : {x : X} {u v : List ℕ} → v ≡ u ++ (sep ∷ []) → C x u → Before (held x) v

    before_level : {a : Held X} {u : List ℕ} → Before a u → Level u
    before_level none = level_none
    before_level (some_before {x} {u} {v} e c) = subst (λ (z : List ℕ). Level z) (sym e) (level_append u (sep ∷ []) (level x u c) (level_quiet sep [] quiet level_none))

    add : {a : Held X} {u : List ℕ} → Before a u → (y : X) (w : List ℕ) → T y w → C (joined f a y) (u ++ w)
    add none y w t = first y w t
    add (some_before {x} {u} {v} e c) y w t =
        subst (λ (z : List ℕ). C (f x y) z) (sym (append_assoc u (sep ∷ []) w) ∙ ap (λ (z : List ℕ). z ++ w) (sym e)) (next x y u w c t)

  -- a chain of two operators
  module _ {X : Type 0} (f g : X → X → X) (b c : ℕ) (item : ℕ → Got X) (T C E : X → List ℕ → Type 0)
      (first : (x : X) (u : List ℕ) → T x u → C x u) (next : (x y : X) (u w : List ℕ) → C x u → T y w → C (f x y) (u ++ (b ∷ w)))
      (first' : (x : X) (u : List ℕ) → C x u → E x u) (next' : (x y : X) (u w : List ℕ) → E x u → C y w → E (g x y) (u ++ (c ∷ w)))
      (level : (x : X) (u : List ℕ) → C x u → Level u) (level' : (x : X) (u : List ℕ) → E x u → Level u)
      (quiet : Quiet b) (quiet' : Quiet c) (small : b < 256) (small' : c < 256)
      (x₀ : X) (u₀ : List ℕ) (any : T x₀ u₀) (n : ℕ) (good : (at : ℕ) → Right T at (suc n) (item at)) where
    abbrev A : Held X → List ℕ → Type 0
    A a u = Before f b T C first next level quiet a u

    abbrev O : Held X → List ℕ → Type 0
    O o u = Before g c C E first' next' level' quiet' o u

    -- what an item makes of what stood before it
    whole_of : {o a : Held X} {p q : List ℕ} → O o p → A a q → (y : X) (w : List ℕ) → T y w → E (joined g o (joined f a y)) ((p ++ q) ++ w)
    whole_of {o} {a} {p} {q} bo ba y w t =
        subst (λ (z : List ℕ). E (joined g o (joined f a y)) z) (sym (append_assoc p q w))
        (add g c C E first' next' level' quiet' bo (joined f a y) (q ++ w) (add f b T C first next level quiet ba y w t))

    front_level : {o a : Held X} {p q : List ℕ} → O o p → A a q → Level (p ++ q)
    front_level {o} {a} {p} {q} bo ba = level_append p q (before_level g c C E first' next' level' quiet' bo) (before_level f b T C first next level quiet ba)

    abbrev ChainRight : ℕ → Type 0
    ChainRight m =
        (o a : Held X) (s at : ℕ) (p q : List ℕ) → Slice text s (p ++ q) at → O o p → A a q → Low (suc n) (p ++ q)
        → Right E s (suc n) (chain text f g b c item m o a at)

    module _ (o a : Held X) (s at : ℕ) (p q : List ℕ) (sl : Slice text s (p ++ q) at) (bo : O o p) (ba : A a q) (lo : Low (suc n) (p ++ q)) (m : ℕ) (rec : ChainRight m) where
      more_b : (x : X) (to : ℕ) (w : List ℕ) → Slice text at w to → T x w → Low (suc n) w → byte text to ≡ b → Right E s (suc n) (chain text f g b c item m o (held (joined f a x)) (to + 1))
      more_b x to w sw t lw e =
          let same : (p ++ q) ++ w ≡ p ++ (q ++ w) = append_assoc p q w in
          let lv = level (joined f a x) (q ++ w) (add f b T C first next level quiet ba x w t) in
          let sl' = slice_append text (p ++ q) w s at to sl sw in
          let lo' = subst (λ (z : List ℕ). Low (suc n) z) same (low_append (suc n) (p ++ q) w lo (front_level bo ba) lw) in
          rec o (held (joined f a x)) s (to + 1) p ((q ++ w) ++ (b ∷ []))
          (subst (λ (z : List ℕ). Slice text s z (to + 1)) (ap (λ (z : List ℕ). z ++ (b ∷ [])) same ∙ append_assoc p (q ++ w) (b ∷ []))
          (slice_append text ((p ++ q) ++ w) (b ∷ []) s to (to + 1) sl' (slice_one text to b e small)))
          bo (some_before refl (add f b T C first next level quiet ba x w t))
          (subst (λ (z : List ℕ). Low (suc n) z) (append_assoc p (q ++ w) (b ∷ []))
          (low_append (suc n) (p ++ (q ++ w)) (b ∷ []) lo' (level_append p (q ++ w) (before_level g c C E first' next' level' quiet' bo) lv) (low_quiet n b [] quiet (low_none n))))

      more_c : (x : X) (to : ℕ) (w : List ℕ) → Slice text at w to → T x w → Low (suc n) w → byte text to ≡ c → Right E s (suc n) (chain text f g b c item m (held (joined g o (joined f a x))) nothing (to + 1))
      more_c x to w sw t lw e =
          let all = whole_of bo ba x w t in
          let sl' = slice_append text (p ++ q) w s at to sl sw in
          let lo' = low_append (suc n) (p ++ q) w lo (front_level bo ba) lw in
          let u = ((p ++ q) ++ w) ++ (c ∷ []) in
          let nil : u ≡ u ++ [] = sym (append-nil u) in
          rec (held (joined g o (joined f a x))) nothing s (to + 1) u []
          (subst (λ (z : List ℕ). Slice text s z (to + 1)) nil (slice_append text ((p ++ q) ++ w) (c ∷ []) s to (to + 1) sl' (slice_one text to c e small')))
          (some_before refl all) none
          (subst (λ (z : List ℕ). Low (suc n) z) nil (low_append (suc n) ((p ++ q) ++ w) (c ∷ []) lo' (level' _ _ all) (low_quiet n c [] quiet' (low_none n))))

      step_right : (r : Got X) → Right T at (suc n) r → Right E s (suc n) (chained text f g b c (chain text f g b c item m) o a r)
      step_right (ok x to) (reads w sw t lw) =
          right_if (eqb (byte text to) b) (λ e. more_b x to w sw t lw (eqb-true (byte text to) b e))
          (λ e'. right_if (eqb (byte text to) c) (λ e. more_c x to w sw t lw (eqb-true (byte text to) c e))
          (λ e. reads ((p ++ q) ++ w) (slice_append text (p ++ q) w s at to sl sw) (whole_of bo ba x w t) (low_append (suc n) (p ++ q) w lo (front_level bo ba) lw)))
      step_right (bad to) r = right_behind T E (λ x. joined g o (joined f a x)) (p ++ q) s at (suc n) sl (front_level bo ba) lo (whole_of bo ba) (bad to) r
      step_right (deep to) r = right_behind T E (λ x. joined g o (joined f a x)) (p ++ q) s at (suc n) sl (front_level bo ba) lo (whole_of bo ba) (deep to) r

    right_chain : (m : ℕ) → ChainRight m
    unfolding chain
    right_chain zero o a s at p q sl bo ba lo = goes_on (p ++ q) u₀ (joined g o (joined f a x₀)) sl (whole_of bo ba x₀ u₀ any) lo
    right_chain (suc m) o a s at p q sl bo ba lo = step_right o a s at p q sl bo ba lo m (right_chain m) (item at) (good at)

  -- `true`, after its first byte
  right_true : (at n : ℕ) → byte text at ≡ 116 → Right Atom at (suc n) (true_at text (at + 1))
  unfolding true_at
  right_true at n e =
      let one : (w : List ℕ) → Low (suc n) w → Low (suc n) (116 ∷ w) = λ w l. low_quiet n 116 w (λ k. refl) l in
      let two : (w : List ℕ) → Low (suc n) w → Low (suc n) (114 ∷ w) = λ w l. low_quiet n 114 w (λ k. refl) l in
      let three : (w : List ℕ) → Low (suc n) w → Low (suc n) (117 ∷ w) = λ w l. low_quiet n 117 w (λ k. refl) l in
      right_if (eqb (byte text (at + 1)) 114)
      (λ e₁. let f₁ = eqb-true (byte text (at + 1)) 114 e₁ in
      right_if (eqb (byte text (at + 1 + 1)) 117)
      (λ e₂. let f₂ = eqb-true (byte text (at + 1 + 1)) 117 e₂ in
      right_if (eqb (byte text (at + 1 + 2)) 101)
      (λ e₃. let f₃ : byte text (at + 1 + 1 + 1) ≡ 101 = ap (byte text) (let z : at + 1 + 1 + 1 ≡ at + 1 + 2 = omega arith in z) ∙ eqb-true (byte text (at + 1 + 2)) 101 e₃ in
      reads word_true
      (subst (λ (z : ℕ). Slice text at word_true z) (let z : at + 1 + 1 + 1 + 1 ≡ at + 1 + 3 = omega arith in z)
      (slice_cons text at 116 _ _ e (omega arith) (slice_cons text (at + 1) 114 _ _ f₁ (omega arith) (slice_cons text (at + 1 + 1) 117 _ _ f₂ (omega arith) (slice_one text (at + 1 + 1 + 1) 101 f₃ (omega arith))))))
      (a_true refl) (one _ (two _ (three _ (low_quiet n 101 [] (λ k. refl) (low_none n))))))
      (λ e₃. goes_on (116 ∷ 114 ∷ 117 ∷ []) (101 ∷ []) always
      (subst (λ (z : ℕ). Slice text at (116 ∷ 114 ∷ 117 ∷ []) z) (let z : at + 1 + 1 + 1 ≡ at + 1 + 2 = omega arith in z)
      (slice_cons text at 116 _ _ e (omega arith) (slice_cons text (at + 1) 114 _ _ f₁ (omega arith) (slice_one text (at + 1 + 1) 117 f₂ (omega arith)))))
      (a_true refl) (one _ (two _ (three _ (low_none n))))))
      (λ e₂. goes_on (116 ∷ 114 ∷ []) (117 ∷ 101 ∷ []) always (slice_cons text at 116 _ _ e (omega arith) (slice_one text (at + 1) 114 f₁ (omega arith))) (a_true refl) (one _ (two _ (low_none n)))))
      (λ e₁. goes_on (116 ∷ []) (114 ∷ 117 ∷ 101 ∷ []) always (slice_one text at 116 e (omega arith)) (a_true refl) (one _ (low_none n)))

  -- a fact, after its first byte
  right_fact : (at n : ℕ) → byte text at ≡ sign_fact → Right Atom at (suc n) (fact_at text (at + 1))
  unfolding fact_at
  right_fact at n e =
      let b = byte text (at + 1) in
      let c = byte text (at + 1 + 1) in
      right_if (is_digit b)
      (λ e₁. let d = digit_of b e₁ in
      right_if (is_pair b c)
      (λ e₂. let p = pair_of b c e₂ in
      reads (sign_fact ∷ b ∷ c ∷ [])
      (subst (λ (z : ℕ). Slice text at (sign_fact ∷ b ∷ c ∷ []) z) (let z : at + 1 + 1 + 1 ≡ at + 1 + 2 = omega arith in z)
      (slice_cons text at sign_fact _ _ e (omega arith) (slice_cons text (at + 1) b _ _ refl (omega arith) (slice_one text (at + 1 + 1) c refl (omega arith)))))
      (a_fact (ap (λ (z : List ℕ). sign_fact ∷ z) (sym (digits_two b c p.0 p.1 p.2 (omega arith)))) p.4)
      (low_quiet n sign_fact _ (λ k. refl) (low_quiet n b _ (quiet_digit b d.0 d.1) (low_quiet n c [] (quiet_digit c p.0 p.1) (low_none n)))))
      (λ e₂.
      reads (sign_fact ∷ b ∷ []) (slice_cons text at sign_fact _ _ e (omega arith) (slice_one text (at + 1) b refl (omega arith)))
      (a_fact (ap (λ (z : List ℕ). sign_fact ∷ z) (sym (digits_one b d.0 d.1))) (omega arith))
      (low_quiet n sign_fact _ (λ k. refl) (low_quiet n b [] (quiet_digit b d.0 d.1) (low_none n)))))
      (λ e₁. goes_on (sign_fact ∷ []) (48 ∷ []) (fact 0) (slice_one text at sign_fact e (omega arith)) some_atom (low_quiet n sign_fact [] (λ k. refl) (low_none n)))

  -- what is right behind a mark
  abbrev Rights : Inner → ℕ → Type 0
  Rights I n = ((at : ℕ) → Right Disjunction at n (I.formula at)) × ((at : ℕ) → Right Choice at n (I.path at))

  module _ (I : Inner) (n : ℕ) (r : Rights I n) where
    right_atom : (at : ℕ) → Right Atom at (suc n) (atom_at text I at)
    unfolding atom_at
    right_atom at =
        right_if (eqb (byte text at) 116) (λ e. right_true at n (eqb-true (byte text at) 116 e))
        (λ e₁. right_if (eqb (byte text at) sign_fact) (λ e. right_fact at n (eqb-true (byte text at) sign_fact e))
        (λ e₂. right_if (eqb (byte text at) round_open)
        (λ e. right_as (λ a u z. a_group z.1 z.2) (right_closed Disjunction at round_open round_close n (I.formula (at + 1)) (λ k. refl) down (omega arith) (omega arith) d_level (eqb-true (byte text at) round_open e) (r.0 (at + 1))))
        (λ e₃. goes_on [] (sign_fact ∷ 48 ∷ []) (fact 0) (slice_none text at) some_atom (low_none n))))

    prefix_last : (b : ℕ) → is_prefix b ≡ true → eqb b sign_not ≡ false → eqb b angle_open ≡ false → b ≡ square_open
    prefix_last b e p q = eqb-true b square_open (rw (p, q) at e)

    right_prefix : (at : ℕ) → is_prefix (byte text at) ≡ true → Right PrefixText at (suc n) (prefix_at text I at)
    unfolding prefix_at
    right_prefix at h =
        right_if (eqb (byte text at) sign_not) (λ e. reads (sign_not ∷ []) (slice_one text at sign_not (eqb-true (byte text at) sign_not e) (omega arith)) (t_bang refl) (low_quiet n sign_not [] (λ k. refl) (low_none n)))
        (λ e₁. right_if (eqb (byte text at) angle_open)
        (λ e. right_behind _ PrefixText angle [] at at (suc n) (slice_none text at) level_none (low_none n) (λ p u z. t_angle z.1 z.2) _
        (right_closed Choice at angle_open angle_close n (I.path (at + 1)) (λ k. refl) down (omega arith) (omega arith) h_level (eqb-true (byte text at) angle_open e) (r.1 (at + 1))))
        (λ e. right_behind _ PrefixText square [] at at (suc n) (slice_none text at) level_none (low_none n) (λ p u z. t_square z.1 z.2) _
        (right_closed Choice at square_open square_close n (I.path (at + 1)) (λ k. refl) down (omega arith) (omega arith) h_level (prefix_last (byte text at) h e₁ e) (r.1 (at + 1)))))

    -- the prefixes in hand stand before an operand
    abbrev Fronts : List Prefix → List ℕ → Type 0
    Fronts ps q = (a : Formula) (w : List ℕ) → Operand a w → Operand (wrap ps a) (q ++ w)

    front_more : (ps : List Prefix) (f : Prefix) (q u : List ℕ) → Fronts ps q → PrefixText f u → Fronts (f ∷ ps) (q ++ u)
    front_more ps f q u fr t a w o =
        let r = prefix_before t ps a w o in
        subst (λ (z : Formula). Operand z ((q ++ u) ++ w)) (sym r.2) (subst (λ (z : List ℕ). Operand (wrap ps r.0) z) (sym (append_assoc q u w)) (fr r.0 (u ++ w) r.1))

    prefix_level : {f : Prefix} {u : List ℕ} → PrefixText f u → Level u
    prefix_level (t_bang e) = subst (λ (z : List ℕ). Level z) (sym e) (level_quiet sign_not [] (λ k. refl) level_none)
    prefix_level (t_angle {p} {u} e h) = subst (λ (z : List ℕ). Level z) (sym e) (level_marked angle_open angle_close u [] (λ k. refl) down (h_level p u h) level_none)
    prefix_level (t_square {p} {u} e h) = subst (λ (z : List ℕ). Level z) (sym e) (level_marked square_open square_close u [] (λ k. refl) down (h_level p u h) level_none)

    abbrev OperandRight : ℕ → Type 0
    OperandRight m = (ps : List Prefix) (s at : ℕ) (q : List ℕ) → Slice text s q at → Fronts ps q → Level q → Low (suc n) q → Right Operand s (suc n) (operand_from text I m ps at)

    -- prefixes whose last is unfinished can go on
    unfinished : (ps : List Prefix) (q : List ℕ) → Fronts ps q → (f : Prefix) (u v : List ℕ) → PrefixText f (u ++ v) → Operand (wrap (f ∷ ps) (fact 0)) ((q ++ u) ++ (v ++ (sign_fact ∷ 48 ∷ [])))
    unfinished ps q fr f u v t =
        subst (λ (z : List ℕ). Operand (wrap (f ∷ ps) (fact 0)) z) (rejoin q u v (sign_fact ∷ 48 ∷ [])) (front_more ps f q (u ++ v) fr t (fact 0) (sign_fact ∷ 48 ∷ []) some_operand)

    go_prefixed : (m : ℕ) → OperandRight m → (ps : List Prefix) (s at : ℕ) (q : List ℕ) → Slice text s q at → Fronts ps q → Level q → Low (suc n) q → (g : Got Prefix) → Right PrefixText at (suc n) g
        → Right Operand s (suc n) (prefixed (operand_from text I m) ps g)
    go_prefixed m rec ps s at q sl fr lev lo (ok f to) (reads u su t lu) =
        rec (f ∷ ps) s to (q ++ u) (slice_append text q u s at to sl su) (front_more ps f q u fr t) (level_append q u lev (prefix_level t)) (low_append (suc n) q u lo lev lu)
    go_prefixed m rec ps s at q sl fr lev lo (bad to) (goes_on u v f su t lu) =
        goes_on (q ++ u) (v ++ (sign_fact ∷ 48 ∷ [])) (wrap (f ∷ ps) (fact 0)) (slice_append text q u s at to sl su) (unfinished ps q fr f u v t) (low_append (suc n) q u lo lev lu)
    go_prefixed m rec ps s at q sl fr lev lo (deep to) (too u v f su t op bf) =
        too (q ++ u) (v ++ (sign_fact ∷ 48 ∷ [])) (wrap (f ∷ ps) (fact 0)) (slice_append text q u s at to sl su) (unfinished ps q fr f u v t)
        (λ k. open_append q u k ∙ ap (λ (z : ℕ). open_after u z) (lev k) ∙ op k) (before_behind (suc n) q u lo lev bf)

    right_operand_from : (m : ℕ) → OperandRight m
    unfolding operand_from
    right_operand_from zero ps s at q sl fr lev lo = goes_on q (sign_fact ∷ 48 ∷ []) (wrap ps (fact 0)) sl (fr (fact 0) (sign_fact ∷ 48 ∷ []) some_operand) lo
    right_operand_from (suc m) ps s at q sl fr lev lo =
        right_if (is_prefix (byte text at)) (λ e. go_prefixed m (right_operand_from m) ps s at q sl fr lev lo (prefix_at text I at) (right_prefix at e))
        (λ e. right_behind Atom Operand (wrap ps) q s at (suc n) sl lev lo (λ a w t. fr a w (o_atom t)) (atom_at text I at) (right_atom at))

    right_operand : (at : ℕ) → Right Operand at (suc n) (operand_at text I at)
    right_operand at = right_operand_from (suc (length text)) [] at at [] (slice_none text at) (λ a w t. t) level_none (low_none n)

    -- a step, after its closing mark
    abbrev Curly : Formula → List ℕ → Type 0
    Curly a u = (w : List ℕ) × (u ≡ curly_open ∷ (w ++ (curly_close ∷ []))) × Disjunction a w

    curly_more : (x : ℕ) (u w : List ℕ) → u ≡ curly_open ∷ (w ++ (curly_close ∷ [])) → u ++ (x ∷ []) ≡ curly_open ∷ (w ++ (curly_close ∷ x ∷ []))
    curly_more x u w e = marked_behind curly_open curly_close w (x ∷ []) u e

    curly_level : (a : Formula) (u : List ℕ) → Curly a u → Level u
    curly_level a u (w, e, d) = subst (λ (z : List ℕ). Level z) (sym e) (level_marked curly_open curly_close w [] (λ k. refl) down (d_level a w d) level_none)

    right_stepped : (at : ℕ) (g : Got Formula) → Right Curly at (suc n) g → Right Piece at (suc n) (stepped text g)
    unfolding stepped
    right_stepped at (ok a to) (reads u su t lu) =
        right_if (eqb (byte text to) sign_back)
        (λ e. reads (u ++ (sign_back ∷ [])) (slice_append text u (sign_back ∷ []) at to (to + 1) su (slice_one text to sign_back (eqb-true (byte text to) sign_back e) (omega arith)))
        (p_back (curly_more sign_back u t.0 t.1) t.2) (low_append (suc n) u (sign_back ∷ []) lu (curly_level a u t) (low_quiet n sign_back [] (λ k. refl) (low_none n))))
        (λ e₁. right_if (eqb (byte text to) sign_test)
        (λ e. reads (u ++ (sign_test ∷ [])) (slice_append text u (sign_test ∷ []) at to (to + 1) su (slice_one text to sign_test (eqb-true (byte text to) sign_test e) (omega arith)))
        (p_test (curly_more sign_test u t.0 t.1) t.2) (low_append (suc n) u (sign_test ∷ []) lu (curly_level a u t) (low_quiet n sign_test [] (λ k. refl) (low_none n))))
        (λ e. reads u su (p_ahead t.1 t.2) lu))
    right_stepped at (bad to) (goes_on u v a su t lu) = goes_on u v (step ahead a) su (p_ahead t.1 t.2) lu
    right_stepped at (deep to) (too u v a su t op bf) = too u v (step ahead a) su (p_ahead t.1 t.2) op bf

    right_piece : (at : ℕ) → Right Piece at (suc n) (piece_at text I at)
    unfolding piece_at
    right_piece at =
        right_if (eqb (byte text at) curly_open)
        (λ e. right_stepped at _ (right_closed Disjunction at curly_open curly_close n (I.formula (at + 1)) (λ k. refl) down (omega arith) (omega arith) d_level (eqb-true (byte text at) curly_open e) (r.0 (at + 1))))
        (λ e₁. right_if (eqb (byte text at) round_open)
        (λ e. right_as (λ p u z. p_group z.1 z.2) (right_closed Choice at round_open round_close n (I.path (at + 1)) (λ k. refl) down (omega arith) (omega arith) h_level (eqb-true (byte text at) round_open e) (r.1 (at + 1))))
        (λ e. goes_on [] (curly_open ∷ sign_fact ∷ 48 ∷ curly_close ∷ []) (step ahead (fact 0)) (slice_none text at) some_piece (low_none n)))

    right_stars : (m : ℕ) (p : Path) (s at : ℕ) (u : List ℕ) → Slice text s u at → Starred p u → Low (suc n) u → Right Starred s (suc n) (starred_from text m p at)
    unfolding starred_from
    right_stars zero p s at u su t lu = reads u su t lu
    right_stars (suc m) p s at u su t lu =
        right_if (eqb (byte text at) sign_star)
        (λ e. right_stars m (many p) s (at + 1) (u ++ (sign_star ∷ [])) (slice_append text u (sign_star ∷ []) s at (at + 1) su (slice_one text at sign_star (eqb-true (byte text at) sign_star e) (omega arith)))
        (r_star refl t) (low_append (suc n) u (sign_star ∷ []) lu (r_level p u t) (low_quiet n sign_star [] (λ k. refl) (low_none n))))
        (λ e. reads u su t lu)

    right_starred : (at : ℕ) (g : Got Path) → Right Piece at (suc n) g → Right Starred at (suc n) (starred text g)
    right_starred at (ok p to) (reads u su t lu) = right_stars (length text) p at to u su (r_none t) lu
    right_starred at (bad to) (goes_on u v p su t lu) = goes_on u v p su (r_none t) lu
    right_starred at (deep to) (too u v p su t op bf) = too u v p su (r_none t) op bf

    right_outside : Rights (outside text I) (suc n)
    right_outside = (
      λ at. right_chain both either sign_and sign_or (operand_at text I) Operand Conjunction Disjunction (λ x u t. c_one t) (λ x y u w c t. c_more refl c t) (λ x u t. d_one t) (λ x y u w c t. d_more refl c t)
          c_level d_level (λ k. refl) (λ k. refl) (omega arith) (omega arith) (fact 0) (sign_fact ∷ 48 ∷ []) some_operand n right_operand
          (suc (length text)) nothing nothing at at [] [] (slice_none text at) none none (low_none n),
      λ at. right_chain seq alt sign_seq sign_alt (starred_at text I) Starred Sequence Choice (λ x u t. s_one t) (λ x y u w c t. s_more refl c t) (λ x u t. h_one t) (λ x y u w c t. h_more refl c t)
          s_level h_level (λ k. refl) (λ k. refl) (omega arith) (omega arith) (step ahead (fact 0)) (curly_open ∷ sign_fact ∷ 48 ∷ curly_close ∷ []) (r_none some_piece) n (λ z. right_starred z (piece_at text I z) (right_piece z))
          (suc (length text)) nothing nothing at at [] [] (slice_none text at) none none (low_none n),
    )

  right_inner : (d : ℕ) → Rights (inner text d) d
  unfolding inner open_after UnderBefore
  right_inner zero = (
    λ at. too [] (sign_fact ∷ 48 ∷ []) (fact 0) (slice_none text at) some_formula (λ k. (let q : k ≡ k + 0 = omega arith in q)) (λ k. tt),
    λ at. too [] (curly_open ∷ sign_fact ∷ 48 ∷ curly_close ∷ []) (step ahead (fact 0)) (slice_none text at) (h_one (s_one (r_none some_piece))) (λ k. (let q : k ≡ k + 0 = omega arith in q)) (λ k. tt),
  )
  right_inner (suc d) = right_outside (inner text d) d (right_inner d)

  -- WHAT IS READ FROM A PLACE IS RIGHT
  pub right_formula : (d at : ℕ) → Right Disjunction at (suc d) (formula_at text d at)
  right_formula d at = (right_outside (inner text d) d (right_inner d)).0 at
