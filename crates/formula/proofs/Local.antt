-- What is read depends on the bytes read: two texts that agree through place x are read alike as far as x, and at any larger depth too. Shown of each part of the reader: it gives the same for both, or only places after x.
use Prim.Native.Nat.{ℕ, zero, suc, ◌+◌, ◌≤◌, ◌<◌}
use native.Mathlib.Omega.{arith}
use mathlib.Core.Path.{◌≡◌, refl, ap, sym, subst, ◌∙◌}
use mathlib.Core.List.{List, [], ◌∷◌}
use mathlib.Core.Logic.{◌⊎◌, inl, inr}
use mathlib.Core.Bool.{Bool, true, false, cond}
use lib.Dec.{eqb}
use lib.ListN.{length}
use borrow.Author.Tests.{ne_eqb}
use Rattle.text.specs.Text.{is_digit}
use Rattle.sheet.proofs.Bools.{split}
use Rattle.formula.specs.Signs.{sign_not, sign_and, sign_or, sign_seq, sign_alt, sign_star, sign_back, sign_test, round_open, round_close, curly_open, curly_close, angle_open, angle_close, square_close, sign_fact}
use Rattle.formula.specs.Formula.{Formula, Path, both, either, seq, alt, many}
use Rattle.formula.specs.Parse.{Got, ok, bad, deep, Inner, Held, nothing, held, joined, Prefix, angle, square, wrap, map_got, is_prefix, is_pair, prefixed, byte, closed, chained, chain, fact_at, true_at, stepped, starred_from, starred, atom_at, prefix_at, operand_from, operand_at, piece_at, starred_at, outside, inner, formula_at}
use Rattle.formula.proofs.Bytes.{byte_out}

-- every place that reading from `at` gives lies at `at` or after it
data After {X : Type 0} (at : ℕ) : Got X → Type 0 where
  on : {x : X} {to : ℕ} → at < to → After at (ok x to)
  off : {to : ℕ} → at ≤ to → After at (bad to)
  too : {to : ℕ} → After at (deep to)

earlier : {X : Type 0} {at to : ℕ} {g : Got X} → at ≤ to → After to g → After at g
earlier l (on {to = u} h) = on {to = u} (omega arith)
earlier l (off {to = u} h) = off {to = u} (omega arith)
earlier l too = too

after_if : {X : Type 0} {at : ℕ} (b : Bool) {p q : Got X} → After at p → After at q → After at (cond b p q)
after_if true x y = x
after_if false x y = y

after_map : {X Y : Type 0} (h : X → Y) {at : ℕ} {g : Got X} → After at g → After at (map_got h g)
after_map h (on l) = on l
after_map h (off l) = off l
after_map h too = too

module _ (text : List ℕ) where
  after_chain : {X : Type 0} (f g : X → X → X) (b c : ℕ) (item : ℕ → Got X) → ((at : ℕ) → After at (item at))
      → (n : ℕ) (o a : Held X) (at : ℕ) → After at (chain text f g b c item n o a at)
  unfolding chain
  after_chain f g b c item fw zero o a at = off {to = at} (omega arith)
  after_chain {X} f g b c item fw (suc n) o a at = go (item at) (fw at) (after_chain f g b c item fw n)
    where
      go : (r : Got X) → After at r → ((o a : Held X) (at : ℕ) → After at (chain text f g b c item n o a at)) → After at (chained text f g b c (chain text f g b c item n) o a r)
      go (ok x to) (on l) rec =
          after_if (eqb (byte text to) b) (earlier {to = to + 1} (omega arith) (rec o (held (joined f a x)) (to + 1)))
          (after_if (eqb (byte text to) c) (earlier {to = to + 1} (omega arith) (rec (held (joined g o (joined f a x))) nothing (to + 1))) (on l))
      go (bad to) (off l) rec = off l
      go (deep to) too rec = too

  after_closed : {X : Type 0} (b : ℕ) {at : ℕ} {g : Got X} → After at g → After at (closed text b g)
  unfolding closed
  after_closed b {at} (on {x} {to} l) = after_if (eqb (byte text to) b) (on (omega arith)) (off (omega arith))
  after_closed b (off l) = off l
  after_closed b too = too

  after_fact : (at : ℕ) → After at (fact_at text at)
  unfolding fact_at
  after_fact at = after_if (is_digit (byte text at)) (after_if (is_pair (byte text at) (byte text (at + 1))) (on (omega arith)) (on (omega arith))) (off (omega arith))

  after_true : (at : ℕ) → After at (true_at text at)
  unfolding true_at
  after_true at =
      after_if (eqb (byte text at) 114)
      (after_if (eqb (byte text (at + 1)) 117) (after_if (eqb (byte text (at + 2)) 101) (on (omega arith)) (off (omega arith))) (off (omega arith)))
      (off (omega arith))

  after_stepped : {at : ℕ} {g : Got Formula} → After at g → After at (stepped text g)
  unfolding stepped
  after_stepped {at} (on {x} {to} l) = after_if (eqb (byte text to) sign_back) (on (omega arith)) (after_if (eqb (byte text to) sign_test) (on (omega arith)) (on l))
  after_stepped (off l) = off l
  after_stepped too = too

  after_stars : (n : ℕ) (p : Path) (at s : ℕ) → s < at → After s (starred_from text n p at)
  unfolding starred_from
  after_stars zero p at s l = on l
  after_stars (suc n) p at s l = after_if (eqb (byte text at) sign_star) (after_stars n (many p) (at + 1) s (omega arith)) (on l)

  after_starred : {at : ℕ} {g : Got Path} → After at g → After at (starred text g)
  after_starred {at} (on {x} {to} l) = after_stars (length text) x to at l
  after_starred (off l) = off l
  after_starred too = too

  abbrev Inward : Inner → Type 0
  Inward I = ((at : ℕ) → After at (I.formula at)) × ((at : ℕ) → After at (I.path at))

  module _ (I : Inner) (fw : Inward I) where
    after_formula : (b at : ℕ) → After at (closed text b (I.formula (at + 1)))
    after_formula b at = after_closed b (earlier {to = at + 1} (omega arith) (fw.0 (at + 1)))

    after_path : (b at : ℕ) → After at (closed text b (I.path (at + 1)))
    after_path b at = after_closed b (earlier {to = at + 1} (omega arith) (fw.1 (at + 1)))

    after_atom : (at : ℕ) → After at (atom_at text I at)
    unfolding atom_at
    after_atom at =
        after_if (eqb (byte text at) 116) (earlier {to = at + 1} (omega arith) (after_true (at + 1)))
        (after_if (eqb (byte text at) sign_fact) (earlier {to = at + 1} (omega arith) (after_fact (at + 1)))
        (after_if (eqb (byte text at) round_open) (after_formula round_close at) (off (omega arith))))

    after_prefix : (at : ℕ) → After at (prefix_at text I at)
    unfolding prefix_at
    after_prefix at = after_if (eqb (byte text at) sign_not) (on (omega arith)) (after_if (eqb (byte text at) angle_open) (after_map angle (after_path angle_close at)) (after_map square (after_path square_close at)))

    after_operand_from : (n : ℕ) (ps : List Prefix) (at : ℕ) → After at (operand_from text I n ps at)
    unfolding operand_from
    after_operand_from zero ps at = off {to = at} (omega arith)
    after_operand_from (suc n) ps at = after_if (is_prefix (byte text at)) (go (prefix_at text I at) (after_prefix at) (after_operand_from n)) (after_map (wrap ps) (after_atom at))
      where
        go : (g : Got Prefix) → After at g → ((ps : List Prefix) (at : ℕ) → After at (operand_from text I n ps at)) → After at (prefixed (operand_from text I n) ps g)
        go (ok p to) (on l) rec = earlier {to = to} (omega arith) (rec (p ∷ ps) to)
        go (bad to) (off l) rec = off l
        go (deep to) too rec = too

    after_operand : (at : ℕ) → After at (operand_at text I at)
    after_operand at = after_operand_from (suc (length text)) [] at

    after_piece : (at : ℕ) → After at (piece_at text I at)
    unfolding piece_at
    after_piece at = after_if (eqb (byte text at) curly_open) (after_stepped (after_formula curly_close at)) (after_if (eqb (byte text at) round_open) (after_path round_close at) (off (omega arith)))

    after_starred_at : (at : ℕ) → After at (starred_at text I at)
    after_starred_at at = after_starred (after_piece at)

    after_outside : Inward (outside text I)
    after_outside = (
      λ at. after_chain both either sign_and sign_or (operand_at text I) after_operand (suc (length text)) nothing nothing at,
      λ at. after_chain seq alt sign_seq sign_alt (starred_at text I) after_starred_at (suc (length text)) nothing nothing at,
    )

  inward : (d : ℕ) → Inward (inner text d)
  unfolding inner
  inward zero = (λ at. too, λ at. too)
  inward (suc d) = after_outside (inner text d) (inward d)

-- g' is g, or g says nothing of places through x
pub data Near {X : Type 0} (x : ℕ) : Got X → Got X → Type 0 where
  same : {g : Got X} → Near x g g
  far_ok : {v : X} {to : ℕ} {g : Got X} → x < to → Near x (ok v to) g
  far_bad : {to : ℕ} {g : Got X} → x < to → Near x (bad to) g
  unknown : {to : ℕ} {g : Got X} → Near x (deep to) g

far : {X : Type 0} (x at : ℕ) (g g' : Got X) → x < at → After at g → Near x g g'
far x at (ok v to) g' l (on h) = far_ok {to = to} (omega arith)
far x at (bad to) g' l (off h) = far_bad {to = to} (omega arith)
far x at (deep to) g' l too = unknown

near_bool : {X : Type 0} (x : ℕ) (c c' : Bool) {p q p' q' : Got X} → c ≡ c' → Near x p p' → Near x q q' → Near x (cond c p q) (cond c' p' q')
near_bool {X} x c c' {p} {q} {p'} {q'} e y z = subst (λ (w : Bool). Near x (cond c p q) (cond w p' q')) e (go c)
  where
    go : (c : Bool) → Near x (cond c p q) (cond c p' q')
    go true = y
    go false = z

-- one side alone
near_pick : {X : Type 0} (x : ℕ) (c : Bool) {p q g : Got X} → Near x p g → Near x q g → Near x (cond c p q) g
near_pick x true y z = y
near_pick x false y z = z

near_map : {X Y : Type 0} (h : X → Y) (x : ℕ) (g g' : Got X) → Near x g g' → Near x (map_got h g) (map_got h g')
near_map h x g g' same = same
near_map h x g g' (far_ok l) = far_ok l
near_map h x g g' (far_bad l) = far_bad l
near_map h x g g' unknown = unknown

module _ (text text' : List ℕ) (x : ℕ) (agree : (y : ℕ) → y ≤ x → byte text y ≡ byte text' y) (in₁ : x ≤ length text) (in₂ : x ≤ length text') where
  near_if : {X : Type 0} (at b : ℕ) {p q p' q' : Got X} → at ≤ x → Near x p p' → Near x q q' → Near x (cond (eqb (byte text at) b) p q) (cond (eqb (byte text' at) b) p' q')
  near_if at b l y z = near_bool x (eqb (byte text at) b) (eqb (byte text' at) b) (ap (λ (w : ℕ). eqb w b) (agree at l)) y z

  near_closed : {X : Type 0} (b : ℕ) (g g' : Got X) → Near x g g' → Near x (closed text b g) (closed text' b g')
  unfolding closed
  near_closed {X} b g g' (same {g = ok v to}) = cases (split to x)
    where
      cases : (to ≤ x) ⊎ (x < to) → Near x (closed text b (ok v to)) (closed text' b (ok v to))
      cases (inl l) = near_if to b l same same
      cases (inr l) = near_pick x (eqb (byte text to) b) (far_ok {to = to + 1} (omega arith)) (far_bad l)
  near_closed b g g' (same {g = bad to}) = same
  near_closed b g g' (same {g = deep to}) = same
  near_closed b g g' (far_ok {v} {to} l) = near_pick x (eqb (byte text to) b) (far_ok {to = to + 1} (omega arith)) (far_bad l)
  near_closed b g g' (far_bad l) = far_bad l
  near_closed b g g' unknown = unknown

  near_fact : (at : ℕ) → Near x (fact_at text at) (fact_at text' at)
  unfolding fact_at
  near_fact at = cases (split at x) (split (at + 1) x)
    where
      cases : (at ≤ x) ⊎ (x < at) → (at + 1 ≤ x) ⊎ (x < at + 1) → Near x (fact_at text at) (fact_at text' at)
      cases (inl l) (inl m) = rw (agree at l, agree (at + 1) m) same
      cases (inl l) (inr m) =
          near_bool x (is_digit (byte text at)) (is_digit (byte text' at)) (ap is_digit (agree at l))
          (near_pick x (is_pair (byte text at) (byte text (at + 1))) (far_ok {to = at + 2} (omega arith)) (far_ok {to = at + 1} m)) same
      cases (inr l) m = far x at _ _ l (after_fact text at)

  near_true : (at : ℕ) → Near x (true_at text at) (true_at text' at)
  unfolding true_at
  near_true at = cases (split at x) (split (at + 1) x) (split (at + 2) x)
    where
      cases : (at ≤ x) ⊎ (x < at) → (at + 1 ≤ x) ⊎ (x < at + 1) → (at + 2 ≤ x) ⊎ (x < at + 2) → Near x (true_at text at) (true_at text' at)
      cases (inl l) (inl m) (inl n) = near_if at 114 l (near_if (at + 1) 117 m (near_if (at + 2) 101 n same same) same) same
      cases (inl l) (inl m) (inr n) =
          near_if at 114 l (near_if (at + 1) 117 m (near_pick x (eqb (byte text (at + 2)) 101) (far_ok {to = at + 3} (omega arith)) (far_bad n)) same) same
      cases (inl l) (inr m) n =
          near_if at 114 l
          (near_pick x (eqb (byte text (at + 1)) 117) (near_pick x (eqb (byte text (at + 2)) 101) (far_ok {to = at + 3} (omega arith)) (far_bad {to = at + 2} (omega arith))) (far_bad m))
          same
      cases (inr l) m n = far x at _ _ l (after_true text at)

  far_stepped : (a : Formula) (to : ℕ) (g : Got Path) → x < to → Near x (stepped text (ok a to)) g
  unfolding stepped
  far_stepped a to g l = near_pick x (eqb (byte text to) sign_back) (far_ok {to = to + 1} (omega arith)) (near_pick x (eqb (byte text to) sign_test) (far_ok {to = to + 1} (omega arith)) (far_ok l))

  near_stepped : (g g' : Got Formula) → Near x g g' → Near x (stepped text g) (stepped text' g')
  unfolding stepped
  near_stepped g g' (same {g = ok a to}) = cases (split to x)
    where
      cases : (to ≤ x) ⊎ (x < to) → Near x (stepped text (ok a to)) (stepped text' (ok a to))
      cases (inl l) = near_if to sign_back l same (near_if to sign_test l same same)
      cases (inr l) = far_stepped a to _ l
  near_stepped g g' (same {g = bad to}) = same
  near_stepped g g' (same {g = deep to}) = same
  near_stepped g g' (far_ok {v} {to} l) = far_stepped v to _ l
  near_stepped g g' (far_bad l) = far_bad l
  near_stepped g g' unknown = unknown

  far_stars : (n : ℕ) (p : Path) (at : ℕ) (g : Got Path) → x < at → Near x (starred_from text n p at) g
  unfolding starred_from
  far_stars zero p at g l = far_ok l
  far_stars (suc n) p at g l = near_pick x (eqb (byte text at) sign_star) (far_stars n (many p) (at + 1) g (omega arith)) (far_ok l)

  -- where one of the texts ends no star stands
  no_star : (t : List ℕ) (n : ℕ) (p : Path) (at : ℕ) → byte t at ≡ 256 → starred_from t n p at ≡ ok p at
  unfolding starred_from
  no_star t zero p at e = refl
  no_star t (suc n) p at e = rw (ne_eqb (byte t at) sign_star (λ q. omega arith)) refl

  near_stars : (n n' : ℕ) (p : Path) (at : ℕ) → length text ≤ at + n → length text' ≤ at + n' → Near x (starred_from text n p at) (starred_from text' n' p at)
  unfolding starred_from
  near_stars zero n' p at l l' = cases (split at x)
    where
      cases : (at ≤ x) ⊎ (x < at) → Near x (starred_from text 0 p at) (starred_from text' n' p at)
      cases (inl m) =
          let e = byte_out text at (omega arith) in
          rw (no_star text 0 p at e, no_star text' n' p at (sym (agree at m) ∙ e)) same
      cases (inr m) = far_stars 0 p at _ m
  near_stars (suc n) zero p at l l' = cases (split at x)
    where
      cases : (at ≤ x) ⊎ (x < at) → Near x (starred_from text (suc n) p at) (starred_from text' 0 p at)
      cases (inl m) =
          let e = byte_out text' at (omega arith) in
          rw (no_star text (suc n) p at (agree at m ∙ e), no_star text' 0 p at e) same
      cases (inr m) = far_stars (suc n) p at _ m
  near_stars (suc n) (suc n') p at l l' = cases (split at x) (near_stars n n' (many p) (at + 1) (omega arith) (omega arith))
    where
      cases : (at ≤ x) ⊎ (x < at) → Near x (starred_from text n (many p) (at + 1)) (starred_from text' n' (many p) (at + 1)) → Near x (starred_from text (suc n) p at) (starred_from text' (suc n') p at)
      cases (inl m) rec = near_if at sign_star m rec same
      cases (inr m) rec = far_stars (suc n) p at _ m

  near_starred : (g g' : Got Path) → Near x g g' → Near x (starred text g) (starred text' g')
  near_starred g g' (same {g = ok p to}) = near_stars (length text) (length text') p to (omega arith) (omega arith)
  near_starred g g' (same {g = bad to}) = same
  near_starred g g' (same {g = deep to}) = same
  near_starred g g' (far_ok {v} {to} l) = far_stars (length text) v to _ l
  near_starred g g' (far_bad l) = far_bad l
  near_starred g g' unknown = unknown

  module _ {X : Type 0} (f g : X → X → X) (b c : ℕ) (item item' : ℕ → Got X) (near : (at : ℕ) → Near x (item at) (item' at)) (after : (at : ℕ) → After at (item at)) where
    abbrev ahead : ℕ → Held X → Held X → ℕ → Got X
    ahead n o a at = chain text f g b c item n o a at

    abbrev ahead' : ℕ → Held X → Held X → ℕ → Got X
    ahead' n o a at = chain text' f g b c item' n o a at

    far_step : (n : ℕ) (o a : Held X) (v : X) (to : ℕ) (r : Got X) → x < to → Near x (chained text f g b c (ahead n) o a (ok v to)) r
    far_step n o a v to r l =
        near_pick x (eqb (byte text to) b) (far x (to + 1) _ r (omega arith) (after_chain text f g b c item after n o (held (joined f a v)) (to + 1)))
        (near_pick x (eqb (byte text to) c) (far x (to + 1) _ r (omega arith) (after_chain text f g b c item after n (held (joined g o (joined f a v))) nothing (to + 1))) (far_ok l))

    abbrev ChainNear : ℕ → Type 0
    ChainNear n = (n' : ℕ) (o a : Held X) (at : ℕ) → length text < at + n → length text' < at + n' → Near x (ahead n o a at) (ahead' n' o a at)

    near_step : (n n' : ℕ) → ChainNear n → (o a : Held X) (at : ℕ) → length text < at + suc n → length text' < at + suc n' → (r r' : Got X) → Near x r r' → After at r
        → Near x (chained text f g b c (ahead n) o a r) (chained text' f g b c (ahead' n') o a r')
    near_step n n' rec o a at l l' r r' (same {g = ok v to}) (on h) = cases (split to x)
      where
        cases : (to ≤ x) ⊎ (x < to) → Near x (chained text f g b c (ahead n) o a (ok v to)) (chained text' f g b c (ahead' n') o a (ok v to))
        cases (inl m) =
            near_if to b m (rec n' o (held (joined f a v)) (to + 1) (omega arith) (omega arith))
            (near_if to c m (rec n' (held (joined g o (joined f a v))) nothing (to + 1) (omega arith) (omega arith)) same)
        cases (inr m) = far_step n o a v to _ m
    near_step n n' rec o a at l l' r r' (same {g = bad to}) h = same
    near_step n n' rec o a at l l' r r' (same {g = deep to}) h = same
    near_step n n' rec o a at l l' r r' (far_ok {v} {to} m) h = far_step n o a v to _ m
    near_step n n' rec o a at l l' r r' (far_bad m) h = far_bad m
    near_step n n' rec o a at l l' r r' unknown h = unknown

    near_chain : (n : ℕ) → ChainNear n
    unfolding chain
    near_chain zero n' o a at l l' = far_bad {to = at} (omega arith)
    near_chain (suc n) zero o a at l l' = far x at _ _ (omega arith) (after_chain text f g b c item after (suc n) o a at)
    near_chain (suc n) (suc n') o a at l l' = near_step n n' (near_chain n) o a at l l' (item at) (item' at) (near at) (after at)

  abbrev Nears : Inner → Inner → Type 0
  Nears I I' = ((at : ℕ) → Near x (I.formula at) (I'.formula at)) × ((at : ℕ) → Near x (I.path at) (I'.path at))

  module _ (I I' : Inner) (ne : Nears I I') (fw : Inward text I) where
    near_atom : (at : ℕ) → Near x (atom_at text I at) (atom_at text' I' at)
    unfolding atom_at
    near_atom at = cases (split at x)
      where
        cases : (at ≤ x) ⊎ (x < at) → Near x (atom_at text I at) (atom_at text' I' at)
        cases (inl l) = near_if at 116 l (near_true (at + 1)) (near_if at sign_fact l (near_fact (at + 1)) (near_if at round_open l (near_closed round_close _ _ (ne.0 (at + 1))) same))
        cases (inr l) = far x at _ _ l (after_atom text I fw at)

    near_prefix : (at : ℕ) → at ≤ x → Near x (prefix_at text I at) (prefix_at text' I' at)
    unfolding prefix_at
    near_prefix at l =
        near_if at sign_not l same (near_if at angle_open l (near_map angle x _ _ (near_closed angle_close _ _ (ne.1 (at + 1)))) (near_map square x _ _ (near_closed square_close _ _ (ne.1 (at + 1)))))

    abbrev OperandNear : ℕ → Type 0
    OperandNear n = (n' : ℕ) (ps : List Prefix) (at : ℕ) → length text < at + n → length text' < at + n' → Near x (operand_from text I n ps at) (operand_from text' I' n' ps at)

    near_prefixed : (n n' : ℕ) → OperandNear n → (ps : List Prefix) (at : ℕ) → length text < at + suc n → length text' < at + suc n' → (g g' : Got Prefix) → Near x g g' → After at g
        → Near x (prefixed (operand_from text I n) ps g) (prefixed (operand_from text' I' n') ps g')
    near_prefixed n n' rec ps at l l' g g' (same {g = ok p to}) (on h) = rec n' (p ∷ ps) to (omega arith) (omega arith)
    near_prefixed n n' rec ps at l l' g g' (same {g = bad to}) h = same
    near_prefixed n n' rec ps at l l' g g' (same {g = deep to}) h = same
    near_prefixed n n' rec ps at l l' g g' (far_ok {v} {to} m) h = far x to _ _ m (after_operand_from text I fw n (v ∷ ps) to)
    near_prefixed n n' rec ps at l l' g g' (far_bad m) h = far_bad m
    near_prefixed n n' rec ps at l l' g g' unknown h = unknown

    near_operand_from : (n : ℕ) → OperandNear n
    unfolding operand_from
    near_operand_from zero n' ps at l l' = far_bad {to = at} (omega arith)
    near_operand_from (suc n) zero ps at l l' = far x at _ _ (omega arith) (after_operand_from text I fw (suc n) ps at)
    near_operand_from (suc n) (suc n') ps at l l' = cases (split at x) (near_operand_from n)
      where
        cases : (at ≤ x) ⊎ (x < at) → OperandNear n → Near x (operand_from text I (suc n) ps at) (operand_from text' I' (suc n') ps at)
        cases (inl m) rec =
            near_bool x (is_prefix (byte text at)) (is_prefix (byte text' at)) (ap is_prefix (agree at m))
            (near_prefixed n n' rec ps at l l' (prefix_at text I at) (prefix_at text' I' at) (near_prefix at m) (after_prefix text I fw at))
            (near_map (wrap ps) x _ _ (near_atom at))
        cases (inr m) rec = far x at _ _ m (after_operand_from text I fw (suc n) ps at)

    near_operand : (at : ℕ) → Near x (operand_at text I at) (operand_at text' I' at)
    near_operand at = near_operand_from (suc (length text)) (suc (length text')) [] at (omega arith) (omega arith)

    near_piece : (at : ℕ) → Near x (piece_at text I at) (piece_at text' I' at)
    unfolding piece_at
    near_piece at = cases (split at x)
      where
        cases : (at ≤ x) ⊎ (x < at) → Near x (piece_at text I at) (piece_at text' I' at)
        cases (inl l) = near_if at curly_open l (near_stepped _ _ (near_closed curly_close _ _ (ne.0 (at + 1)))) (near_if at round_open l (near_closed round_close _ _ (ne.1 (at + 1))) same)
        cases (inr l) = far x at _ _ l (after_piece text I fw at)

    near_outside : Nears (outside text I) (outside text' I')
    near_outside = (
      λ at. near_chain both either sign_and sign_or (operand_at text I) (operand_at text' I') near_operand (after_operand text I fw) (suc (length text)) (suc (length text')) nothing nothing at (omega arith) (omega arith),
      λ at. near_chain seq alt sign_seq sign_alt (starred_at text I) (starred_at text' I') (λ z. near_starred (piece_at text I z) (piece_at text' I' z) (near_piece z)) (after_starred_at text I fw) (suc (length text)) (suc (length text')) nothing nothing at (omega arith) (omega arith),
    )

  near_inner : (d d' : ℕ) → d ≤ d' → Nears (inner text d) (inner text' d')
  unfolding inner
  near_inner zero d' l = (λ at. unknown, λ at. unknown)
  near_inner (suc d) zero l = absurd (omega arith)
  near_inner (suc d) (suc d') l = near_outside (inner text d) (inner text' d') (near_inner d d' (omega arith)) (inward text d)

  -- what is read from the start, as far as x
  pub near_formula : (d d' : ℕ) → d ≤ d' → Near x (formula_at text d 0) (formula_at text' d' 0)
  near_formula d d' l = (near_outside (inner text d) (inner text' d') (near_inner d d' l) (inward text d)).0 0
