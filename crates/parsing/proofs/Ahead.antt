-- Reading goes on: what is read ends behind the place where it began, and every place named is at most the text's length.
use Prim.Native.Nat.{ℕ, zero, suc, ◌+◌, ◌≤◌, ◌<◌}
use mathlib.Core.Path.{◌≡◌, refl, ap, sym, ◌∙◌}
use mathlib.Core.List.{List, [], ◌∷◌}
use mathlib.Core.Bool.{Bool, true, false, cond}
use native.Mathlib.Omega.{arith}
use lib.ListN.{length}
use lib.Dec.{eqb}
use borrow.Author.Tests.{eqb-true}
use Rattle.text.specs.Text.{is_digit}
use Rattle.formula.specs.Formula.{Formula, Path, both, either, seq, alt, many}
use Rattle.formula.specs.Parse.{Got, ok, bad, deep, Inner, Held, nothing, held, joined, Prefix, angle, square, wrap, map_got, is_pair, is_prefix, prefixed, byte, closed, chained, chain, true_at, fact_at, stepped, starred_from, starred, atom_at, prefix_at, operand_from, operand_at, piece_at, starred_at, inner}
use Rattle.parsing.specs.Work.{Work}
use Rattle.parsing.specs.Build.{Seen, got_of}
use Rattle.formula.proofs.Bytes.{byte_there}
use Rattle.parsing.proofs.Laws.{digit_range, pair_range}
use Rattle.parsing.proofs.Chain.{Read, is, read_ok}

module _ (text : List ℕ) where
  pub data Ahead {X : Type 0} (at : ℕ) : Got X → Type 0 where
    on : {x : X} {to : ℕ} → at < to → (at ≤ length text → to ≤ length text) → Ahead at (ok x to)
    off : {to : ℕ} → (at ≤ length text → to ≤ length text) → Ahead at (bad to)
    too : {to : ℕ} → (at ≤ length text → to ≤ length text) → Ahead at (deep to)

  earlier : {X : Type 0} {at to : ℕ} {g : Got X} → at ≤ to → (at ≤ length text → to ≤ length text) → Ahead to g → Ahead at g
  earlier l b (on {to = u} h k) = on {to = u} (omega arith) (λ z. k (b z))
  earlier l b (off k) = off (λ z. k (b z))
  earlier l b (too k) = too (λ z. k (b z))

  either_way : {X : Type 0} {at : ℕ} (b : Bool) {p q : Got X} → (b ≡ true → Ahead at p) → Ahead at q → Ahead at (cond b p q)
  either_way true x y = x refl
  either_way false x y = y

  -- a byte that stands there
  next : (at v : ℕ) → v < 256 → eqb (byte text at) v ≡ true → at + 1 ≤ length text
  next at v l e = let h = byte_there text at v (eqb-true (byte text at) v e) l in omega arith

  ahead_map : {X Y : Type 0} (f : X → Y) {at : ℕ} {g : Got X} → Ahead at g → Ahead at (map_got f g)
  ahead_map f (on l k) = on l k
  ahead_map f (off k) = off k
  ahead_map f (too k) = too k

  ahead_closed : {X : Type 0} (b : ℕ) → b < 256 → {at : ℕ} {g : Got X} → Ahead at g → Ahead at (closed text b g)
  unfolding closed
  ahead_closed b l {at} (on {x} {to} h k) = either_way (eqb (byte text to) b) (λ e. on (omega arith) (λ z. next to b l e)) (off k)
  ahead_closed b l (off k) = off k
  ahead_closed b l (too k) = too k

  ahead_chain : {X : Type 0} (f g : X → X → X) (b c : ℕ) → b < 256 → c < 256 → (item : ℕ → Got X) → ((at : ℕ) → Ahead at (item at))
      → (n : ℕ) (o a : Held X) (at : ℕ) → Ahead at (chain text f g b c item n o a at)
  unfolding chain
  ahead_chain f g b c lb lc item fw zero o a at = off (λ z. z)
  ahead_chain {X} f g b c lb lc item fw (suc n) o a at = go (item at) (fw at) (ahead_chain f g b c lb lc item fw n)
    where
      go : (q : Got X) → Ahead at q → ((o a : Held X) (at : ℕ) → Ahead at (chain text f g b c item n o a at)) → Ahead at (chained text f g b c (chain text f g b c item n) o a q)
      go (ok x to) (on l k) rec =
          either_way (eqb (byte text to) b) (λ e. earlier {to = to + 1} (omega arith) (λ z. next to b lb e) (rec o (held (joined f a x)) (to + 1)))
          (either_way (eqb (byte text to) c) (λ e. earlier {to = to + 1} (omega arith) (λ z. next to c lc e) (rec (held (joined g o (joined f a x))) nothing (to + 1))) (on l k))
      go (bad to) (off k) rec = off k
      go (deep to) (too k) rec = too k

  ahead_true : (at : ℕ) → Ahead at (true_at text at)
  unfolding true_at
  ahead_true at =
      either_way (eqb (byte text at) 114)
      (λ e. either_way (eqb (byte text (at + 1)) 117)
      (λ f. either_way (eqb (byte text (at + 2)) 101) (λ g. on (omega arith) (λ z. let h = next (at + 2) 101 (omega arith) g in omega arith)) (off (λ z. let h = next (at + 1) 117 (omega arith) f in omega arith)))
      (off (λ z. next at 114 (omega arith) e)))
      (off (λ z. z))

  ahead_fact : (at : ℕ) → Ahead at (fact_at text at)
  unfolding fact_at
  ahead_fact at =
      either_way (is_digit (byte text at))
      (λ e. either_way (is_pair (byte text at) (byte text (at + 1)))
      (λ f. on (omega arith) (λ z. let p = pair_range (byte text at) (byte text (at + 1)) f in let h = byte_there text (at + 1) (byte text (at + 1)) refl (omega (arith, p.high₂)) in omega arith))
      (on (omega arith) (λ z. let p = digit_range (byte text at) e in let h = byte_there text at (byte text at) refl (omega (arith, p.high)) in omega arith)))
      (off (λ z. z))

  ahead_stepped : {at : ℕ} {g : Got Formula} → Ahead at g → Ahead at (stepped text g)
  unfolding stepped
  ahead_stepped {at} (on {x} {to} l k) =
      either_way (eqb (byte text to) 45) (λ e. on (omega arith) (λ z. next to 45 (omega arith) e))
      (either_way (eqb (byte text to) 63) (λ e. on (omega arith) (λ z. next to 63 (omega arith) e)) (on l k))
  ahead_stepped (off k) = off k
  ahead_stepped (too k) = too k

  ahead_stars : (n : ℕ) (p : Path) (from at : ℕ) → from < at → (from ≤ length text → at ≤ length text) → Ahead from (starred_from text n p at)
  unfolding starred_from
  ahead_stars zero p from at l k = on l k
  ahead_stars (suc n) p from at l k = either_way (eqb (byte text at) 42) (λ e. ahead_stars n (many p) from (at + 1) (omega arith) (λ z. next at 42 (omega arith) e)) (on l k)

  ahead_starred : {at : ℕ} {g : Got Path} → Ahead at g → Ahead at (starred text g)
  ahead_starred {at} (on {x} {to} l k) = ahead_stars (length text) x at to l k
  ahead_starred (off k) = off k
  ahead_starred (too k) = too k

  abbrev Inward : Inner → Type 0
  Inward I = ((at : ℕ) → Ahead at (I.formula at)) × ((at : ℕ) → Ahead at (I.path at))

  module _ (I : Inner) (fw : Inward I) where
    behind : {X : Type 0} (at v : ℕ) {g : Got X} → v < 256 → eqb (byte text at) v ≡ true → Ahead (at + 1) g → Ahead at g
    behind at v l e a = earlier {to = at + 1} (omega arith) (λ z. next at v l e) a

    ahead_atom : (at : ℕ) → Ahead at (atom_at text I at)
    unfolding atom_at
    ahead_atom at =
        either_way (eqb (byte text at) 116) (λ e. behind at 116 (omega arith) e (ahead_true (at + 1)))
        (either_way (eqb (byte text at) 102) (λ e. behind at 102 (omega arith) e (ahead_fact (at + 1)))
        (either_way (eqb (byte text at) 40) (λ e. behind at 40 (omega arith) e (ahead_closed 41 (omega arith) (fw.0 (at + 1)))) (off (λ z. z))))

    ahead_piece : (at : ℕ) → Ahead at (piece_at text I at)
    unfolding piece_at
    ahead_piece at =
        either_way (eqb (byte text at) 123) (λ e. behind at 123 (omega arith) e (ahead_stepped (ahead_closed 125 (omega arith) (fw.0 (at + 1)))))
        (either_way (eqb (byte text at) 40) (λ e. behind at 40 (omega arith) e (ahead_closed 41 (omega arith) (fw.1 (at + 1)))) (off (λ z. z)))

    prefix_there : (at : ℕ) → is_prefix (byte text at) ≡ true → at + 1 ≤ length text
    prefix_there at e = go (eqb (byte text at) 33) (eqb (byte text at) 60) (eqb (byte text at) 91) refl refl refl e
      where
        go : (x y z : Bool) → eqb (byte text at) 33 ≡ x → eqb (byte text at) 60 ≡ y → eqb (byte text at) 91 ≡ z → mathlib.Core.Bool.◌||◌ x (mathlib.Core.Bool.◌||◌ y z) ≡ true → at + 1 ≤ length text
        go true y z a b c e = next at 33 (omega arith) a
        go false true z a b c e = next at 60 (omega arith) b
        go false false true a b c e = next at 91 (omega arith) c
        go false false false a b c e = absurd (let z : ◌≡◌ {A = ℕ} 0 1 = cc in omega arith)

    ahead_prefix : (at : ℕ) → is_prefix (byte text at) ≡ true → Ahead at (prefix_at text I at)
    unfolding prefix_at
    ahead_prefix at e =
        let there = prefix_there at e in
        either_way (eqb (byte text at) 33) (λ f. on (omega arith) (λ z. there))
        (either_way (eqb (byte text at) 60) (λ f. earlier {to = at + 1} (omega arith) (λ z. there) (ahead_map angle (ahead_closed 62 (omega arith) (fw.1 (at + 1)))))
        (earlier {to = at + 1} (omega arith) (λ z. there) (ahead_map square (ahead_closed 93 (omega arith) (fw.1 (at + 1))))))

    ahead_operand : (n : ℕ) (ps : List Prefix) (at : ℕ) → Ahead at (operand_from text I n ps at)
    unfolding operand_from
    ahead_operand zero ps at = off (λ z. z)
    ahead_operand (suc n) ps at = either_way (is_prefix (byte text at)) (λ e. go (prefix_at text I at) (ahead_prefix at e) (ahead_operand n)) (ahead_map (wrap ps) (ahead_atom at))
      where
        go : (q : Got Prefix) → Ahead at q → ((ps : List Prefix) (at : ℕ) → Ahead at (operand_from text I n ps at)) → Ahead at (prefixed (operand_from text I n) ps q)
        go (ok p to) (on l k) rec = earlier {to = to} (omega arith) k (rec (p ∷ ps) to)
        go (bad to) (off k) rec = off k
        go (deep to) (too k) rec = too k

  inward : (d : ℕ) → Inward (inner text d)
  unfolding inner
  inward zero = (λ at. too (λ z. z), λ at. too (λ z. z))
  inward (suc d) = (
    λ at. ahead_chain both either 38 124 (omega arith) (omega arith) _ (λ at. ahead_operand (inner text d) (inward d) (suc (length text)) [] at) (suc (length text)) nothing nothing at,
    λ at. ahead_chain seq alt 59 43 (omega arith) (omega arith) _ (λ at. ahead_starred (ahead_piece (inner text d) (inward d) at)) (suc (length text)) nothing nothing at,
  )

  read_ahead : {X : Type 0} (mk : X → Work) {at : ℕ} (p : Seen) (g : Got X) → Ahead at g → Read mk p g → at < p.at
  read_ahead mk p g (on l k) (is h) = l
  read_ahead mk p _ (off k) h = elim h [ ]
  read_ahead mk p _ (too k) h = elim h [ ]

  pub operand_on : (d : ℕ) (mk : Formula → Work) (at : ℕ) (p : Seen) → got_of p ≡ map_got mk (operand_at text (inner text d) at) → p.number ≡ 0 → at < p.at
  operand_on d mk at p e z = read_ahead mk p (operand_at text (inner text d) at) (ahead_operand (inner text d) (inward d) (suc (length text)) [] at) (read_ok mk p (operand_at text (inner text d) at) e z)

  pub starred_on : (d : ℕ) (mk : Path → Work) (at : ℕ) (p : Seen) → got_of p ≡ map_got mk (starred_at text (inner text d) at) → p.number ≡ 0 → at < p.at
  starred_on d mk at p e z = read_ahead mk p (starred_at text (inner text d) at) (ahead_starred (ahead_piece (inner text d) (inward d) at)) (read_ok mk p (starred_at text (inner text d) at) e z)

  pub prefix_on : (d : ℕ) (mk : Prefix → Work) (at : ℕ) (p : Seen) → is_prefix (byte text at) ≡ true → got_of p ≡ map_got mk (prefix_at text (inner text d) at) → p.number ≡ 0 → at < p.at
  prefix_on d mk at p t e z = read_ahead mk p (prefix_at text (inner text d) at) (ahead_prefix (inner text d) (inward d) at t) (read_ok mk p (prefix_at text (inner text d) at) e z)

  pub prefix_stands : (at : ℕ) → is_prefix (byte text at) ≡ true → at < length text
  prefix_stands at e = let h = prefix_there (inner text 0) (inward 0) at e in omega arith

  pub formula_within : (d at : ℕ) → Ahead at ((inner text d).formula at)
  formula_within d at = (inward d).0 at

  abbrev place_of : {X : Type 0} → Got X → ℕ
  place_of (ok x to) = to
  place_of (bad to) = to
  place_of (deep to) = to

  place_map : {X Y : Type 0} (f : X → Y) (g : Got X) → place_of (map_got f g) ≡ place_of g
  place_map f (ok x to) = refl
  place_map f (bad to) = refl
  place_map f (deep to) = refl

  place_got : (p : Seen) → place_of (got_of p) ≡ p.at
  unfolding got_of
  place_got p = go (eqb p.number 0) (eqb p.number 51)
    where
      go : (x y : Bool) → place_of (cond {A = Got Work} x (ok p.work p.at) (cond y (bad p.at) (deep p.at))) ≡ p.at
      go true y = refl
      go false true = refl
      go false false = refl

  place_within : {X : Type 0} {at : ℕ} {g : Got X} → Ahead at g → at ≤ length text → place_of g ≤ length text
  place_within (on l k) h = k h
  place_within (off k) h = k h
  place_within (too k) h = k h

  pub formula_place : (d : ℕ) (mk : Formula → Work) (p : Seen) → got_of p ≡ map_got mk ((inner text d).formula 0) → p.at ≤ length text
  formula_place d mk p e =
      let h : p.at ≡ place_of ((inner text d).formula 0) = sym (place_got p) ∙ ap (λ (z : Got Work). place_of z) e ∙ place_map mk ((inner text d).formula 0) in
      let k = place_within ((inward d).0 0) (omega arith) in
      omega arith
