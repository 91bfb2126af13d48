-- Refusals 51 and 52 are right: what is read is exactly what is written and not too deep, 51 is at the first byte at which no formula can go on, 52 at the first mark too deep. For what is read is of the grammar, what is of the grammar is read at some depth, and texts that begin alike are read alike.
use Prim.Native.Nat.{ℕ, suc, ◌+◌, ◌-◌, ◌≤◌, ◌<◌}
use native.Mathlib.Omega.{arith}
use mathlib.Core.Path.{◌≡◌, refl, ap, sym, subst, ◌∙◌}
use mathlib.Core.List.{List, [], ◌∷◌, ◌++◌, append-nil, append_assoc}
use mathlib.Core.Logic.{◌⊎◌, inl, inr, ◌↔◌}
use mathlib.Core.Bool.{Bool, true, false, cond}
use lib.Dec.{eqb}
use lib.ListN.{length, take, drop, take-append-drop, length-append, get_or-append}
use lib.Seq.{take-length, take-take, get_or-take, length-take-le}
use borrow.Author.Tests.{eq-eqb, eqb-true, eqb-false}
use Rattle.sheet.proofs.Bools.{split}
use Rattle.formula.specs.Limits.{depth_limit}
use Rattle.formula.specs.Formula.{Formula}
use Rattle.formula.specs.Grammar.{Disjunction, Writes, Viable, Shallow, open_after}
use Rattle.formula.specs.Parse.{Got, ok, bad, deep, byte, formula_at, whole, parsed}
use Rattle.formula.specs.Answer.{NoFormulaAt, TooDeepAt}
use Rattle.formula.proofs.Bytes.{byte_in, Slice, slice_end, slice_take}
use Rattle.formula.proofs.Levels.{Under, under_take, before_take}
use Rattle.formula.proofs.Sound.{Right, reads, goes_on, too, right_formula}
use Rattle.formula.proofs.Local.{Near, same, far_ok, far_bad, unknown, near_formula}
use Rattle.formula.proofs.Complete.{read_whole}

-- what the answer for the whole text says of what was read
module _ (text : List ℕ) where
  whole-ok : (g : Got Formula) (a : Formula) (to : ℕ) → whole text g ≡ ok a to → (g ≡ ok a to) × (to ≡ length text)
  whole-ok (ok b at) a to e = go (eqb at (length text)) refl e
    where
      go : (t : Bool) → eqb at (length text) ≡ t → cond t (ok b at) (bad at) ≡ ok a to → (ok b at ≡ ok a to) × (to ≡ length text)
      go true q e = (e, (let h : at ≡ to = cc in let k = eqb-true at (length text) q in omega arith))
      go false q e = absurd (let z : ◌≡◌ {A = ℕ} 0 1 = cc in omega arith)
  whole-ok (bad at) a to e = absurd (let z : ◌≡◌ {A = ℕ} 0 1 = cc in omega arith)
  whole-ok (deep at) a to e = absurd (let z : ◌≡◌ {A = ℕ} 0 1 = cc in omega arith)

  whole-bad : (g : Got Formula) (x : ℕ) → whole text g ≡ bad x → (g ≡ bad x) ⊎ ((a : Formula) × (g ≡ ok a x) × (¬ (x ≡ length text)))
  whole-bad (ok b at) x e = go (eqb at (length text)) refl e
    where
      go : (t : Bool) → eqb at (length text) ≡ t → cond t (ok b at) (bad at) ≡ bad x → (ok b at ≡ bad x) ⊎ ((a : Formula) × (ok b at ≡ ok a x) × (¬ (x ≡ length text)))
      go true q e = absurd (let z : ◌≡◌ {A = ℕ} 0 1 = cc in omega arith)
      go false q e = let h : at ≡ x = cc in inr (b, ap (λ (z : ℕ). ok b z) h, λ k. eqb-false at (length text) q (h ∙ k))
  whole-bad (bad at) x e = inl e
  whole-bad (deep at) x e = absurd (let z : ◌≡◌ {A = ℕ} 0 1 = cc in omega arith)

  whole-deep : (g : Got Formula) (x : ℕ) → whole text g ≡ deep x → g ≡ deep x
  whole-deep (ok b at) x e = go (eqb at (length text)) e
    where
      go : (t : Bool) → cond t (ok b at) (bad at) ≡ deep x → ok b at ≡ deep x
      go true e = absurd (let z : ◌≡◌ {A = ℕ} 0 1 = cc in omega arith)
      go false e = absurd (let z : ◌≡◌ {A = ℕ} 0 1 = cc in omega arith)
  whole-deep (bad at) x e = absurd (let z : ◌≡◌ {A = ℕ} 0 1 = cc in omega arith)
  whole-deep (deep at) x e = e

  -- what stands before the place where reading stopped
  record Stopped (x : ℕ) : Type 0 where
    inside : x ≤ length text
    viable : Viable (take x text)
    shallow : Shallow (take x text)

  as_taken : (u : List ℕ) (x : ℕ) → Slice text 0 u x → (v : List ℕ) (a : Formula) → Writes a (u ++ v) → Viable (take x text)
  as_taken u x s v a t = (v, a, subst (λ (z : List ℕ). Writes a (z ++ v)) (sym (slice_take text u x s)) t)

  as_shallow : (u : List ℕ) (x : ℕ) → Slice text 0 u x → ((k : ℕ) → Under (k + suc depth_limit) u k) → Shallow (take x text)
  as_shallow u x s l =
      subst (λ (z : List ℕ). Shallow z) (sym (slice_take text u x s)) (λ n h. let q = under_take (0 + suc depth_limit) u 0 n (l 0) h in omega arith)

  stopped_bad : (g : Got Formula) (x : ℕ) → Right text Disjunction 0 (suc depth_limit) g → g ≡ bad x → Stopped x
  stopped_bad (ok a to) x r e = absurd (let z : ◌≡◌ {A = ℕ} 0 1 = cc in omega arith)
  stopped_bad (bad to) x (goes_on u v a s t l) e =
      let h : to ≡ x = cc in
      subst Stopped h (record { inside = slice_end text 0 u to (omega arith) s; viable = as_taken u to s v a t; shallow = as_shallow u to s l })
  stopped_bad (deep to) x r e = absurd (let z : ◌≡◌ {A = ℕ} 0 1 = cc in omega arith)

  stopped_ok : (g : Got Formula) (a : Formula) (x : ℕ) → Right text Disjunction 0 (suc depth_limit) g → g ≡ ok a x → Stopped x × Writes a (take x text)
  stopped_ok (ok b to) a x (reads u s t l) e =
      let h : to ≡ x = cc in
      let k : b ≡ a = cc in (
        subst Stopped h (record { inside = slice_end text 0 u to (omega arith) s; viable = as_taken u to s [] b (subst (λ (z : List ℕ). Writes b z) (sym (append-nil u)) t); shallow = as_shallow u to s l }),
        subst (λ (z : ℕ). Writes a (take z text)) h (subst (λ (z : Formula). Writes z (take to text)) k (subst (λ (z : List ℕ). Writes b z) (sym (slice_take text u to s)) t)),
      )
  stopped_ok (bad to) a x r e = absurd (let z : ◌≡◌ {A = ℕ} 0 1 = cc in omega arith)
  stopped_ok (deep to) a x r e = absurd (let z : ◌≡◌ {A = ℕ} 0 1 = cc in omega arith)

-- a text that begins like another and is a formula's: reading the other does not stop there
no_formula : (x n : ℕ) (b : Formula) (g g' : Got Formula) → Near x g g' → g ≡ bad x → g' ≡ ok b n → ⊥
no_formula x n b g g' same e h = let z : ◌≡◌ {A = ℕ} 0 1 = cc in omega arith
no_formula x n b g g' (far_ok l) e h = let z : ◌≡◌ {A = ℕ} 0 1 = cc in omega arith
no_formula x n b g g' (far_bad {to} l) e h = let z : to ≡ x = cc in omega arith
no_formula x n b g g' unknown e h = let z : ◌≡◌ {A = ℕ} 0 1 = cc in omega arith

no_longer : (x n : ℕ) (a b : Formula) (g g' : Got Formula) → Near x g g' → g ≡ ok a x → g' ≡ ok b n → x < n → ⊥
no_longer x n a b g g' same e h l = let z : x ≡ n = cc in omega arith
no_longer x n a b g g' (far_ok {v} {to} m) e h l = let z : to ≡ x = cc in omega arith
no_longer x n a b g g' (far_bad m) e h l = let z : ◌≡◌ {A = ℕ} 0 1 = cc in omega arith
no_longer x n a b g g' unknown e h l = let z : ◌≡◌ {A = ℕ} 0 1 = cc in omega arith

module _ (text : List ℕ) where
  -- the text through place x, gone on with
  module _ (x : ℕ) (l : x < length text) (v : List ℕ) where
    abbrev other : List ℕ
    other = take (suc x) text ++ v

    other_long : x < length other
    other_long = let h = length-append (take (suc x) text) v in let k = length-take-le (suc x) text l in omega arith

    agree : (y : ℕ) → y ≤ x → byte text y ≡ byte other y
    agree y h =
        let k = length-take-le (suc x) text l in
        let m = other_long in
        byte_in text y (omega arith) ∙ sym (get_or-take (suc x) text y 0 (omega arith)) ∙ sym (get_or-append (take (suc x) text) v 0 y (omega arith)) ∙ sym (byte_in other y (omega arith))

    near_other : Near x (formula_at text depth_limit 0) (formula_at other (depth_limit + length other) 0)
    near_other = let m = other_long in near_formula text other x agree (omega arith) (omega arith) depth_limit (depth_limit + length other) (omega arith)

    read_other : (b : Formula) → Writes b other → formula_at other (depth_limit + length other) 0 ≡ ok b (length other)
    read_other b t = read_whole other b t (depth_limit + length other) (omega arith)

  -- the text itself, read with more depth
  near_self : (x : ℕ) → x ≤ length text → Near x (formula_at text depth_limit 0) (formula_at text (depth_limit + length text) 0)
  near_self x l = near_formula text text x (λ y h. refl) l l depth_limit (depth_limit + length text) (omega arith)

  read_self : (a : Formula) → Writes a text → formula_at text (depth_limit + length text) 0 ≡ ok a (length text)
  read_self a t = read_whole text a t (depth_limit + length text) (omega arith)

  -- READ: exactly the texts that write the formula and are not too deep
  read_to : (a : Formula) → parsed text ≡ ok a (length text) → Writes a text × Shallow text
  unfolding parsed
  read_to a e =
      let w = whole-ok text (formula_at text depth_limit 0) a (length text) e in
      let s = stopped_ok text (formula_at text depth_limit 0) a (length text) (right_formula text depth_limit 0) w.0 in
      (subst (λ (z : List ℕ). Writes a z) (take-length text) s.1, subst (λ (z : List ℕ). Shallow z) (take-length text) s.0.shallow)

  read_from : (a : Formula) → Writes a text → Shallow text → (g g' : Got Formula) → Near (length text) g g' → Right text Disjunction 0 (suc depth_limit) g → g' ≡ ok a (length text) → g ≡ ok a (length text)
  read_from a t s g g' same r e = e
  read_from a t s g g' (far_ok {v} {to} l) (reads u sl c k) e = absurd (let h = slice_end text 0 u to (omega arith) sl in omega arith)
  read_from a t s g g' (far_bad {to} l) (goes_on u v b sl c k) e = absurd (let h = slice_end text 0 u to (omega arith) sl in omega arith)
  read_from a t s g g' (unknown {to}) (too u v b sl c op bf) e =
      absurd (let h = slice_end text 0 u to (omega arith) sl in
      let k = s to h in
      let q : open_after (take to text) 0 ≡ 0 + suc depth_limit = ap (λ (z : List ℕ). open_after z 0) (slice_take text u to sl) ∙ op 0 in
      omega arith)

  pub read_iff : (a : Formula) → (parsed text ≡ ok a (length text)) ↔ (Writes a text × Shallow text)
  unfolding parsed
  read_iff a = (
    read_to a,
    λ p. ap (whole text) (read_from a p.0 p.1 _ _ (near_self (length text) (omega arith)) (right_formula text depth_limit 0) (read_self a p.0))
        ∙ rw (eq-eqb (length text) (length text) refl) refl,
  )

  from_bad : (x : ℕ) → formula_at text depth_limit 0 ≡ bad x → NoFormulaAt text x
  from_bad x e =
      let s = stopped_bad text (formula_at text depth_limit 0) x (right_formula text depth_limit 0) e in
      record {
        inside = s.inside;
        viable = s.viable;
        shallow = s.shallow;
        never = λ l p. no_formula x (length (other x l p.0)) p.1 _ _ (near_other x l p.0) e (read_other x l p.0 p.1 p.2);
        short = λ q a t. no_formula x (length text) a _ _ (near_self x s.inside) e (read_self a t);
      }

  from_ok : (x : ℕ) (a : Formula) → formula_at text depth_limit 0 ≡ ok a x → ¬ (x ≡ length text) → NoFormulaAt text x
  from_ok x a e n =
      let s = (stopped_ok text (formula_at text depth_limit 0) a x (right_formula text depth_limit 0) e).0 in
      record {
        inside = s.inside;
        viable = s.viable;
        shallow = s.shallow;
        never = λ l p. no_longer x (length (other x l p.0)) a p.1 _ _ (near_other x l p.0) e (read_other x l p.0 p.1 p.2) (other_long x l p.0);
        short = λ q. absurd (n q);
      }

  bad_right : (x : ℕ) → parsed text ≡ bad x → NoFormulaAt text x
  unfolding parsed
  bad_right x e = cases (whole-bad text (formula_at text depth_limit 0) x e)
    where
      cases : (formula_at text depth_limit 0 ≡ bad x) ⊎ ((a : Formula) × (formula_at text depth_limit 0 ≡ ok a x) × (¬ (x ≡ length text))) → NoFormulaAt text x
      cases (inl q) = from_bad x q
      cases (inr (a, q, n)) = from_ok x a q n

  some_mark : (u : List ℕ) → open_after u 0 ≡ 0 + suc depth_limit → 1 ≤ length u
  unfolding open_after
  some_mark [] e = absurd (omega arith)
  some_mark (b ∷ u) e = omega arith

  from_deep : (g : Got Formula) (x : ℕ) → Right text Disjunction 0 (suc depth_limit) g → g ≡ deep x → TooDeepAt text x
  from_deep (ok b to) x r e = absurd (let z : ◌≡◌ {A = ℕ} 0 1 = cc in omega arith)
  from_deep (bad to) x r e = absurd (let z : ◌≡◌ {A = ℕ} 0 1 = cc in omega arith)
  from_deep (deep to) x (too u v a s t op bf) e =
      let h : to ≡ x = cc in
      let k = slice_take text u to s in
      let m = some_mark u (op 0) in
      let n = slice_end text 0 u to (omega arith) s in
      let q = s.end in
      subst (TooDeepAt text) h
      (record {
        inside = (omega arith, n);
        viable = as_taken text u to s v a t;
        shallow = λ i j.
            let c = length-take-le (to - 1) text (omega arith) in
            let same_start : take i (take (to - 1) text) ≡ take i u = take-take i (to - 1) text (omega arith) ∙ sym (take-take i to text (omega arith)) ∙ ap (take i) k in
            let w = before_take (0 + suc depth_limit) u 0 i (bf 0) (omega arith) in
            rw same_start (omega arith);
        deeper = ap (λ (z : List ℕ). open_after z 0) k ∙ op 0;
      })

  deep_right : (x : ℕ) → parsed text ≡ deep x → TooDeepAt text x
  unfolding parsed
  deep_right x e = from_deep (formula_at text depth_limit 0) x (right_formula text depth_limit 0) (whole-deep text (formula_at text depth_limit 0) x e)

  -- a text writes at most one formula
  pub writes_one : (a b : Formula) → Writes a text → Writes b text → a ≡ b
  writes_one a b t r = let p = read_self a t in let q = read_self b r in cc

  -- a formula is read only to the end
  pub parsed_end : (a : Formula) (to : ℕ) → parsed text ≡ ok a to → to ≡ length text
  unfolding parsed
  parsed_end a to e = (whole-ok text (formula_at text depth_limit 0) a to e).1

  -- what can go on could go on before
  less_viable : (n y : ℕ) → n ≤ y → Viable (take y text) → Viable (take n text)
  less_viable n y l (v, a, t) =
      let parts : take n text ++ drop n (take y text) ≡ take y text = ap (λ (z : List ℕ). z ++ drop n (take y text)) (sym (take-take n y text l)) ∙ take-append-drop n (take y text) in
      (drop n (take y text) ++ v, a, subst (λ (z : List ℕ). Writes a z) (ap (λ (z : List ℕ). z ++ v) (sym parts) ∙ append_assoc (take n text) (drop n (take y text)) v) t)

  viable_text : (a : Formula) → Writes a text → Viable (take (length text) text)
  viable_text a t = ([], a, subst (λ (z : List ℕ). Writes a z) (sym (take-length text) ∙ sym (append-nil (take (length text) text))) t)

  -- the three answers exclude each other, and each has one place
  not_written : (x : ℕ) (a : Formula) → NoFormulaAt text x → Writes a text → ⊥
  not_written x a b t = cases (split (suc x) (length text))
    where
      cases : (suc x ≤ length text) ⊎ (length text < suc x) → ⊥
      cases (inl l) = b.never l (less_viable (suc x) (length text) l (viable_text a t))
      cases (inr l) = let h = b.inside in b.short (omega arith) a t

  bad_deep : (x y : ℕ) → NoFormulaAt text x → TooDeepAt text y → ⊥
  bad_deep x y b d = cases (split y x)
    where
      cases : (y ≤ x) ⊎ (x < y) → ⊥
      cases (inl l) =
          let h = d.deeper in
          let i = b.inside in
          let n = length-take-le x text i in
          let k = b.shallow y (omega arith) in
          let same_start : take y (take x text) ≡ take y text = take-take y x text l in
          let k' : open_after (take y text) 0 ≤ depth_limit = subst (λ (z : List ℕ). open_after z 0 ≤ depth_limit) same_start k in
          omega arith
      cases (inr l) = b.never (let h = d.inside in omega arith) (less_viable (suc x) y l d.viable)

  not_shallow : (y : ℕ) → TooDeepAt text y → Shallow text → ⊥
  not_shallow y d s = let h = d.deeper in let k = s y d.inside.1 in omega arith

  bad_before : (x y : ℕ) → x < y → NoFormulaAt text x → NoFormulaAt text y → ⊥
  bad_before x y l b c = b.never (let h = c.inside in omega arith) (less_viable (suc x) y l c.viable)

  deep_before : (x y : ℕ) → x < y → TooDeepAt text x → TooDeepAt text y → ⊥
  deep_before x y l d c =
      let h = d.deeper in
      let i = c.inside in
      let n = length-take-le (y - 1) text (omega arith) in
      let k = c.shallow x (omega arith) in
      let same_start : take x (take (y - 1) text) ≡ take x text = take-take x (y - 1) text (omega arith) in
      let k' : open_after (take x text) 0 ≤ depth_limit = subst (λ (z : List ℕ). open_after z 0 ≤ depth_limit) same_start k in
      omega arith

  one_place : (Q : ℕ → Type 0) → ((x y : ℕ) → x < y → Q x → Q y → ⊥) → (x y : ℕ) → Q x → Q y → x ≡ y
  one_place Q f x y p q = cases (split x y) (split y x)
    where
      cases : (x ≤ y) ⊎ (y < x) → (y ≤ x) ⊎ (x < y) → x ≡ y
      cases (inl l) (inl h) = omega arith
      cases (inl l) (inr h) = absurd (f x y h p q)
      cases (inr l) h = absurd (f y x l q p)

  -- 51 AND 52 EXACTLY
  bad_from : (x : ℕ) (g : Got Formula) → parsed text ≡ g → NoFormulaAt text x → g ≡ bad x
  bad_from x (ok a to) e b = absurd (not_written x a b ((read_iff a).0 (e ∙ ap (λ (z : ℕ). ok a z) (parsed_end a to e))).0)
  bad_from x (bad to) e b = ap (λ (z : ℕ). bad z) (one_place (NoFormulaAt text) bad_before to x (bad_right to e) b)
  bad_from x (deep to) e b = absurd (bad_deep x to b (deep_right to e))

  pub bad_iff : (x : ℕ) → (parsed text ≡ bad x) ↔ NoFormulaAt text x
  bad_iff x = (bad_right x, bad_from x (parsed text) refl)

  deep_from : (x : ℕ) (g : Got Formula) → parsed text ≡ g → TooDeepAt text x → g ≡ deep x
  deep_from x (ok a to) e d = absurd (not_shallow x d ((read_iff a).0 (e ∙ ap (λ (z : ℕ). ok a z) (parsed_end a to e))).1)
  deep_from x (bad to) e d = absurd (bad_deep to x (bad_right to e) d)
  deep_from x (deep to) e d = ap (λ (z : ℕ). deep z) (one_place (TooDeepAt text) deep_before to x (deep_right to e) d)

  pub deep_iff : (x : ℕ) → (parsed text ≡ deep x) ↔ TooDeepAt text x
  deep_iff x = (deep_right x, deep_from x (parsed text) refl)
