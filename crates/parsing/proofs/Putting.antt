-- One instruction written to the lent bytes is one instruction more, where there is room and where there is none.
use Prim.Native.Nat.{ℕ, zero, suc, ◌+◌, ◌≤◌, ◌<◌}
use mathlib.Core.Path.{◌≡◌, refl, ap, sym, ◌∙◌}
use mathlib.Core.Bool.{Bool, true, false, not, ◌&&◌, ◌||◌}
use mathlib.Core.List.{List}
use native.Mathlib.Omega.{arith}
use native.Mathlib.Numerals.{add-one}
use lib.Dec.{eqb}
use lib.ListN.{length, take, set, length-take, length-set}
use lib.Seq.{take-suc-set}
use borrow.Author.Tests.{lt-ltb, le-ltb, ne_eqb}
use Rattle.formula.specs.Code.{code_apply}
use Rattle.parsing.specs.Work.{Work, is_set, put, put_if, applied, ended, stray_by, stepped}

module _ (n b : ℕ) (modal stray : Bool) (out : List ℕ) where
  abbrev worked : List ℕ → ℕ → Work
  worked xs room = record { bytes = xs; room = room; modal = modal; stray = stray }

  pub put_in : n < length out → worked (take (n + 1) (set out n b)) (length (set out n b)) ≡ put b (worked (take n out) (length out))
  unfolding put
  put_in l =
      let h = length-take n out in
      let k : length (take n out) < length out = omega arith in
      rw (lt-ltb (length (take n out)) (length out) k)
      (ap (λ (z : ℕ). worked (take (n + 1) (set out n b)) z) (length-set out n b) ∙ ap (λ (z : List ℕ). worked z (length out)) (ap (λ (z : ℕ). take z (set out n b)) (add-one n) ∙ take-suc-set out n b l))

  pub put_none : length out ≤ n → worked (take n out) (length out) ≡ put b (worked (take n out) (length out))
  unfolding put
  put_none l =
      let h = length-take n out in
      let k : length out ≤ length (take n out) = omega arith in
      rw (le-ltb (length (take n out)) (length out) k)

-- as often as it is wanted
applied-suc : (n : ℕ) (w : Work) → put code_apply (applied n w) ≡ applied (suc n) w
unfolding applied
applied-suc zero w = refl
applied-suc (suc n) w = applied-suc n (put code_apply w)

pub applied_one : (n : ℕ) (w : Work) → put code_apply (applied n w) ≡ applied (n + 1) w
applied_one n w = applied-suc n w ∙ ap (λ (z : ℕ). applied z w) (sym (add-one n))

-- where something waits
pub waits_yes : {y : Bool} (b : ℕ) {v : Work} (w : Work) → y ≡ true → v ≡ put b w → v ≡ put_if y b w
waits_yes b w e h = h ∙ ap (λ (z : Bool). put_if z b w) (sym e)

pub waits_no : {y : Bool} (b : ℕ) {w : Work} → y ≡ false → w ≡ put_if y b w
waits_no b {w} e = ap (λ (z : Bool). put_if z b w) (sym e)

-- what is noted beside an instruction
pub ended_is : (b : ℕ) {v : Work} (w : Work) → v ≡ put b w → record { bytes = v.bytes; room = v.room; modal = true; stray = v.stray } ≡ ended b w
unfolding put ended
ended_is b w h = ap (λ (z : Work). record { bytes = z.bytes; room = z.room; modal = true; stray = z.stray }) h

pub stepped_is : (b : ℕ) {v : Work} (w : Work) (stray : Bool) → v ≡ put b w → stray ≡ stray_by b v.modal v.stray → record { bytes = v.bytes; room = v.room; modal = v.modal; stray = stray } ≡ stepped b w
unfolding put stepped
stepped_is b {v} w stray h e =
    ap (λ (z : Bool). record { bytes = v.bytes; room = v.room; modal = v.modal; stray = z }) e
    ∙ ap (λ (z : Work). record { bytes = z.bytes; room = z.room; modal = z.modal; stray = stray_by b z.modal z.stray }) h

-- whether a path mark is astray, case by case
pub stray_test : (b : ℕ) (modal stray : Bool) → b ≡ 116 → stray ≡ stray_by b modal stray
stray_test b modal stray e = rw e (no_more stray)
  where
    no_more : (x : Bool) → x ≡ x || false
    no_more true = refl
    no_more false = refl

pub stray_plain : (b modal : ℕ) (stray : Bool) → modal ≡ 0 → stray ≡ stray_by b (is_set modal) stray
stray_plain b modal stray e = rw e (none (not (eqb b 116)) stray)
  where
    none : (y x : Bool) → x ≡ x || (y && false)
    none true true = refl
    none false true = refl
    none true false = refl
    none false false = refl

pub stray_step : (b modal : ℕ) (stray : Bool) → ¬ (b ≡ 116) → ¬ (modal ≡ 0) → true ≡ stray_by b (is_set modal) stray
stray_step b modal stray e f = rw (ne_eqb b 116 e, ne_eqb modal 0 f) (all stray)
  where
    all : (x : Bool) → true ≡ x || true
    all true = refl
    all false = refl
