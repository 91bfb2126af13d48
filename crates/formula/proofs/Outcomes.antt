-- WHAT READING A FORMULA'S TEXT COMES TO, said of the text: when a table is given and which, that some sheet gives it, that its rule agrees with the formula, and what each refusal means. By the cases of what was read.
use Prim.Native.Nat.{ℕ, ◌≤◌, ◌<◌}
use native.Mathlib.Omega.{arith}
use mathlib.Core.Path.{◌≡◌, refl, ap, sym, subst, ◌∙◌}
use mathlib.Core.List.{List}
use mathlib.Core.Bool.{Bool, true, false, cond}
use mathlib.Core.Logic.Iff
use mathlib.Core.Logic.{◌⊎◌, inl, inr, ◌↔◌}
use lib.ListN.{length}
use borrow.Author.Tests.{le-leb, lt-leb}
use Rattle.aldlf.specs.Sheet.{sheet_of}
use Rattle.aldlf.specs.Meaning.{Holds}
use Rattle.aldlf.specs.Verdict.{verdict}
use Rattle.aldlf.specs.declared.Table.{Table}
use Rattle.aldlf.proofs.Plain.{verdict_iff}
use Rattle.sheet.specs.Given.{well_formed}
use Rattle.sheet.proofs.Bools.{split}
use Rattle.formula.specs.Limits.{formula_limit}
use Rattle.formula.specs.Formula.{Formula, Sat}
use Rattle.formula.specs.Grammar.{Writes}
use Rattle.formula.specs.Parse.{Got, ok, bad, deep, parsed}
use Rattle.formula.specs.Numbering.{newest, table_of}
use Rattle.formula.specs.Outcome.{steps_plain, fits_sheet, Read, accepted, refused, asked, read_formula}
use Rattle.formula.specs.Answer.{Asked, Meant, long, misplaced, nested, stray, large, fitting}
use Rattle.formula.proofs.Places.{read_iff, parsed_end, bad_iff, deep_iff, writes_one}
use Rattle.formula.proofs.Agreement.{sheet_agrees}
use Rattle.formula.proofs.Given.{made_given}

module _ (text : List ℕ) where
  -- the answer by the text's length, and by what was read
  answer_long : formula_limit < length text → read_formula text ≡ refused 50 0
  unfolding read_formula
  answer_long l = ap (λ (b : Bool). cond b (asked (parsed text)) (refused 50 0)) (lt-leb (length text) formula_limit l)

  answer_short : (g : Got Formula) → length text ≤ formula_limit → parsed text ≡ g → read_formula text ≡ asked g
  unfolding read_formula
  answer_short g l e = ap (λ (b : Bool). cond b (asked (parsed text)) (refused 50 0)) (le-leb (length text) formula_limit l) ∙ ap asked e

  asked_read : (a : Formula) → Asked text a → read_formula text ≡ asked (ok a (length text))
  asked_read a w = answer_short (ok a (length text)) w.short ((read_iff text a).1 (w.writes, w.shallow))

  -- every answer means what is said
  meant_read : (a : Formula) → Asked text a → Meant text (asked (ok a (length text)))
  meant_read a w = go (steps_plain a) (fits_sheet a) refl refl
    where
      go : (x y : Bool) → steps_plain a ≡ x → fits_sheet a ≡ y → Meant text (asked (ok a (length text)))
      go true true p q = rw (p, q) (fitting a refl w p q)
      go true false p q = rw (p, q) (large a refl w p q)
      go false y p q = rw p (stray a refl w p)

  meant_got : (g : Got Formula) → length text ≤ formula_limit → parsed text ≡ g → Meant text (asked g)
  meant_got (ok a at) l e =
      let h = parsed_end text a at e in
      let w = (read_iff text a).0 (e ∙ ap (λ (z : ℕ). ok a z) h) in
      meant_read a (record { short = l; writes = w.0; shallow = w.1 })
  meant_got (bad at) l e = misplaced at refl l ((bad_iff text at).0 e)
  meant_got (deep at) l e = nested at refl l ((deep_iff text at).0 e)

  meant : Meant text (read_formula text)
  meant = cases (split (length text) formula_limit)
    where
      cases : (length text ≤ formula_limit) ⊎ (formula_limit < length text) → Meant text (read_formula text)
      cases (inl l) = subst (λ (r : Read). Meant text r) (sym (answer_short (parsed text) l refl)) (meant_got (parsed text) l refl)
      cases (inr l) = long (answer_long l) l

  -- and what is said leaves one answer
  read_as : (r : Read) → Meant text r → read_formula text ≡ r
  read_as r (long e l) = answer_long l ∙ sym e
  read_as r (misplaced x e l b) = answer_short (bad x) l ((bad_iff text x).1 b) ∙ sym e
  read_as r (nested x e l d) = answer_short (deep x) l ((deep_iff text x).1 d) ∙ sym e
  read_as r (stray a e w p) = asked_read a w ∙ rw p (sym e)
  read_as r (large a e w p q) = asked_read a w ∙ rw (p, q) (sym e)
  read_as r (fitting a e w p q) = asked_read a w ∙ rw (p, q) (sym e)

  -- EACH ANSWER AND WHAT IT SAYS OF THE TEXT
  pub outcome_iff : (r : Read) → (read_formula text ≡ r) ↔ Meant text r
  outcome_iff r = (λ e. subst (λ (z : Read). Meant text z) e meant, read_as r)

  -- the formula of an accepted text
  accepted_of : (t : Table) (r : Read) → r ≡ accepted t → Meant text r → (a : Formula) × Asked text a × (steps_plain a ≡ true) × (fits_sheet a ≡ true) × (t ≡ table_of a)
  accepted_of t r h (long e l) = absurd (let z : ◌≡◌ {A = ℕ} 0 1 = cc in omega arith)
  accepted_of t r h (misplaced x e l b) = absurd (let z : ◌≡◌ {A = ℕ} 0 1 = cc in omega arith)
  accepted_of t r h (nested x e l d) = absurd (let z : ◌≡◌ {A = ℕ} 0 1 = cc in omega arith)
  accepted_of t r h (stray a e w p) = absurd (let z : ◌≡◌ {A = ℕ} 0 1 = cc in omega arith)
  accepted_of t r h (large a e w p q) = absurd (let z : ◌≡◌ {A = ℕ} 0 1 = cc in omega arith)
  accepted_of t r h (fitting a e w p q) = (a, w, p, q, (let z : t ≡ table_of a = cc in z))

  -- A TABLE THAT IS GIVEN passes question 31
  pub read_given : (t : Table) → read_formula text ≡ accepted t → well_formed t ≡ true
  read_given t e =
      let p = accepted_of t (read_formula text) e meant in
      rw p.4 (made_given p.0 text p.1.writes p.2 p.3)

  -- and its rule holds exactly where the formula that the text writes does: at every entry of every log
  pub read_agrees : (t : Table) (a : Formula) → read_formula text ≡ accepted t → Writes a text → (log : List ℕ) (i : ℕ) → Holds (sheet_of t) log (newest t) i ↔ Sat a log i
  read_agrees t a e h log i =
      let p = accepted_of t (read_formula text) e meant in
      let same : p.0 ≡ a = writes_one text p.0 a p.1.writes h in
      rw p.4 (subst (λ (b : Formula). Holds (sheet_of (table_of p.0)) log (newest (table_of p.0)) i ↔ Sat b log i) same (sheet_agrees p.0 p.3 log i))

  -- and so does the verdict that judging computes
  pub read_verdict : (t : Table) (a : Formula) → read_formula text ≡ accepted t → Writes a text → (log : List ℕ) (i : ℕ) → i < length log → (verdict (sheet_of t) log (newest t) i ≡ true) ↔ Sat a log i
  read_verdict t a e h log i l = Iff.trans (verdict_iff (sheet_of t) log (newest t) i l) (read_agrees t a e h log i)
