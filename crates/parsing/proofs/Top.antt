-- What the parser gives for a whole text is what the definition says: its instructions, or the first of refusals 50, 51 and 52, 54.
use Prim.Native.Nat.{ℕ, ◌≤◌, ◌<◌}
use mathlib.Core.Path.{◌≡◌, refl, ap, sym, ◌∙◌}
use mathlib.Core.List.{List, []}
use mathlib.Core.Bool.{Bool, true, false, cond, not, ◌||◌}
use native.Mathlib.Omega.{arith}
use lib.ListN.{length}
use lib.Dec.{eqb}
use borrow.Author.Tests.{eq-eqb, ne_eqb, eqb-true, le-leb, lt-leb}
use Rattle.formula.specs.Limits.{formula_limit}
use Rattle.formula.specs.Formula.{Formula}
use Rattle.formula.specs.Parse.{Got, ok, bad, deep, map_got, inner, whole, parsed}
use Rattle.formula.specs.Outcome.{steps_plain}
use Rattle.formula.specs.Code.{code}
use Rattle.formula.proofs.Coding.{code_short}
use Rattle.formula.proofs.Places.{read_iff}
use Rattle.std.specs.Prelude.{Err}
use Rattle.parsing.specs.declared.answers.ParseError.{ParseError}
use Rattle.parsing.specs.declared.answers.ParseError.TheVariants.{NoFormula, TooDeep}
use Rattle.parsing.specs.Work.{Work, is_set}
use Rattle.parsing.specs.Build.{build, Seen, seen_of, got_of}
use Rattle.parsing.specs.Written.{code_limit, coded, refused, coded_by, text_code, finished}
use Rattle.parsing.proofs.Laws.{got_ok}
use Rattle.parsing.proofs.Bytes.{stray-build, bytes_build}

-- by what the parser answers
pub finish_bad : (n : ℕ) (out : List ℕ) {e : ParseError} {at : ℕ} → e ≡ NoFormula at → refused 51 at ≡ finished n (got_of (seen_of (Err e) out))
unfolding finished got_of
finish_bad n out h = rw h

pub finish_deep : (n : ℕ) (out : List ℕ) {e : ParseError} {at : ℕ} → e ≡ TooDeep at → refused 52 0 ≡ finished n (got_of (seen_of (Err e) out))
unfolding finished got_of
finish_deep n out h = rw h

pub finish_left : (n : ℕ) (p : Seen) → p.number ≡ 0 → ¬ (p.at ≡ n) → refused 51 p.at ≡ finished n (got_of p)
unfolding finished
finish_left n p e f = rw (got_ok p e, ne_eqb p.at n f)

pub finish_stray : (n : ℕ) (p : Seen) → p.number ≡ 0 → p.at ≡ n → p.work.stray ≡ true → refused 54 0 ≡ finished n (got_of p)
unfolding finished
finish_stray n p e f h = rw (got_ok p e, eq-eqb p.at n f, h)

pub finish_all : (n : ℕ) (p : Seen) → p.number ≡ 0 → p.at ≡ n → p.work.stray ≡ false → coded p.work.bytes ≡ finished n (got_of p)
unfolding finished
finish_all n p e f h = rw (got_ok p e, eq-eqb p.at n f, h)

-- a mark that is kept as a number
pub set_is : {n : ℕ} → ¬ (n ≡ 0) → is_set n ≡ true
set_is {n} h = rw (ne_eqb n 0 h)

pub unset_is : {n : ℕ} → n ≡ 0 → is_set n ≡ false
unset_is h = rw h

-- nothing is written yet
abbrev pub no_work : Work
no_work = record { bytes = []; room = code_limit; modal = false; stray = false }

asked_is : (a : Formula) → length (code a) ≤ code_limit → cond (build a no_work).stray (refused 54 0) (coded (build a no_work).bytes) ≡ cond (steps_plain a) (coded (code a)) (refused 54 0)
asked_is a l = rw (stray-build a no_work, bytes_build a no_work (omega arith)) (go (steps_plain a))
  where
    go : (y : Bool) → cond (not y || false) (refused 54 0) (coded (code a)) ≡ cond y (coded (code a)) (refused 54 0)
    go true = refl
    go false = refl

module _ (text : List ℕ) (short : length text ≤ formula_limit) where
  finished_is : (g : Got Formula) → ((a : Formula) → whole text g ≡ ok a (length text) → length (code a) ≤ code_limit)
      → finished (length text) (map_got (λ (a : Formula). build a no_work) g) ≡ coded_by (whole text g)
  unfolding finished
  finished_is (ok a at) few = go (eqb at (length text)) refl
    where
      go : (y : Bool) → eqb at (length text) ≡ y → cond y (cond (build a no_work).stray (refused 54 0) (coded (build a no_work).bytes)) (refused 51 at) ≡ coded_by (cond y (ok a at) (bad at))
      go true e =
          let h = eqb-true at (length text) e in
          asked_is a (few a (rw e (ap (λ (z : ℕ). ok a z) h)))
      go false e = refl
  finished_is (bad at) few = refl
  finished_is (deep at) few = refl

  parsed_is : parsed text ≡ whole text ((inner text 17).formula 0)
  unfolding parsed inner
  parsed_is = refl

  room : (a : Formula) → whole text ((inner text 17).formula 0) ≡ ok a (length text) → length (code a) ≤ code_limit
  room a e = let h = code_short a text ((read_iff text a).0 (parsed_is ∙ e)).0 in omega arith

  pub read_is : (w : Work) (p : Seen) → w ≡ no_work → got_of p ≡ map_got (λ (a : Formula). build a w) ((inner text 17).formula 0) → finished (length text) (got_of p) ≡ text_code text
  unfolding text_code
  read_is w p e k =
      rw (le-leb (length text) formula_limit short)
      (ap (λ (z : Got Work). finished (length text) z) (k ∙ ap (λ (z : Work). map_got (λ (a : Formula). build a z) ((inner text 17).formula 0)) e)
      ∙ finished_is ((inner text 17).formula 0) room ∙ ap coded_by (sym parsed_is))

pub read_long : (text : List ℕ) → formula_limit < length text → refused 50 0 ≡ text_code text
unfolding text_code
read_long text h = rw (lt-leb (length text) formula_limit h)
