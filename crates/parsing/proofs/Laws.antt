-- The parser's leaves as laws over plain variables: the code's answers cite them.
use Prim.Native.Nat.{ℕ, zero, suc, ◌+◌, ◌-◌, ◌*◌, ◌≤◌, ◌<◌}
use mathlib.Core.Path.{◌≡◌, refl, ap, sym, ◌∙◌}
use mathlib.Core.List.{List, [], ◌∷◌}
use mathlib.Core.Bool.{Bool, true, false, not, cond, ◌&&◌, ◌||◌}
use mathlib.Core.Logic.{◌⊎◌, inl, inr}
use native.Mathlib.Omega.{arith}
use lib.ListN.{length, get_or, get_or-eq_default}
use Rattle.std.proofs.lemmas.List.{get_or_default}
use lib.Dec.{eqb, leb, ltb}
use borrow.Author.Tests.{eq-eqb, ne_eqb, leb-true, eqb-true, eqb-false, ltb-true, ltb-false, not-true, not-false}
use Rattle.aldlf.proofs.Bools.{and_left, and_right}
use Rattle.text.specs.Text.{is_digit}
use Rattle.std.specs.Prelude.{Result, Ok, Err, Option, Some, None}
use Rattle.std.specs.Option.{unwrap_or, option_eq}
use Rattle.parsing.specs.declared.answers.Parsed.{Parsed}
use Rattle.parsing.specs.declared.answers.ParseError.{ParseError}
use Rattle.parsing.specs.declared.answers.ParseError.TheVariants.{NoFormula, TooDeep}
use Rattle.aldlf.specs.Sheet.{ahead, back, stay}
use Rattle.formula.specs.Formula.{Formula, Path, many}
use Rattle.formula.specs.Parse.{Got, ok, bad, deep, map_got, byte, closed, true_at, fact_at, is_pair, starred_from, starred}
use Rattle.formula.proofs.Bytes.{byte_there, byte_in, byte_out}
use Rattle.formula.specs.Code.{code_true, code_many, code_step, code_some, code_every}
use Rattle.parsing.specs.Work.{Work, put, put_if, stepped}
use Rattle.parsing.specs.Build.{build, build_in, Seen, seen_of, got_of, goes, stops, followed, end_of, fact_by, simple_at, stepped_by, stars_by, stars_on}

-- a place within the text leaves something to read
pub fuel_down : (text : List ℕ) (n at : ℕ) → at < length text → length text ≤ at + n → (m : ℕ) × (n ≡ suc m)
fuel_down text zero at h l = absurd (omega arith)
fuel_down text (suc m) at h l = (m, refl)

-- what an answer stands for, by its code
pub got_ok : (p : Seen) → p.number ≡ 0 → got_of p ≡ ok p.work p.at
unfolding got_of
got_ok p e = rw e

pub got_fail : (p : Seen) → ¬ (p.number ≡ 0) → (got_of p ≡ bad p.at) ⊎ (got_of p ≡ deep p.at)
unfolding got_of
got_fail p ne = rw (ne_eqb p.number 0 ne) (go (eqb p.number 51))
  where
    go : (b : Bool) → (◌≡◌ {A = Got Work} (cond b (bad p.at) (deep p.at)) (bad p.at)) ⊎ (◌≡◌ {A = Got Work} (cond b (bad p.at) (deep p.at)) (deep p.at))
    go true = inl refl
    go false = inr refl

-- an error is no success
pub lost : (e : ParseError) (out : List ℕ) → ¬ ((seen_of (Err e) out).number ≡ 0)
lost (NoFormula at) out h = absurd (omega arith)
lost (TooDeep at) out h = absurd (omega arith)

-- the place does not rest on what was written
pub place_same : (p : Result Parsed ParseError) (out out' : List ℕ) → (seen_of p out).at ≡ (seen_of p out').at
place_same (Ok p) out out' = refl
place_same (Err (NoFormula at)) out out' = refl
place_same (Err (TooDeep at)) out out' = refl

-- an answer that is no success stands as it is under whatever keeps failures
pub fails_as : (p : Seen) (f : Got Work → Got Work) → ¬ (p.number ≡ 0) → ((at : ℕ) → f (bad at) ≡ bad at) → ((at : ℕ) → f (deep at) ≡ deep at) → got_of p ≡ f (got_of p)
fails_as p f ne hb hd = go (got_fail p ne)
  where
    go : (got_of p ≡ bad p.at) ⊎ (got_of p ≡ deep p.at) → got_of p ≡ f (got_of p)
    go (inl e) = e ∙ sym (hb p.at) ∙ ap f (sym e)
    go (inr e) = e ∙ sym (hd p.at) ∙ ap f (sym e)

-- a byte that is there, or is not: x is what definitions say of it
pub is_there : {r : Bool} (o : Option ℕ) (x v : ℕ) → unwrap_or o 256 ≡ x → r ≡ option_eq eqb o (Some v) → r ≡ true → x ≡ v
is_there None x v e h t = absurd (let z : false ≡ true = sym h ∙ t in let y : ◌≡◌ {A = ℕ} 0 1 = cc in omega arith)
is_there (Some u) x v e h t = sym e ∙ eqb-true u v (sym h ∙ t)

pub is_there_ne : {r : Bool} (o : Option ℕ) (x v : ℕ) → unwrap_or o 256 ≡ x → r ≡ not (option_eq eqb o (Some v)) → r ≡ false → x ≡ v
is_there_ne o x v e h t = is_there o x v e refl (not-false (option_eq eqb o (Some v)) (sym h ∙ t))

pub not_there : {r : Bool} (o : Option ℕ) (x v : ℕ) → v < 256 → unwrap_or o 256 ≡ x → r ≡ option_eq eqb o (Some v) → r ≡ false → ¬ (x ≡ v)
not_there None x v l e h t k = absurd (omega arith)
not_there (Some u) x v l e h t k = eqb-false u v (sym h ∙ t) (e ∙ k)

pub not_there_ne : {r : Bool} (o : Option ℕ) (x v : ℕ) → v < 256 → unwrap_or o 256 ≡ x → r ≡ not (option_eq eqb o (Some v)) → r ≡ true → ¬ (x ≡ v)
not_there_ne o x v l e h t = not_there o x v l e refl (not-true (option_eq eqb o (Some v)) (sym h ∙ t))

-- these are bytes
pub true_low : (i : ℕ) → get_or (114 ∷ 117 ∷ 101 ∷ []) i 0 < 256
true_low zero = omega arith
true_low (suc zero) = omega arith
true_low (suc (suc zero)) = omega arith
true_low (suc (suc (suc i))) = omega arith

-- the byte at a place, or 256
pub byte_or : (text : List ℕ) (at : ℕ) → get_or text at 256 ≡ byte text at
byte_or text at = go (ltb at (length text)) refl
  where
    go : (y : Bool) → ltb at (length text) ≡ y → get_or text at 256 ≡ byte text at
    go true e = let l = ltb-true at (length text) e in get_or_default text at 256 0 l ∙ sym (byte_in text at l)
    go false e = let l = ltb-false at (length text) e in get_or-eq_default text 256 l ∙ sym (byte_out text at l)

module _ (text : List ℕ) where
  pub close_off : (b : ℕ) (p : Seen) → ¬ (p.number ≡ 0) → got_of p ≡ closed text b (got_of p)
  unfolding closed
  close_off b p ne = fails_as p (closed text b) ne (λ at. refl) (λ at. refl)

  pub close_yes : (b : ℕ) (p : Seen) → p.number ≡ 0 → byte text p.at ≡ b → ok p.work (p.at + 1) ≡ closed text b (got_of p)
  unfolding closed
  close_yes b p e h = rw (got_ok p e, eq-eqb (byte text p.at) b h)

  pub close_no : (b : ℕ) (p : Seen) → p.number ≡ 0 → ¬ (byte text p.at ≡ b) → bad p.at ≡ closed text b (got_of p)
  unfolding closed
  close_no b p e h = rw (got_ok p e, ne_eqb (byte text p.at) b h)

  closed_go : {X Y : Type 0} (f : X → Y) (x : X) (at : ℕ) (y : Bool) → map_got f (cond y (ok x (at + 1)) (bad at)) ≡ cond y (ok (f x) (at + 1)) (bad at)
  closed_go f x at true = refl
  closed_go f x at false = refl

  pub map_closed : {X Y : Type 0} (f : X → Y) (b : ℕ) (g : Got X) → map_got f (closed text b g) ≡ closed text b (map_got f g)
  unfolding closed
  map_closed f b (ok x at) = closed_go f x at (eqb (byte text at) b)
  map_closed f b (bad at) = refl
  map_closed f b (deep at) = refl

  module _ (at : ℕ) (w : Work) where
    abbrev True : Got Work → Type 0
    True g = g ≡ map_got (λ (a : Formula). build a w) (true_at text at)

    pub true_1 : ¬ (byte text at ≡ 114) → True (bad at)
    unfolding true_at
    true_1 h = rw (ne_eqb (byte text at) 114 h)

    pub true_2 : byte text at ≡ 114 → ¬ (byte text (at + 1) ≡ 117) → True (bad (at + 1))
    unfolding true_at
    true_2 e h = rw (e, ne_eqb (byte text (at + 1)) 117 h)

    pub true_3 : byte text at ≡ 114 → byte text (at + 1) ≡ 117 → ¬ (byte text (at + 2) ≡ 101) → True (bad (at + 2))
    unfolding true_at
    true_3 e f h = rw (e, f, ne_eqb (byte text (at + 2)) 101 h)

    pub true_4 : byte text at ≡ 114 → byte text (at + 1) ≡ 117 → byte text (at + 2) ≡ 101 → True (ok (put code_true w) (at + 3))
    unfolding true_at build
    true_4 e f h = rw (e, f, h)

    -- the first i of the bytes after `t` are those of `true`
    abbrev pub TrueTo : ℕ → Type 0
    TrueTo i = (1 ≤ i → byte text at ≡ 114) × (2 ≤ i → byte text (at + 1) ≡ 117) × (3 ≤ i → byte text (at + 2) ≡ 101)

    pub true_on : (i : ℕ) → i < 3 → TrueTo i → byte text (at + i) ≡ get_or (114 ∷ 117 ∷ 101 ∷ []) i 0 → TrueTo (i + 1)
    true_on zero l t e = let z : at ≡ at + 0 = omega arith in (λ _. ap (λ (k : ℕ). byte text k) z ∙ e, λ h. absurd (omega arith), λ h. absurd (omega arith))
    true_on (suc zero) l t e = (λ _. t.0 (omega arith), λ _. e, λ h. absurd (omega arith))
    true_on (suc (suc zero)) l t e = (λ _. t.0 (omega arith), λ _. t.1 (omega arith), λ _. e)
    true_on (suc (suc (suc i))) l t e = absurd (omega arith)

    pub true_off : (i : ℕ) → i < 3 → TrueTo i → ¬ (byte text (at + i) ≡ get_or (114 ∷ 117 ∷ 101 ∷ []) i 0) → True (bad (at + i))
    true_off zero l t n = let z : at + 0 ≡ at = omega arith in rw z (true_1 (λ h. n (ap (λ (k : ℕ). byte text k) z ∙ h)))
    true_off (suc zero) l t n = true_2 (t.0 (omega arith)) n
    true_off (suc (suc zero)) l t n = true_3 (t.0 (omega arith)) (t.1 (omega arith)) n
    true_off (suc (suc (suc i))) l t n = absurd (omega arith)

    pub true_all : (i : ℕ) → 3 ≤ i → TrueTo i → True (ok (put code_true w) (at + 3))
    true_all i l t = true_4 (t.0 (omega arith)) (t.1 (omega arith)) (t.2 l)

    abbrev Fact : Got Work → Type 0
    Fact g = g ≡ map_got (λ (a : Formula). build a w) (fact_at text at)

    pub fact_1 : is_digit (byte text at) ≡ false → Fact (bad at)
    unfolding fact_at
    fact_1 h = rw h

    pub fact_2 : is_digit (byte text at) ≡ true → is_pair (byte text at) (byte text (at + 1)) ≡ true → Fact (fact_by ((byte text at - 48) * 10 + (byte text (at + 1) - 48)) (at + 2) w)
    unfolding fact_at build
    fact_2 h k = rw (h, k)

    pub fact_3 : is_digit (byte text at) ≡ true → is_pair (byte text at) (byte text (at + 1)) ≡ false → Fact (fact_by (byte text at - 48) (at + 1) w)
    unfolding fact_at build
    fact_3 h k = rw (h, k)

    abbrev Simple : Got Work → Type 0
    Simple g = g ≡ map_got (λ (a : Formula). build a w) (simple_at text at)

    pub simple_true : byte text at ≡ 116 → (g : Got Work) → g ≡ map_got (λ (a : Formula). build a w) (true_at text (at + 1)) → Simple g
    unfolding simple_at
    simple_true e g h = rw e h

    pub simple_fact : byte text at ≡ 102 → (g : Got Work) → g ≡ map_got (λ (a : Formula). build a w) (fact_at text (at + 1)) → Simple g
    unfolding simple_at
    simple_fact e g h = rw e h

    pub simple_none : ¬ (byte text at ≡ 116) → ¬ (byte text at ≡ 102) → Simple (bad at)
    unfolding simple_at
    simple_none e f = rw (ne_eqb (byte text at) 116 e, ne_eqb (byte text at) 102 f)

  -- steps
  pub step_off : (p : Seen) → ¬ (p.number ≡ 0) → got_of p ≡ stepped_by text (got_of p)
  unfolding stepped_by
  step_off p ne = fails_as p (stepped_by text) ne (λ at. refl) (λ at. refl)

  pub step_back : (p : Seen) (v : Work) → p.number ≡ 0 → byte text p.at ≡ 45 → v ≡ stepped (code_step back) p.work → ok v (p.at + 1) ≡ stepped_by text (got_of p)
  unfolding stepped_by
  step_back p v e h k = rw (got_ok p e, h, k)

  pub step_stay : (p : Seen) (v : Work) → p.number ≡ 0 → byte text p.at ≡ 63 → v ≡ stepped (code_step stay) p.work → ok v (p.at + 1) ≡ stepped_by text (got_of p)
  unfolding stepped_by
  step_stay p v e h k = rw (got_ok p e, h, k)

  pub step_ahead : (p : Seen) (v : Work) → p.number ≡ 0 → ¬ (byte text p.at ≡ 45) → ¬ (byte text p.at ≡ 63) → v ≡ stepped (code_step ahead) p.work → ok v p.at ≡ stepped_by text (got_of p)
  unfolding stepped_by
  step_ahead p v e h l k = rw (got_ok p e, ne_eqb (byte text p.at) 45 h, ne_eqb (byte text p.at) 63 l, k)

  -- stars
  pub stars_off : (p : Seen) → ¬ (p.number ≡ 0) → got_of p ≡ stars_on text (got_of p)
  stars_off p ne = fails_as p (stars_on text) ne (λ at. refl) (λ at. refl)

  pub stars_start : (p : Seen) → p.number ≡ 0 → stars_on text (got_of p) ≡ stars_by text (length text) p.work p.at
  stars_start p e = ap (λ (z : Got Work). stars_on text z) (got_ok p e)

  pub stars_stop : (n : ℕ) (w : Work) (at : ℕ) → ¬ (byte text at ≡ 42) → ok w at ≡ stars_by text n w at
  unfolding stars_by
  stars_stop zero w at h = refl
  stars_stop (suc n) w at h = rw (ne_eqb (byte text at) 42 h)

  pub stars_more : (n : ℕ) (w v : Work) (at : ℕ) (whole : Got Work) → byte text at ≡ 42 → v ≡ put code_many w → length text ≤ at + n → whole ≡ stars_by text n w at
      → (m : ℕ) × (length text ≤ at + 1 + m) × (whole ≡ stars_by text m v (at + 1))
  unfolding stars_by
  stars_more zero w v at whole h e l k = absurd (let z = byte_there text at 42 h (omega arith) in omega arith)
  stars_more (suc n) w v at whole h e l k = (n, omega arith, k ∙ rw h (ap (λ (z : Work). stars_by text n z (at + 1)) (sym e)))

  stars_map : (w : Work) (n : ℕ) (p : Path) (at : ℕ) → map_got (λ (q : Path). build_in q w) (starred_from text n p at) ≡ stars_by text n (build_in p w) at
  unfolding stars_by starred_from build
  stars_map w zero p at = refl
  stars_map w (suc n) p at = go (eqb (byte text at) 42) (stars_map w n (many p) (at + 1))
    where
      go : (b : Bool) → map_got (λ (q : Path). build_in q w) (starred_from text n (many p) (at + 1)) ≡ stars_by text n (put code_many (build_in p w)) (at + 1)
          → map_got (λ (q : Path). build_in q w) (cond b (starred_from text n (many p) (at + 1)) (ok p at)) ≡ cond b (stars_by text n (put code_many (build_in p w)) (at + 1)) (ok (build_in p w) at)
      go true r = r
      go false r = refl

  pub map_starred : (w : Work) (g : Got Path) → map_got (λ (q : Path). build_in q w) (starred text g) ≡ stars_on text (map_got (λ (q : Path). build_in q w) g)
  map_starred w (ok p at) = stars_map w (length text) p at
  map_starred w (bad at) = refl
  map_starred w (deep at) = refl

-- a failure under a change of what is read
pub map_off : (f : Work → Work) (p : Seen) → ¬ (p.number ≡ 0) → got_of p ≡ map_got f (got_of p)
map_off f p ne = fails_as p (map_got f) ne (λ at. refl) (λ at. refl)

pub map_on : (f : Work → Work) (p : Seen) (v : Work) → p.number ≡ 0 → v ≡ f p.work → ok v p.at ≡ map_got f (got_of p)
map_on f p v e k = rw (got_ok p e, k)

pub end_angle : (b : ℕ) → b ≡ 60 → code_some ≡ end_of b
end_angle b e = rw e

pub end_square : (b : ℕ) → ¬ (b ≡ 60) → code_every ≡ end_of b
end_square b e = rw (ne_eqb b 60 e)

-- after an item of a chain
module _ (b c keep x : ℕ) (o a : Bool) (w u v k : Work) where
  pub goes_b : x ≡ b → u ≡ put_if a b w → k ≡ put keep u → goes o true k ≡ followed b c keep x o a w
  unfolding followed
  goes_b h i l = rw (eq-eqb x b h, l, i)

  pub goes_c : ¬ (x ≡ b) → x ≡ c → u ≡ put_if a b w → v ≡ put_if o c u → k ≡ put keep v → goes true false k ≡ followed b c keep x o a w
  unfolding followed
  goes_c h i l m n = rw (ne_eqb x b h, eq-eqb x c i, n, m, l)

  pub stops_here : ¬ (x ≡ b) → ¬ (x ≡ c) → u ≡ put_if a b w → v ≡ put_if o c u → stops v ≡ followed b c keep x o a w
  unfolding followed
  stops_here h i l m = rw (ne_eqb x b h, ne_eqb x c i, m, l)

-- what the outcome of a test that a function answers says of the test
pub yes_is : {r b : Bool} → r ≡ b → not r ≡ false → b ≡ true
yes_is {r} e h = sym e ∙ not-false r h

pub no_is : {r b : Bool} → r ≡ b → not r ≡ true → b ≡ false
no_is {r} e h = sym e ∙ not-true r h

or_is : (a b : Bool) → a || b ≡ true → (a ≡ true) ⊎ (b ≡ true)
or_is true b e = inl refl
or_is false b e = inr e

pub record Digit (b : ℕ) : Type 0 where
  pub low : 48 ≤ b
  pub high : b ≤ 57

pub digit_range : (b : ℕ) → is_digit b ≡ true → Digit b
digit_range b e = record { low = leb-true 48 b (and_left (leb 48 b) (leb b 57) e); high = leb-true b 57 (and_right (leb 48 b) (leb b 57) e) }

pub record Pair (b c : ℕ) : Type 0 where
  pub low : 49 ≤ b
  pub high : b ≤ 51
  pub low₂ : 48 ≤ c
  pub high₂ : c ≤ 57

pub pair_range : (b c : ℕ) → is_pair b c ≡ true → Pair b c
pair_range b c e = go (or_is (leb 49 b && leb b 50) (eqb b 51 && leb c 49) (and_right (is_digit c) ((leb 49 b && leb b 50) || (eqb b 51 && leb c 49)) e))
  where
    d : Digit c
    d = digit_range c (and_left (is_digit c) ((leb 49 b && leb b 50) || (eqb b 51 && leb c 49)) e)

    go : (leb 49 b && leb b 50 ≡ true) ⊎ (eqb b 51 && leb c 49 ≡ true) → Pair b c
    go (inl h) = let l = leb-true 49 b (and_left (leb 49 b) (leb b 50) h) in let m = leb-true b 50 (and_right (leb 49 b) (leb b 50) h) in record { low = l; high = omega arith; low₂ = d.low; high₂ = d.high }
    go (inr h) = let l = eqb-true b 51 (and_left (eqb b 51) (leb c 49) h) in record { low = omega arith; high = omega arith; low₂ = d.low; high₂ = d.high }
