-- Marks open in a text: a text of the grammar leaves as many open as there were before it, by induction over the grammar; and how many are open within texts that are put together.
use Prim.Native.Nat.{ℕ, zero, suc, ◌+◌, ◌-◌, ◌/◌, ◌%◌, ◌≤◌, ◌<◌}
use native.Mathlib.Omega.{arith}
use mathlib.Core.Path.{◌≡◌, refl, ap, sym, subst, ◌∙◌}
use mathlib.Core.List.{List, [], ◌∷◌, ◌++◌}
use mathlib.Core.Logic.{◌⊎◌, inl, inr}
use lib.ListN.{length, take}
use borrow.Author.Tests.{ne_eqb}
use Rattle.aldlf.specs.Constants.{fact_limit}
use Rattle.sheet.proofs.Bools.{split}
use Rattle.appending.specs.Appending.{decimal}
use Rattle.appending.proofs.Decimals.{decimal_one, decimal_two}
use Rattle.formula.specs.Signs.{sign_not, sign_and, sign_or, sign_seq, sign_alt, sign_star, sign_back, sign_test, round_open, round_close, curly_open, curly_close, angle_open, angle_close, square_open, square_close, sign_fact, word_true}
use Rattle.formula.specs.Formula.{Formula, Path}
use Rattle.formula.specs.Grammar.{Disjunction, Conjunction, Choice, Sequence, Starred, now_open, open_after}
use Rattle.formula.proofs.Induction.{Claims, alike, Keeps, on_disjunction, on_conjunction, on_choice, on_sequence, on_starred}

-- fewer than n marks are open before the text, after it, and after each byte of it
unfoldable pub Under : ℕ → List ℕ → ℕ → Type 0
Under n [] k = k < n
Under n (b ∷ u) k = (k < n) × Under n u (now_open b k)

-- the same but for the text's end
unfoldable pub UnderBefore : ℕ → List ℕ → ℕ → Type 0
UnderBefore n [] k = Unit {0}
UnderBefore n (b ∷ u) k = (k < n) × UnderBefore n u (now_open b k)

-- the text leaves as many marks open as there were
abbrev pub Level : List ℕ → Type 0
Level u = (k : ℕ) → open_after u k ≡ k

-- wherever k are open before it, fewer than k + n are open in it
abbrev pub Low : ℕ → List ℕ → Type 0
Low n u = (k : ℕ) → Under (k + n) u k

-- a byte that is no mark, one that opens, one that closes
abbrev pub Quiet : ℕ → Type 0
Quiet b = (k : ℕ) → now_open b k ≡ k

abbrev pub Opens : ℕ → Type 0
Opens b = (k : ℕ) → now_open b k ≡ suc k

abbrev pub Closes : ℕ → Type 0
Closes b = (k : ℕ) → now_open b (suc k) ≡ k

pub open_append : (u w : List ℕ) (k : ℕ) → open_after (u ++ w) k ≡ open_after w (open_after u k)
unfolding open_after
open_append [] w k = refl
open_append (b ∷ u) w k = open_append u w _

pub open_cons : (b : ℕ) (u : List ℕ) (k : ℕ) → open_after (b ∷ u) k ≡ open_after u (now_open b k)
unfolding open_after
open_cons b u k = refl

under_head : (n : ℕ) (u : List ℕ) (k : ℕ) → Under n u k → k < n
unfolding Under
under_head n [] k h = h
under_head n (b ∷ u) k h = h.0

under_cons : (n b : ℕ) (u : List ℕ) (k : ℕ) → k < n → Under n u (now_open b k) → Under n (b ∷ u) k
unfolding Under
under_cons n b u k h q = (h, q)

under_append : (n : ℕ) (u w : List ℕ) (k : ℕ) → Under n u k → Under n w (open_after u k) → Under n (u ++ w) k
unfolding Under open_after
under_append n [] w k p q = q
under_append n (b ∷ u) w k p q = (p.0, under_append n u w (now_open b k) p.1 q)

before_append : (n : ℕ) (u w : List ℕ) (k : ℕ) → Under n u k → UnderBefore n w (open_after u k) → UnderBefore n (u ++ w) k
unfolding Under UnderBefore open_after
before_append n [] w k p q = q
before_append n (b ∷ u) w k p q = (p.0, before_append n u w (now_open b k) p.1 q)

-- what Under says of each beginning
pub under_take : (n : ℕ) (u : List ℕ) (k m : ℕ) → Under n u k → m ≤ length u → open_after (take m u) k < n
unfolding Under open_after
under_take n [] k zero h l = h
under_take n [] k (suc m) h l = h
under_take n (b ∷ u) k zero h l = h.0
under_take n (b ∷ u) k (suc m) h l = under_take n u (now_open b k) m h.1 (omega arith)

pub before_take : (n : ℕ) (u : List ℕ) (k m : ℕ) → UnderBefore n u k → m < length u → open_after (take m u) k < n
unfolding UnderBefore open_after
before_take n [] k m h l = absurd (omega arith)
before_take n (b ∷ u) k zero h l = h.0
before_take n (b ∷ u) k (suc m) h l = before_take n u (now_open b k) m h.1 (omega arith)

pub low_none : (n : ℕ) → Low (suc n) []
unfolding Under
low_none n k = omega arith

pub low_append : (n : ℕ) (u w : List ℕ) → Low n u → Level u → Low n w → Low n (u ++ w)
low_append n u w p l q k = under_append (k + n) u w k (p k) (subst (λ (z : ℕ). Under (k + n) w z) (sym (l k)) (q k))

pub before_behind : (n : ℕ) (u w : List ℕ) → Low n u → Level u → ((k : ℕ) → UnderBefore (k + n) w k) → (k : ℕ) → UnderBefore (k + n) (u ++ w) k
before_behind n u w p l q k = before_append (k + n) u w k (p k) (subst (λ (z : ℕ). UnderBefore (k + n) w z) (sym (l k)) (q k))

pub low_quiet : (n b : ℕ) (u : List ℕ) → Quiet b → Low (suc n) u → Low (suc n) (b ∷ u)
low_quiet n b u e p k = under_cons (k + suc n) b u k (omega arith) (subst (λ (z : ℕ). Under (k + suc n) u z) (sym (e k)) (p k))

-- an opening mark and what stands behind it
pub low_opens : (n o : ℕ) (u : List ℕ) → Opens o → Low n u → Low (suc n) (o ∷ u)
low_opens n o u up p k =
    under_cons (k + suc n) o u k (omega arith)
    (subst (λ (z : ℕ). Under (k + suc n) u z) (sym (up k)) (subst (λ (z : ℕ). Under z u (suc k)) (let q : suc k + n ≡ k + suc n = omega arith in q) (p (suc k))))

pub before_opens : (n o : ℕ) (u : List ℕ) → Opens o → ((k : ℕ) → UnderBefore (k + n) u k) → (k : ℕ) → UnderBefore (k + suc n) (o ∷ u) k
unfolding UnderBefore
before_opens n o u up p k =
    (omega arith, subst (λ (z : ℕ). UnderBefore (k + suc n) u z) (sym (up k)) (subst (λ (z : ℕ). UnderBefore z u (suc k)) (let q : suc k + n ≡ k + suc n = omega arith in q) (p (suc k))))

-- a mark opened and closed
pub low_marked : (n o b : ℕ) (u : List ℕ) → Opens o → Closes b → Level u → Low n u → Low (suc n) (o ∷ (u ++ (b ∷ [])))
unfolding Under
low_marked n o b u up down lev p k =
    let h = under_head (suc k + n) u (suc k) (p (suc k)) in
    under_cons (k + suc n) o (u ++ (b ∷ [])) k (omega arith)
    (subst (λ (z : ℕ). Under (k + suc n) (u ++ (b ∷ [])) z) (sym (up k))
    (under_append (k + suc n) u (b ∷ []) (suc k) (subst (λ (z : ℕ). Under z u (suc k)) (let q : suc k + n ≡ k + suc n = omega arith in q) (p (suc k)))
    (subst (λ (z : ℕ). Under (k + suc n) (b ∷ []) z) (sym (lev (suc k))) (omega arith, subst (λ (z : ℕ). z < k + suc n) (sym (down k)) (omega arith)))))

pub level_none : Level []
unfolding open_after
level_none k = refl

pub level_append : (u w : List ℕ) → Level u → Level w → Level (u ++ w)
level_append u w p q k = open_append u w k ∙ ap (λ (z : ℕ). open_after w z) (p k) ∙ q k

pub level_quiet : (b : ℕ) (u : List ℕ) → Quiet b → Level u → Level (b ∷ u)
level_quiet b u e p k = open_cons b u k ∙ ap (λ (z : ℕ). open_after u z) (e k) ∙ p k

pub level_marked : (o b : ℕ) (u w : List ℕ) → Opens o → Closes b → Level u → Level w → Level (o ∷ (u ++ (b ∷ w)))
level_marked o b u w up down p q k =
    open_cons o (u ++ (b ∷ w)) k ∙ ap (λ (z : ℕ). open_after (u ++ (b ∷ w)) z) (up k) ∙ open_append u (b ∷ w) (suc k) ∙ ap (λ (z : ℕ). open_after (b ∷ w) z) (p (suc k))
    ∙ open_cons b w (suc k) ∙ ap (λ (z : ℕ). open_after w z) (down k) ∙ q k

-- digits are no marks
pub quiet_digit : (b : ℕ) → 48 ≤ b → b ≤ 57 → Quiet b
quiet_digit b l h k =
    rw (ne_eqb b round_open (λ e. omega arith), ne_eqb b curly_open (λ e. omega arith), ne_eqb b angle_open (λ e. omega arith), ne_eqb b square_open (λ e. omega arith), ne_eqb b round_close (λ e. omega arith), ne_eqb b curly_close (λ e. omega arith), ne_eqb b angle_close (λ e. omega arith), ne_eqb b square_close (λ e. omega arith)) refl

pub down : (k : ℕ) → suc k - 1 ≡ k
down k = omega arith

level_digits : (f : ℕ) → f < fact_limit → Level (decimal f)
level_digits f l = cases (split 10 f)
  where
    cases : (10 ≤ f) ⊎ (f < 10) → Level (decimal f)
    cases (inr h) = subst Level (sym (decimal_one f h)) (level_quiet (48 + f) [] (quiet_digit (48 + f) (omega arith) (omega arith)) level_none)
    cases (inl h) =
        subst Level (sym (decimal_two f h (omega arith)))
        (level_quiet (48 + f / 10) ((48 + f % 10) ∷ []) (quiet_digit (48 + f / 10) (omega arith) (omega arith))
        (level_quiet (48 + f % 10) [] (quiet_digit (48 + f % 10) (omega arith) (omega arith)) level_none))

level_true : Level word_true
unfolding open_after
level_true k = refl

-- every text of the grammar leaves as many marks open as there were
abbrev claims : Claims
claims = alike (λ a u. Level u) (λ p u. Level u)

keeps : Keeps claims
keeps =
    record {
      d_first = λ a u h. h;
      d_next = λ a b u w h t. level_append u (sign_or ∷ w) h (level_quiet sign_or w (λ k. refl) t);
      c_first = λ a u h. h;
      c_next = λ a b u w h t. level_append u (sign_and ∷ w) h (level_quiet sign_and w (λ k. refl) t);
      atoms = λ a u h. h;
      nots = λ a u h. level_quiet sign_not u (λ k. refl) h;
      somes = λ p a u w h t. level_marked angle_open angle_close u w (λ k. refl) down h t;
      everys = λ p a u w h t. level_marked square_open square_close u w (λ k. refl) down h t;
      trues = level_true;
      facts = λ f l. level_quiet sign_fact (decimal f) (λ k. refl) (level_digits f l);
      groups = λ a u h. level_marked round_open round_close u [] (λ k. refl) down h level_none;
      h_first = λ p u h. h;
      h_next = λ p q u w h t. level_append u (sign_alt ∷ w) h (level_quiet sign_alt w (λ k. refl) t);
      s_first = λ p u h. h;
      s_next = λ p q u w h t. level_append u (sign_seq ∷ w) h (level_quiet sign_seq w (λ k. refl) t);
      pieces = λ p u h. h;
      stars = λ p u h. level_append u (sign_star ∷ []) h (level_quiet sign_star [] (λ k. refl) level_none);
      aheads = λ a u h. level_marked curly_open curly_close u [] (λ k. refl) down h level_none;
      backs = λ a u h. level_marked curly_open curly_close u (sign_back ∷ []) (λ k. refl) down h (level_quiet sign_back [] (λ k. refl) level_none);
      tests = λ a u h. level_marked curly_open curly_close u (sign_test ∷ []) (λ k. refl) down h (level_quiet sign_test [] (λ k. refl) level_none);
      brackets = λ p u h. level_marked round_open round_close u [] (λ k. refl) down h level_none;
    }

pub d_level : (a : Formula) (u : List ℕ) → Disjunction a u → Level u
d_level a u t = on_disjunction claims keeps t

pub c_level : (a : Formula) (u : List ℕ) → Conjunction a u → Level u
c_level a u t = on_conjunction claims keeps t

pub h_level : (p : Path) (u : List ℕ) → Choice p u → Level u
h_level p u t = on_choice claims keeps t

pub s_level : (p : Path) (u : List ℕ) → Sequence p u → Level u
s_level p u t = on_sequence claims keeps t

pub r_level : (p : Path) (u : List ℕ) → Starred p u → Level u
r_level p u t = on_starred claims keeps t
