-- A text's instructions are at most two for each of its bytes, by induction over the grammar.
use Prim.Native.Nat.{ℕ, suc, ◌+◌, ◌*◌, ◌≤◌}
use mathlib.Core.Path.{◌≡◌}
use mathlib.Core.List.{List, [], ◌∷◌, ◌++◌}
use native.Mathlib.Omega.{arith}
use lib.ListN.{length, length-append}
use Rattle.formula.specs.Formula.{Formula}
use Rattle.formula.specs.Grammar.{Writes}
use Rattle.formula.specs.Code.{code, code_in, code_keep, code_and, code_or, code_apply, code_some, code_every, code_step, code_keep_part, code_seq, code_alt, code_many}
use Rattle.formula.specs.Signs.{sign_or, sign_and, sign_alt, sign_seq, sign_star, sign_back, sign_test, round_close, curly_close, angle_close, square_close}
use Rattle.aldlf.specs.Sheet.{ahead, back, stay}
use Rattle.formula.proofs.Induction.{Claims, alike, Keeps, on_disjunction}

abbrev claims : Claims
claims = alike (λ a u. length (code a) ≤ 2 * length u) (λ p u. length (code_in p) ≤ 2 * length u)

-- one instruction behind; one between and one behind
pub length_one : (xs : List ℕ) (b : ℕ) → length (xs ++ (b ∷ [])) ≡ length xs + 1
length_one xs b = length-append xs (b ∷ [])

pub length_two : (xs ys : List ℕ) (k c : ℕ) → length (xs ++ (k ∷ (ys ++ (c ∷ [])))) ≡ length xs + length ys + 2
length_two xs ys k c = let h = length-append xs (k ∷ (ys ++ (c ∷ []))) in let i = length_one ys c in omega arith

-- what an operator between two texts adds
operator : (xs ys u w : List ℕ) (k c b : ℕ) → length xs ≤ 2 * length u → length ys ≤ 2 * length w → length (xs ++ (k ∷ (ys ++ (c ∷ [])))) ≤ 2 * length (u ++ (b ∷ w))
operator xs ys u w k c b h i = let j = length_two xs ys k c in let l = length-append u (b ∷ w) in omega arith

-- what a path mark adds
mark : (xs ys u w : List ℕ) (k c b : ℕ) → length xs ≤ 2 * length u → length ys ≤ 2 * length w → suc (length (xs ++ (k ∷ (ys ++ (c ∷ []))))) ≤ 2 * suc (length (u ++ (b ∷ w)))
mark xs ys u w k c b h i = let j = length_two xs ys k c in let l = length-append u (b ∷ w) in omega arith

-- what brackets add
around : (xs u v : List ℕ) (n : ℕ) → length xs ≤ 2 * length u → n ≤ length xs + 1 → n ≤ 2 * suc (length (u ++ v))
around xs u v n h l = let i = length-append u v in omega arith

keeps : Keeps claims
keeps =
    record {
      d_first = λ a u h. h;
      d_next = λ a b u w h k. operator (code a) (code b) u w code_keep code_or sign_or h k;
      c_first = λ a u h. h;
      c_next = λ a b u w h k. operator (code a) (code b) u w code_keep code_and sign_and h k;
      atoms = λ a u h. h;
      nots = λ a u h. let i = length_one (code a) code_apply in omega arith;
      somes = λ p a u w h k. mark (code_in p) (code a) u w code_some code_apply angle_close h k;
      everys = λ p a u w h k. mark (code_in p) (code a) u w code_every code_apply square_close h k;
      trues = omega arith;
      facts = λ f l. omega arith;
      groups = λ a u h. around (code a) u (round_close ∷ []) (length (code a)) h (omega arith);
      h_first = λ p u h. h;
      h_next = λ p q u w h k. operator (code_in p) (code_in q) u w code_keep_part code_alt sign_alt h k;
      s_first = λ p u h. h;
      s_next = λ p q u w h k. operator (code_in p) (code_in q) u w code_keep_part code_seq sign_seq h k;
      pieces = λ p u h. h;
      stars = λ p u h. let i = length_one (code_in p) code_many in let l = length-append u (sign_star ∷ []) in omega arith;
      aheads = λ a u h. let i = length_one (code a) (code_step ahead) in around (code a) u (curly_close ∷ []) (length (code a ++ (code_step ahead ∷ []))) h (omega arith);
      backs = λ a u h. let i = length_one (code a) (code_step back) in around (code a) u (curly_close ∷ sign_back ∷ []) (length (code a ++ (code_step back ∷ []))) h (omega arith);
      tests = λ a u h. let i = length_one (code a) (code_step stay) in around (code a) u (curly_close ∷ sign_test ∷ []) (length (code a ++ (code_step stay ∷ []))) h (omega arith);
      brackets = λ p u h. around (code_in p) u (round_close ∷ []) (length (code_in p)) h (omega arith);
    }

pub code_short : (a : Formula) (text : List ℕ) → Writes a text → length (code a) ≤ 2 * length text
code_short a text t = on_disjunction claims keeps t
