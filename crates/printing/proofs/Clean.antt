-- No text of a node has an LF or a space: its bytes are letters, digits and marks. Byte by byte over the pieces.
use Prim.Native.Nat.{ℕ, zero, suc, ◌/◌, ◌%◌, ◌≤◌, ◌<◌}
use mathlib.Core.Path.{◌≡◌}
use mathlib.Core.Bool.{Bool, true, false, cond}
use mathlib.Core.List.{List, [], ◌∷◌, ◌++◌}
use native.Mathlib.Omega.{arith}
use lib.Dec.{eqb, ltb}
use lib.ListN.{length, get_or}
use Rattle.aldlf.specs.Sheet.{Sheet, Line, T, F, P, N, A, O, D, B}
use Rattle.appending.specs.Appending.{digit, digits_of, decimal}
use Rattle.printing.specs.Print.{bracketed, marked, line_text, texts_below, node_text}
use Rattle.printing.specs.Right.{Clean}

-- each byte is none of the two
abbrev Free : ℕ → List ℕ → Type 0
Free b text = (i : ℕ) → i < length text → ¬ (get_or text i 0 ≡ b)

free_cons : (b c : ℕ) (text : List ℕ) → ¬ (c ≡ b) → Free b text → Free b (c ∷ text)
free_cons b c text n f zero l = n
free_cons b c text n f (suc i) l = f i (omega arith)

free_append : (b : ℕ) (x y : List ℕ) → Free b x → Free b y → Free b (x ++ y)
free_append b [] y f g i l = g i l
free_append b (c ∷ x) y f g zero l = f zero (omega arith)
free_append b (c ∷ x) y f g (suc i) l = free_append b x y (λ j h. f (suc j) (omega arith)) g i (omega arith)

nil : Clean []
nil = record { no_lf = λ i l. absurd (omega arith); no_space = λ i l. absurd (omega arith) }

cons : {b : ℕ} {text : List ℕ} → 33 ≤ b → Clean text → Clean (b ∷ text)
cons {b} {text} h c = record { no_lf = free_cons 10 b text (λ e. omega (arith, e)) c.no_lf; no_space = free_cons 32 b text (λ e. omega (arith, e)) c.no_space }

append : {x y : List ℕ} → Clean x → Clean y → Clean (x ++ y)
append {x} {y} c d = record { no_lf = free_append 10 x y c.no_lf d.no_lf; no_space = free_append 32 x y c.no_space d.no_space }

-- one byte
byte : {b : ℕ} → 33 ≤ b → Clean (b ∷ [])
byte h = cons h nil

clean_digits : (most n : ℕ) → Clean (digits_of most n)
unfolding digits_of
clean_digits zero n = nil
clean_digits (suc most) n = go (ltb n 10) (clean_digits most (n / 10))
  where
    go : (b : Bool) → Clean (digits_of most (n / 10)) → Clean (cond b (digit n ∷ []) (digits_of most (n / 10) ++ (digit (n % 10) ∷ [])))
    go true c = byte (omega arith)
    go false c = append c (byte (omega arith))

clean_decimal : (n : ℕ) → Clean (decimal n)
unfolding decimal
clean_decimal n = clean_digits (suc n) n

clean_marked : {left right : ℕ} (m : ℕ) → 33 ≤ left → 33 ≤ right → Clean (marked left m right)
clean_marked m l r = cons l (cons (omega arith) (append (clean_decimal m) (byte r)))

clean_bracketed : {text : List ℕ} → Clean text → Clean (bracketed text)
clean_bracketed c = cons (omega arith) (append c (byte (omega arith)))

-- a line's text, of clean texts
clean_line : (of : ℕ → List ℕ) → ((k : ℕ) → Clean (of k)) → (l : Line) → Clean (line_text of l)
clean_line of c T = cons (omega arith) (cons (omega arith) (cons (omega arith) (byte (omega arith))))
clean_line of c F = cons (omega arith) (cons (omega arith) (cons (omega arith) (cons (omega arith) (byte (omega arith)))))
clean_line of c (P f) = cons (omega arith) (clean_decimal f)
clean_line of c (N a) = clean_bracketed (cons (omega arith) (c _))
clean_line of c (A a b) = clean_bracketed (append (c _) (cons (omega arith) (c _)))
clean_line of c (O a b) = clean_bracketed (append (c _) (cons (omega arith) (c _)))
clean_line of c (D m a) = clean_bracketed (append (clean_marked m (omega arith) (omega arith)) (c _))
clean_line of c (B m a) = clean_bracketed (append (clean_marked m (omega arith) (omega arith)) (c _))

clean_below : (S : Sheet) (n k : ℕ) → Clean (texts_below S n k)
unfolding texts_below
clean_below S zero k = nil
clean_below S (suc n) k = go (eqb k n) (λ j. clean_below S n j)
  where
    go : (b : Bool) → ((j : ℕ) → Clean (texts_below S n j)) → Clean (elim b [ true ↦ line_text (texts_below S n) (S.line n) | false ↦ texts_below S n k ])
    go true c = clean_line (texts_below S n) c (S.line n)
    go false c = c k

-- NO TEXT OF A NODE HAS AN LF OR A SPACE
pub text_clean : (S : Sheet) (k : ℕ) → Clean (node_text S k)
text_clean S k = clean_below S (suc k) k
