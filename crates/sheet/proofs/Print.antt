-- A text for each list of lines that a sheet can have: what is printed reads back, and is short.
use Prim.Native.Nat.{ℕ, zero, suc, ◌+◌, ◌*◌, ◌/◌, ◌%◌, ◌≤◌, ◌<◌}
use mathlib.Core.Path.{◌≡◌, refl, ap, ◌∙◌}
use mathlib.Core.List.{List, [], ◌∷◌, ◌++◌, map, append-nil}
use mathlib.Core.Bool.{Bool, true, cond, ◌&&◌}
use native.Mathlib.Omega.{arith}
use lib.ListN.{length, take, length-append, length-take}
use lib.Dec.{eqb, ltb, leb}
use borrow.Author.Tests.{ne_eqb, lt-ltb, leb-true, eqb-true}
use Rattle.text.specs.Text.{not_number, comma, lf, lines, fields, up_to, ends_in_lf, number, number_in, all_digits, value_of}
use Rattle.text.proofs.Pieces.{pieces_last}
use Rattle.text.proofs.Joined.{pieces_cut, lines_cut, free_append, ends_append}
use Rattle.sheet.specs.declared.line.Line.{Line}
use Rattle.sheet.specs.Questions.{parsed, each}
use Rattle.sheet.specs.Given.{bytes}
use Rattle.sheet.proofs.Bools.{both}
use Rattle.sheet.proofs.Each.{each_at}
use Rattle.sheet.proofs.Passed.{Absent}

pub digits_of : ℕ → List ℕ
digits_of n = cond (ltb n 10) ((48 + n) ∷ []) (cond (ltb n 100) ((48 + n / 10) ∷ (48 + n % 10) ∷ []) ((48 + n / 100) ∷ (48 + n / 10 % 10) ∷ (48 + n % 10) ∷ []))

good : ℕ → Bool
good n =
    eqb (number (digits_of n)) n
    && (eqb (up_to comma (digits_of n)) (length (digits_of n))
    && (eqb (up_to lf (digits_of n)) (length (digits_of n))
    && (leb (length (digits_of n)) 3
    && bytes (digits_of n))))

all_good : each good not_number ≡ true
unfolding each good digits_of number number_in all_digits value_of up_to bytes
all_good = refl

-- of the digits of a number below 1000: they read back, have no separator, are at most three, and are bytes
module _ (n : ℕ) (h : n < not_number) where
  reads : Bool
  reads = eqb (number (digits_of n)) n

  one_field : Bool
  one_field = eqb (up_to comma (digits_of n)) (length (digits_of n))

  one_line : Bool
  one_line = eqb (up_to lf (digits_of n)) (length (digits_of n))

  few : Bool
  few = leb (length (digits_of n)) 3

  byte : Bool
  byte = bytes (digits_of n)

  good_all : (reads && (one_field && (one_line && (few && byte)))) ≡ true
  unfolding good reads one_field one_line few byte
  good_all = each_at good not_number n all_good h

  rest₁ : (one_field && (one_line && (few && byte))) ≡ true
  rest₁ = (both reads (one_field && (one_line && (few && byte))) good_all).1

  rest₂ : (one_line && (few && byte)) ≡ true
  rest₂ = (both one_field (one_line && (few && byte)) rest₁).1

  rest₃ : (few && byte) ≡ true
  rest₃ = (both one_line (few && byte) rest₂).1

  pub digits_read : number (digits_of n) ≡ n
  unfolding reads
  digits_read = eqb-true _ n (both reads (one_field && (one_line && (few && byte))) good_all).0

  pub digits_comma : up_to comma (digits_of n) ≡ length (digits_of n)
  unfolding one_field
  digits_comma = eqb-true _ _ (both one_field (one_line && (few && byte)) rest₁).0

  pub digits_lf : up_to lf (digits_of n) ≡ length (digits_of n)
  unfolding one_line
  digits_lf = eqb-true _ _ (both one_line (few && byte) rest₂).0

  pub digits_short : length (digits_of n) ≤ 3
  unfolding few
  digits_short = leb-true _ 3 (both few byte rest₃).0

  pub digits_bytes : bytes (digits_of n) ≡ true
  unfolding byte
  digits_bytes = (both few byte rest₃).1

pub tail : List ℕ → List ℕ
tail [] = []
tail (n ∷ ns) = comma ∷ (digits_of n ++ tail ns)

pub data All< : List ℕ → Type 0 where
  none : All< []
  more : {n : ℕ} {ns : List ℕ} → n < not_number → All< ns → All< (n ∷ ns)

pub fields_print : (p : List ℕ) {ns : List ℕ} → up_to comma p ≡ length p → All< ns → fields (p ++ tail ns) ≡ p ∷ map digits_of ns
unfolding tail
fields_print p e none = rw (append-nil p) (pieces_last comma p e)
fields_print p e (more {n = n} {ns = ns} h hs) = pieces_cut comma p (digits_of n ++ tail ns) e ∙ ap (λ (x : List (List ℕ)). p ∷ x) (fields_print (digits_of n) (digits_comma n h) hs)

pub tail-lf : {ns : List ℕ} → All< ns → up_to lf (tail ns) ≡ length (tail ns)
unfolding tail up_to
tail-lf none = refl
tail-lf (more {n = n} {ns = ns} h hs) = ap suc (free_append lf (digits_of n) (tail ns) (digits_lf n h) (tail-lf hs))

pub tail_short : {ns : List ℕ} → All< ns → length (tail ns) ≤ 4 * length ns
unfolding tail
tail_short none = omega arith
tail_short (more {n = n} {ns = ns} h hs) = omega (arith, length-append (digits_of n) (tail ns), digits_short n h, tail_short hs)

bytes-append : (p q : List ℕ) → bytes p ≡ true → bytes q ≡ true → bytes (p ++ q) ≡ true
unfolding bytes
bytes-append [] q e f = f
bytes-append (b ∷ p) q e f =
    let x = both (ltb b 256) (bytes p) e in
    rw x.0 (bytes-append p q x.1 f)

pub tail-bytes : {ns : List ℕ} → All< ns → bytes (tail ns) ≡ true
unfolding tail bytes
tail-bytes none = refl
tail-bytes (more {n = n} {ns = ns} h hs) = bytes-append (digits_of n) (tail ns) (digits_bytes n h) (tail-bytes hs)

-- lines that a sheet can have
pub record Canon (l : Line) : Type 0 where
  pub shape : Absent l
  pub four : l.count ≤ 4
  pub a< : l.a < not_number
  pub b< : l.b < not_number
  pub c< : l.c < not_number
  pub d< : l.d < not_number
  pub parted : l.letter ≡ comma → ⊥
  pub ended : l.letter ≡ lf → ⊥
  pub byte : l.letter < 256

pub numbers_of : Line → List ℕ
numbers_of l = take l.count (l.a ∷ l.b ∷ l.c ∷ l.d ∷ [])

pub print_line : Line → List ℕ
print_line l = l.letter ∷ tail (numbers_of l)

numbers_small : (n a b c d : ℕ) → a < not_number → b < not_number → c < not_number → d < not_number → All< (take n (a ∷ b ∷ c ∷ d ∷ []))
numbers_small zero a b c d ha hb hc hd = none
numbers_small (suc zero) a b c d ha hb hc hd = more ha none
numbers_small (suc (suc zero)) a b c d ha hb hc hd = more ha (more hb none)
numbers_small (suc (suc (suc zero))) a b c d ha hb hc hd = more ha (more hb (more hc none))
numbers_small (suc (suc (suc (suc zero)))) a b c d ha hb hc hd = more ha (more hb (more hc (more hd none)))
numbers_small (suc (suc (suc (suc (suc n))))) a b c d ha hb hc hd = more ha (more hb (more hc (more hd none)))

back : (x n a b c d : ℕ) → n ≤ 4 → a < not_number → b < not_number → c < not_number → d < not_number → (n ≤ 0 → a ≡ 0) → (n ≤ 1 → b ≡ 0) → (n ≤ 2 → c ≡ 0) → (n ≤ 3 → d ≡ 0)
    → parsed ((x ∷ []) ∷ map digits_of (take n (a ∷ b ∷ c ∷ d ∷ []))) ≡ record { letter = x; count = n; a = a; b = b; c = c; d = d }
unfolding parsed
back x zero a b c d w ha hb hc hd za zb zc zd = rw (za (omega arith), zb (omega arith), zc (omega arith), zd (omega arith))
back x (suc zero) a b c d w ha hb hc hd za zb zc zd = rw (digits_read a ha, zb (omega arith), zc (omega arith), zd (omega arith))
back x (suc (suc zero)) a b c d w ha hb hc hd za zb zc zd = rw (digits_read a ha, digits_read b hb, zc (omega arith), zd (omega arith))
back x (suc (suc (suc zero))) a b c d w ha hb hc hd za zb zc zd = rw (digits_read a ha, digits_read b hb, digits_read c hc, zd (omega arith))
back x (suc (suc (suc (suc zero)))) a b c d w ha hb hc hd za zb zc zd = rw (digits_read a ha, digits_read b hb, digits_read c hc, digits_read d hd)
back x (suc (suc (suc (suc (suc n))))) a b c d w ha hb hc hd za zb zc zd = absurd (omega arith)

one_free : (sep x : ℕ) → (x ≡ sep → ⊥) → up_to sep (x ∷ []) ≡ 1
unfolding up_to
one_free sep x f = rw (ne_eqb x sep f)

module _ (l : Line) (k : Canon l) where
  small : All< (numbers_of l)
  unfolding numbers_of
  small = numbers_small l.count l.a l.b l.c l.d k.a< k.b< k.c< k.d<

  pub print_reads : parsed (fields (print_line l)) ≡ l
  unfolding print_line numbers_of
  print_reads =
      ap parsed (fields_print (l.letter ∷ []) (one_free comma l.letter k.parted) small)
      ∙ back l.letter l.count l.a l.b l.c l.d k.four k.a< k.b< k.c< k.d< k.shape.a0 k.shape.b0 k.shape.c0 k.shape.d0

  pub print_lf : up_to lf (print_line l) ≡ length (print_line l)
  unfolding print_line
  print_lf = free_append lf (l.letter ∷ []) (tail (numbers_of l)) (one_free lf l.letter k.ended) (tail-lf small)

  pub print_short : length (print_line l) ≤ 17
  unfolding print_line numbers_of
  print_short = omega (arith, tail_short small, length-take l.count (l.a ∷ l.b ∷ l.c ∷ l.d ∷ []))

  pub print_bytes : bytes (print_line l) ≡ true
  unfolding print_line bytes
  print_bytes = rw (lt-ltb l.letter 256 k.byte) (tail-bytes small)

-- a text of lines
pub text_of : List Line → List ℕ
text_of [] = []
text_of (l ∷ ls) = print_line l ++ lf ∷ text_of ls

pub data Canons : List Line → Type 0 where
  none : Canons []
  more : {l : Line} {ls : List Line} → Canon l → Canons ls → Canons (l ∷ ls)

pub text_lines : {ls : List Line} → Canons ls → lines (text_of ls) ≡ map print_line ls
unfolding text_of lines
text_lines none = refl
text_lines (more {l = l} {ls = ls} k ks) = lines_cut (print_line l) (text_of ls) (print_lf l k) ∙ ap (λ (x : List (List ℕ)). print_line l ∷ x) (text_lines ks)

pub text_short : {ls : List Line} → Canons ls → length (text_of ls) ≤ 18 * length ls
unfolding text_of
text_short none = omega arith
text_short (more {l = l} {ls = ls} k ks) = omega (arith, length-append (print_line l) (10 ∷ text_of ls), print_short l k, text_short ks)

ends_cons : (b : ℕ) (q : List ℕ) → ends_in_lf q ≡ true → ends_in_lf (b ∷ q) ≡ true
ends_cons b [] e = absurd (let y : ◌≡◌ {A = ℕ} 0 1 = cc in omega arith)
ends_cons b (x ∷ xs) e = ends_append (b ∷ []) x xs e

pub text_ends : {ls : List Line} → Canons ls → 1 ≤ length ls → ends_in_lf (text_of ls) ≡ true
unfolding text_of
text_ends none h = absurd (omega arith)
text_ends (more {l = l} k none) h = ends_append (print_line l) lf [] refl
text_ends (more {l = l} k (more {l = m} {ls = ms} j js)) h = ends_append (print_line l) lf (print_line m ++ lf ∷ text_of ms) (ends_cons lf (print_line m ++ lf ∷ text_of ms) (text_ends (more j js) (omega arith)))

pub text_bytes : {ls : List Line} → Canons ls → bytes (text_of ls) ≡ true
unfolding text_of bytes
text_bytes none = refl
text_bytes (more {l = l} {ls = ls} k ks) = bytes-append (print_line l) (lf ∷ text_of ls) (print_bytes l k) (text_bytes ks)
