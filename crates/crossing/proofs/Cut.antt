-- Pieces cut to their fields: packed, they come out as they were cut, and what fits is not changed by the cut.
use Prim.Native.Nat.{ℕ, zero, suc, ◌+◌, ◌*◌, ◌%◌, ◌<◌}
use mathlib.Core.Path.{◌≡◌, refl, ◌∙◌}
use mathlib.Core.Bool.{Bool, true, false, ◌&&◌}
use mathlib.Core.List.{List}
use native.Mathlib.Omega.{arith}
use native.Mathlib.Nat.{mod-eq_of_lt}
use lib.ListN.{length, set}
use borrow.Author.Tests.{ltb-true, eq-eqb, ne_eqb}
use Rattle.aldlf.specs.Constants.{node_limit, automaton_limit, edge_limit}
use Rattle.aldlf.specs.declared.NodeLine.{NodeLine}
use Rattle.aldlf.specs.declared.Automaton.{Automaton}
use Rattle.aldlf.specs.declared.Edge.{Edge}
use Rattle.aldlf.specs.declared.Used.{Used}
use Rattle.aldlf.proofs.Bools.{and_left, and_right}
use Rattle.packing.specs.Numbers.{counts_place, places, edge_in, line_in, automaton_in}
use Rattle.packing.specs.Packed.{Packed, UsedPut}
use Rattle.packing.proofs.PieceLaws.{edge_back, line_back, automaton_back}
use Rattle.packing.proofs.PlaceLaws.{used_put}
use Rattle.sheet.specs.Questions.{empty_table}
use Rattle.crossing.specs.Numbers.{line_size, automaton_size, edge_size, automata_place, edges_place, used_place, table_size, line_at, automaton_at, edge_at, used_at, listed, lines_in, automata_in, edges_in, is_byte, line_fits, automaton_fits, edge_fits, used_fits, all_of, table_fits, fields_in, table_of}
use Rattle.crossing.specs.Steps.{line_cut, automaton_cut, edge_cut, used_cut, cut_in}

-- r is the low byte of x
abbrev Low : ℕ → ℕ → Type 0
Low x r = (r ≡ x % 256) × (r < 256)

-- four bytes as one number
pub edge_byte_back : (a b c d p q r s : ℕ) → (p ≡ a) × (p < 256) → (q ≡ b) × (q < 256) → (r ≡ c) × (r < 256) → (s ≡ d) × (s < 256)
    → edge_in (p + 256 * q + 65536 * r + 16777216 * s) ≡ record { from = record { 0 = a }; dir = b; test = record { 0 = c }; to = record { 0 = d } }
edge_byte_back a b c d p q r s (ep, lp) (eq, lq) (er, lr) (es, ls) = edge_back p q r s lp lq lr ls ∙ rw (ep, eq, er, es)

-- the numbers of a piece whose bytes were cut
pub line_low : (a b c p q r : ℕ) → Low a p → Low b q → Low c r → line_in (p + 256 * q + 65536 * r) ≡ line_cut (record { kind = a; a = b; b = c })
line_low a b c p q r (ep, lp) (eq, lq) (er, lr) = line_back p q r lp lq lr ∙ rw (ep, eq, er)

pub automaton_low : (a b w f n z h r y : ℕ) → (h ≡ a % 256 + 256 * (b % 256) + 65536 * w) × (w < 65536) → (r ≡ f + 65536 * n) × (f < 65536) × (n < 65536) → Low z y
    → automaton_in h r y ≡ automaton_cut (record { states = a; start = record { 0 = b }; accepting = w; first = f; count = n; before = z })
automaton_low a b w f n z h r y (eh, lw) (er, lf, ln) (ey, ly) = rw (eh, er, ey) (automaton_back (a % 256) (b % 256) w f n (z % 256) (omega arith) (omega arith) lw lf ln (omega arith))

-- the counts at their places
pub used_low : (n a e p q r : ℕ) (before : List ℕ) → length before ≡ places → Low n p → Low a q → (r ≡ e) × (r < 65536)
    → UsedPut (used_cut (record { nodes = n; automata = a; edges = e })) before (set (set (set before counts_place p) (counts_place + 1) q) (counts_place + 2) r)
used_low n a e p q r before size (ep, lp) (eq, lq) (er, lr) =
    rw (ep, eq, er) (used_put (used_cut (record { nodes = n; automata = a; edges = e })) before size (omega arith) (omega arith) (omega arith))

-- pieces that pass are as they were before the cut
cut_all : (X : Type 0) (fits : X → Bool) (cut : X → X) (keeps : (x : X) → fits x ≡ true → cut x ≡ x) (n : ℕ) (f : ℕ → X) → all_of fits (listed n f) ≡ true → listed n (λ i. cut (f i)) ≡ listed n f
unfolding listed all_of
cut_all X fits cut keeps zero f h = refl
cut_all X fits cut keeps (suc n) f h =
    let rest = listed n (λ i. f (suc i)) in
    let a : cut (f zero) ≡ f zero = keeps (f zero) (and_left (fits (f zero)) (all_of fits rest) h) in
    let b : listed n (λ i. cut (f (suc i))) ≡ rest = cut_all X fits cut keeps n (λ i. f (suc i)) (and_right (fits (f zero)) (all_of fits rest) h) in
    cc

byte_kept : (x : ℕ) → is_byte x ≡ true → x % 256 ≡ x
byte_kept x h = mod-eq_of_lt (ltb-true x 256 h)

three_kept : (a b c : ℕ) → is_byte a && is_byte b && is_byte c ≡ true → (a % 256 ≡ a) × ((b % 256 ≡ b) × (c % 256 ≡ c))
three_kept a b c h =
    let two = and_left (is_byte a && is_byte b) (is_byte c) h in
    (byte_kept a (and_left (is_byte a) (is_byte b) two), (byte_kept b (and_right (is_byte a) (is_byte b) two), byte_kept c (and_right (is_byte a && is_byte b) (is_byte c) h)))

line_kept : (x : NodeLine) → line_fits x ≡ true → line_cut x ≡ x
line_kept x h = let (a, (b, c)) = three_kept x.kind x.a x.b h in rw (a, b, c)

automaton_kept : (x : Automaton) → automaton_fits x ≡ true → automaton_cut x ≡ x
automaton_kept x h = let (a, (b, c)) = three_kept x.states x.start.0 x.before h in rw (a, b, c)

edge_kept : (e : Edge) → edge_fits e ≡ true → edge_cut e ≡ e
edge_kept e h =
    let three : Bool = is_byte e.from.0 && is_byte e.dir && is_byte e.test.0 in
    let (a, (b, c)) = three_kept e.from.0 e.dir e.test.0 (and_left three (is_byte e.to.0) h) in
    let d = byte_kept e.to.0 (and_right three (is_byte e.to.0) h) in
    rw (a, b, c, d)

used_kept : (u : Used) → used_fits u ≡ true → used_cut u ≡ u
used_kept u h =
    let a = byte_kept u.nodes (and_left (is_byte u.nodes) (is_byte u.automata) h) in
    let b = byte_kept u.automata (and_right (is_byte u.nodes) (is_byte u.automata) h) in
    rw (a, b)

-- the table that numbers give
module _ (xs : List ℕ) where
  pub lent_short : (numbers : List ℕ) → (length xs ≡ table_size → ⊥) → Packed empty_table numbers → Packed (table_of xs) numbers
  unfolding table_of
  lent_short numbers h = rw (ne_eqb (length xs) table_size h) (λ P. P)

  pub lent_refused : (numbers : List ℕ) → length xs ≡ table_size → table_fits (fields_in xs) ≡ false → Packed empty_table numbers → Packed (table_of xs) numbers
  unfolding table_of
  lent_refused numbers size n = rw (eq-eqb (length xs) table_size size, n) (λ P. P)

  cut_is : table_fits (fields_in xs) ≡ true → cut_in xs ≡ fields_in xs
  unfolding table_fits
  cut_is t =
      let p = all_of line_fits (lines_in xs) in
      let q = all_of automaton_fits (automata_in xs) in
      let r = all_of edge_fits (edges_in xs) in
      let s = used_fits (used_at xs used_place) in
      let pqr = and_left (p && q && r) s t in
      let pq = and_left (p && q) r pqr in
      let f = cut_all NodeLine line_fits line_cut line_kept node_limit (λ k. line_at xs (line_size * k)) (and_left p q pq) in
      let g = cut_all Automaton automaton_fits automaton_cut automaton_kept automaton_limit (λ m. automaton_at xs (automata_place + automaton_size * m)) (and_right p q pq) in
      let h = cut_all Edge edge_fits edge_cut edge_kept edge_limit (λ e. edge_at xs (edges_place + edge_size * e)) (and_right (p && q) r pqr) in
      let i = used_kept (used_at xs used_place) (and_right (p && q && r) s t) in
      rw (f, g, h, i)

  pub lent_whole : (numbers : List ℕ) → length xs ≡ table_size → table_fits (fields_in xs) ≡ true → Packed (cut_in xs) numbers → Packed (table_of xs) numbers
  unfolding table_of
  lent_whole numbers size t = rw (eq-eqb (length xs) table_size size, t, ← cut_is t) (λ P. P)

  pub fields_fit : (p q r s : Bool) → p ≡ all_of line_fits (lines_in xs) → q ≡ all_of automaton_fits (automata_in xs) → r ≡ all_of edge_fits (edges_in xs) → s ≡ used_fits (used_at xs used_place)
      → p && q && r && s ≡ table_fits (fields_in xs)
  unfolding table_fits
  fields_fit p q r s x y z w = rw (x, y, z, w)
