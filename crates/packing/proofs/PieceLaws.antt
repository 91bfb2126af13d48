-- What was packed comes out as it went in: no field reaches into the next.
use Prim.Native.Nat.{ℕ, ◌+◌, ◌*◌, ◌/◌, ◌%◌, ◌<◌}
use native.Mathlib.Omega.{arith}
use mathlib.Core.Path.{◌≡◌, ap, ◌∙◌}
use Rattle.aldlf.specs.declared.Edge.{Edge}
use Rattle.aldlf.specs.declared.NodeLine.{NodeLine}
use Rattle.aldlf.specs.declared.Automaton.{Automaton}
use Rattle.packing.specs.Numbers.{edge_in, line_in, automaton_in}

-- four bytes of one number
module _ (a b c d : ℕ) (la : a < 256) (lb : b < 256) (lc : c < 256) (ld : d < 256) where
  abbrev four : ℕ
  four = a + 256 * b + 65536 * c + 16777216 * d

  first : four % 256 ≡ a
  first = omega arith

  second : four / 256 % 256 ≡ b
  second = omega arith

  third : four / 65536 % 256 ≡ c
  third = omega arith

  fourth : four / 16777216 % 256 ≡ d
  fourth = omega arith

  abbrev edge : (a b c d : ℕ) → Edge
  edge a b c d = record { from = record { 0 = a }; dir = b; test = record { 0 = c }; to = record { 0 = d } }

  pub edge_back : edge_in (a + 256 * b + 65536 * c + 16777216 * d) ≡ record { from = record { 0 = a }; dir = b; test = record { 0 = c }; to = record { 0 = d } }
  edge_back =
      ap (λ (x : ℕ). edge x (four / 256 % 256) (four / 65536 % 256) (four / 16777216 % 256)) first
      ∙ ap (λ (x : ℕ). edge a x (four / 65536 % 256) (four / 16777216 % 256)) second
      ∙ ap (λ (x : ℕ). edge a b x (four / 16777216 % 256)) third
      ∙ ap (λ (x : ℕ). edge a b c x) fourth

-- three bytes of one number
module _ (a b c : ℕ) (la : a < 256) (lb : b < 256) (lc : c < 256) where
  abbrev three : ℕ
  three = a + 256 * b + 65536 * c

  low : three % 256 ≡ a
  low = omega arith

  middle : three / 256 % 256 ≡ b
  middle = omega arith

  high : three / 65536 % 256 ≡ c
  high = omega arith

  abbrev line : (a b c : ℕ) → NodeLine
  line a b c = record { kind = a; a = b; b = c }

  pub line_back : line_in (a + 256 * b + 65536 * c) ≡ record { kind = a; a = b; b = c }
  line_back =
      ap (λ (x : ℕ). line x (three / 256 % 256) (three / 65536 % 256)) low
      ∙ ap (λ (x : ℕ). line a x (three / 65536 % 256)) middle
      ∙ ap (λ (x : ℕ). line a b x) high

-- an automaton's three numbers
module _ (q s w f c b : ℕ) (lq : q < 256) (ls : s < 256) (lw : w < 65536) (lf : f < 65536) (lc : c < 65536) (lb : b < 256) where
  abbrev head : ℕ
  head = q + 256 * s + 65536 * w

  abbrev range : ℕ
  range = f + 65536 * c

  states_is : head % 256 ≡ q
  states_is = omega arith

  start_is : head / 256 % 256 ≡ s
  start_is = omega arith

  accepting_is : head / 65536 % 65536 ≡ w
  accepting_is = omega arith

  first_is : range % 65536 ≡ f
  first_is = omega arith

  count_is : range / 65536 % 65536 ≡ c
  count_is = omega arith

  before_is : b % 256 ≡ b
  before_is = omega arith

  abbrev made : (q s w f c b : ℕ) → Automaton
  made q s w f c b = record { states = q; start = record { 0 = s }; accepting = w; first = f; count = c; before = b }

  pub automaton_back : automaton_in (q + 256 * s + 65536 * w) (f + 65536 * c) b ≡ record { states = q; start = record { 0 = s }; accepting = w; first = f; count = c; before = b }
  automaton_back =
      ap (λ (x : ℕ). made x (head / 256 % 256) (head / 65536 % 65536) (range % 65536) (range / 65536 % 65536) (b % 256)) states_is
      ∙ ap (λ (x : ℕ). made q x (head / 65536 % 65536) (range % 65536) (range / 65536 % 65536) (b % 256)) start_is
      ∙ ap (λ (x : ℕ). made q s x (range % 65536) (range / 65536 % 65536) (b % 256)) accepting_is
      ∙ ap (λ (x : ℕ). made q s w x (range / 65536 % 65536) (b % 256)) first_is
      ∙ ap (λ (x : ℕ). made q s w f x (b % 256)) count_is
      ∙ ap (λ (x : ℕ). made q s w f c x) before_is
