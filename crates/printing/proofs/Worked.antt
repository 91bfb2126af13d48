-- Texts worked by hand come out by the definitions alone: W, X, Y and Z, each letter, a node named twice, numbers of two digits, and a spare node that is not printed.
use Prim.Native.Nat.{ℕ}
use mathlib.Core.Path.{◌≡◌, refl}
use mathlib.Core.List.{List, [], ◌∷◌}
use Rattle.aldlf.specs.Jobs.{W, X, Y, Z, spare}
use Rattle.aldlf.specs.Sheet.{A, D, B, sheet_of}
use Rattle.appending.specs.Appending.{digits_of, decimal}
use Rattle.printing.specs.Print.{line_text, texts_below, rule_text}

-- `(<m0>f1)`
w_text : rule_text (sheet_of W) ≡ 40 ∷ 60 ∷ 109 ∷ 48 ∷ 62 ∷ 102 ∷ 49 ∷ 41 ∷ []
unfolding sheet_of texts_below decimal digits_of
w_text = refl

-- `([m0]false)`
x_text : rule_text (sheet_of X) ≡ 40 ∷ 91 ∷ 109 ∷ 48 ∷ 93 ∷ 102 ∷ 97 ∷ 108 ∷ 115 ∷ 101 ∷ 41 ∷ []
unfolding sheet_of texts_below decimal digits_of
x_text = refl

-- `(<m0>true)`
y_text : rule_text (sheet_of Y) ≡ 40 ∷ 60 ∷ 109 ∷ 48 ∷ 62 ∷ 116 ∷ 114 ∷ 117 ∷ 101 ∷ 41 ∷ []
unfolding sheet_of texts_below decimal digits_of
y_text = refl

-- `([m1]((!f2)|(<m0>f1)))`
z_text : rule_text (sheet_of Z) ≡ 40 ∷ 91 ∷ 109 ∷ 49 ∷ 93 ∷ 40 ∷ 40 ∷ 33 ∷ 102 ∷ 50 ∷ 41 ∷ 124 ∷ 40 ∷ 60 ∷ 109 ∷ 48 ∷ 62 ∷ 102 ∷ 49 ∷ 41 ∷ 41 ∷ 41 ∷ []
unfolding sheet_of texts_below decimal digits_of
z_text = refl

-- `(<m0>f1)`: node 2 and automaton 1 are spare
spare_text : rule_text (sheet_of spare) ≡ 40 ∷ 60 ∷ 109 ∷ 48 ∷ 62 ∷ 102 ∷ 49 ∷ 41 ∷ []
unfolding sheet_of texts_below decimal digits_of
spare_text = refl

-- a line over the texts `f31`: `(f31&f31)`, `(<m15>f31)`, `([m9]f31)`
abbrev fact : ℕ → List ℕ
fact k = 102 ∷ 51 ∷ 49 ∷ []

and_text : line_text fact (A 4 4) ≡ 40 ∷ 102 ∷ 51 ∷ 49 ∷ 38 ∷ 102 ∷ 51 ∷ 49 ∷ 41 ∷ []
and_text = refl

some_text : line_text fact (D 15 4) ≡ 40 ∷ 60 ∷ 109 ∷ 49 ∷ 53 ∷ 62 ∷ 102 ∷ 51 ∷ 49 ∷ 41 ∷ []
unfolding decimal digits_of
some_text = refl

every_text : line_text fact (B 9 4) ≡ 40 ∷ 91 ∷ 109 ∷ 57 ∷ 93 ∷ 102 ∷ 51 ∷ 49 ∷ 41 ∷ []
unfolding decimal digits_of
every_text = refl
