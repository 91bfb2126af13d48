-- The text of a node of a given table, by the letter of its line: two nodes, one node, or none. The nodes named have lower numbers.
use Prim.Native.Nat.{ℕ, ◌<◌}
use mathlib.Core.Path.{◌≡◌, refl, sym, ap, ap₂, subst, ◌∙◌}
use mathlib.Core.Logic.{◌⊎◌, inl, inr}
use mathlib.Core.List.{List, ◌∷◌, ◌++◌}
use native.Mathlib.Omega.{arith}
use Rattle.aldlf.specs.Constants.{letter_n, letter_a, letter_o, letter_d, letter_b}
use Rattle.aldlf.specs.Sheet.{Sheet, Line, N, A, O, D, B, line_of, sheet_of}
use Rattle.aldlf.specs.declared.NodeLine.{NodeLine}
use Rattle.aldlf.specs.declared.Table.{Table}
use Rattle.aldlf.proofs.ByLine.{Known}
use Rattle.sheet.specs.Facts.{node_at, TableFacts}
use Rattle.sheet.proofs.Sound.{names_earlier}
use Rattle.printing.specs.Print.{bracketed, node_text}
use Rattle.printing.specs.Pieces.{leaf_text, prefix_text, operand_of, operator_of}
use Rattle.printing.proofs.Texts.{text_is}
use Rattle.printing.proofs.PieceLaws.{leaf_line, prefix_not, prefix_some, prefix_every, operand_first, operand_second, operator_and, operator_or}

-- the letter of a line that names one node
abbrev pub OneNode : ℕ → Type 0
OneNode kind = (kind ≡ letter_b) ⊎ ((kind ≡ letter_d) ⊎ (kind ≡ letter_n))

-- the table's line of node k is x
module _ (t : Table) (f : TableFacts t) (k : ℕ) (x : NodeLine) (is : x ≡ node_at t k) where
  abbrev S : Sheet
  S = sheet_of t

  line-by : (c : ℕ) → x.kind ≡ c → S.line k ≡ line_of c x.a x.b
  unfolding sheet_of
  line-by c e = ap (λ (y : NodeLine). line_of y.kind y.a y.b) (sym is) ∙ ap (λ (d : ℕ). line_of d x.a x.b) e

  known : (l : Line) → S.line k ≡ l → Known S k l
  known l e = subst (Known S k) e (names_earlier t f k)

  -- a line that names two nodes
  pub two_text : (x.kind ≡ letter_a) ⊎ (x.kind ≡ letter_o) → node_text S k ≡ bracketed (node_text S x.a ++ (operator_of x ∷ node_text S x.b))
  two_text (inl e) =
      text_is S k (A x.a x.b) (line-by letter_a e) (known _ (line-by letter_a e)) ∙ ap (λ (o : ℕ). bracketed (node_text S x.a ++ (o ∷ node_text S x.b))) (operator_and x e)
  two_text (inr e) =
      text_is S k (O x.a x.b) (line-by letter_o e) (known _ (line-by letter_o e))
      ∙ ap (λ (o : ℕ). bracketed (node_text S x.a ++ (o ∷ node_text S x.b))) (operator_or x (λ z. let q : letter_o ≡ letter_a = sym e ∙ z in absurd (omega arith)))

  pub two_lower : (x.kind ≡ letter_a) ⊎ (x.kind ≡ letter_o) → (x.a < k) × (x.b < k)
  two_lower (inl e) = let w = known _ (line-by letter_a e) in (w x.a (inl refl), w x.b (inr refl))
  two_lower (inr e) = let w = known _ (line-by letter_o e) in (w x.a (inl refl), w x.b (inr refl))

  -- a line that names one
  pub one_text : OneNode x.kind → node_text S k ≡ bracketed (prefix_text x ++ node_text S (operand_of x))
  one_text (inr (inr e)) =
      text_is S k (N x.a) (line-by letter_n e) (known _ (line-by letter_n e))
      ∙ ap₂ (λ (p : List ℕ) (a : ℕ). bracketed (p ++ node_text S a)) (prefix_not x e) (operand_first x e)
  one_text (inr (inl e)) =
      let n : ¬ (x.kind ≡ letter_n) = λ z. let q : letter_d ≡ letter_n = sym e ∙ z in absurd (omega arith) in
      text_is S k (D x.a x.b) (line-by letter_d e) (known _ (line-by letter_d e))
      ∙ ap₂ (λ (p : List ℕ) (a : ℕ). bracketed (p ++ node_text S a)) (prefix_some x n e) (operand_second x n)
  one_text (inl e) =
      let n : ¬ (x.kind ≡ letter_n) = λ z. let q : letter_b ≡ letter_n = sym e ∙ z in absurd (omega arith) in
      let d : ¬ (x.kind ≡ letter_d) = λ z. let q : letter_b ≡ letter_d = sym e ∙ z in absurd (omega arith) in
      text_is S k (B x.a x.b) (line-by letter_b e) (known _ (line-by letter_b e))
      ∙ ap₂ (λ (p : List ℕ) (a : ℕ). bracketed (p ++ node_text S a)) (prefix_every x n d) (operand_second x n)

  pub one_lower : OneNode x.kind → operand_of x < k
  one_lower (inr (inr e)) = subst (λ (a : ℕ). a < k) (operand_first x e) (known _ (line-by letter_n e) x.a refl)
  one_lower (inr (inl e)) = subst (λ (a : ℕ). a < k) (operand_second x (λ z. let q : letter_d ≡ letter_n = sym e ∙ z in absurd (omega arith))) (known _ (line-by letter_d e) x.b (inl refl))
  one_lower (inl e) = subst (λ (a : ℕ). a < k) (operand_second x (λ z. let q : letter_b ≡ letter_n = sym e ∙ z in absurd (omega arith))) (known _ (line-by letter_b e) x.b (inl refl))

  -- a line that names none
  pub leaf-text : (¬ (x.kind ≡ letter_a)) × (¬ (x.kind ≡ letter_o)) → ¬ (OneNode x.kind) → node_text S k ≡ leaf_text x
  leaf-text two one =
      let l = line_of x.kind x.a x.b in
      text_is S k l (line-by x.kind refl) (known l (line-by x.kind refl))
      ∙ leaf_line x (node_text S) (λ e. one (inr (inr e))) two.0 two.1 (λ e. one (inr (inl e))) (λ e. one (inl e))
