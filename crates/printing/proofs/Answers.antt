-- What printing answers, by its two questions.
use Prim.Native.Nat.{ℕ, ◌-◌}
use mathlib.Core.Path.{◌≡◌, refl, sym, ap, ◌∙◌}
use mathlib.Core.Bool.{Bool, true, false}
use mathlib.Core.List.{List}
use borrow.Author.Tests.{leb-true, leb-false}
use lib.Dec.{leb}
use lib.ListN.{length}
use Rattle.aldlf.specs.Sheet.{Sheet, sheet_of}
use Rattle.aldlf.specs.declared.Table.{Table}
use Rattle.appending.specs.Appending.{Appends}
use Rattle.appending.specs.Placed.{unprinted, placed}
use Rattle.appending.proofs.Storing.{appends_same, appends_whole}
use Rattle.appending.proofs.Placed.{placed_stored, placed_refused}
use Rattle.printing.specs.Print.{node_text, rule_text, print_outcome}

module _ (given : Bool) (S : Sheet) (lent : List ℕ) where
  -- no sheet gives the table
  pub print_no : given ≡ false → print_outcome given S lent ≡ unprinted 31 lent
  unfolding print_outcome
  print_no e = rw e refl

  pub print_yes : given ≡ true → print_outcome given S lent ≡ placed 55 (rule_text S) lent
  unfolding print_outcome
  print_yes e = rw e refl

  -- the text does not fit
  pub print_short : given ≡ true → leb (length (rule_text S)) (length lent) ≡ false → unprinted 55 lent ≡ print_outcome given S lent
  print_short e s = sym (print_yes e ∙ placed_refused 55 (rule_text S) lent (leb-false (length (rule_text S)) (length lent) s))

  -- it was appended from the first place on
  pub print_whole : (after : List ℕ) (n : ℕ) → given ≡ true → leb (length (rule_text S)) (length lent) ≡ true → Appends (rule_text S) lent 0 after n
      → record { number = 0; count = n; buffer = after } ≡ print_outcome given S lent
  print_whole after n e s x =
      placed_stored 55 (rule_text S) lent after n (leb-true (length (rule_text S)) (length lent) s) (appends_whole (rule_text S) lent after n x) ∙ sym (print_yes e)

-- the rule is the last node
pub rule_at : (t : Table) {b₀ b₁ : List ℕ} {a₀ a₁ : ℕ} (n : ℕ) → n ≡ t.used.nodes → Appends (node_text (sheet_of t) (n - 1)) b₀ a₀ b₁ a₁ → Appends (rule_text (sheet_of t)) b₀ a₀ b₁ a₁
unfolding sheet_of
rule_at t n e x = appends_same (ap (λ (k : ℕ). node_text (sheet_of t) (k - 1)) e) x
