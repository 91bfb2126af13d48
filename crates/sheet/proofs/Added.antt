-- The table with one line more, by the line's letter.
use Prim.Native.Nat.{ℕ}
use mathlib.Core.Path.{◌≡◌}
use mathlib.Core.Bool.{Bool}
use lib.ListN.{set}
use borrow.Author.Tests.{ne_eqb}
use Rattle.aldlf.specs.Constants.{letter_m, letter_g, letter_e}
use Rattle.aldlf.specs.declared.Table.{Table}
use Rattle.sheet.specs.declared.line.Line.{Line}
use Rattle.sheet.specs.declared.build.Reading.{Reading}
use Rattle.sheet.specs.Questions.{with_node, with_automaton, with_accepting, with_edge, with_line, opens, added}

module _ (t : Table) (l : Line) where
  pub line_M : l.letter ≡ letter_m → with_automaton t l ≡ with_line t l
  unfolding with_line
  line_M e = rw e

  pub line_G : l.letter ≡ letter_g → with_accepting t l ≡ with_line t l
  unfolding with_line
  line_G e = rw e

  pub line_E : l.letter ≡ letter_e → with_edge t l ≡ with_line t l
  unfolding with_line
  line_E e = rw e

  pub line_node : (l.letter ≡ letter_m → ⊥) → (l.letter ≡ letter_g → ⊥) → (l.letter ≡ letter_e → ⊥) → with_node t l ≡ with_line t l
  unfolding with_line
  line_node m g e = rw (ne_eqb l.letter letter_m m, ne_eqb l.letter letter_g g, ne_eqb l.letter letter_e e)

module _ (r : Reading) (k : ℕ) (l : Line) (u : Table) (i : Bool) (hu : u ≡ with_line r.table l) (hi : i ≡ opens l.letter) where
  pub added_M : l.letter ≡ letter_m → record { table = u; inside = i; mlines = set r.mlines r.table.used.automata k } ≡ added r k l
  unfolding added
  added_M e = rw (hu, hi, e)

  pub added_other : (l.letter ≡ letter_m → ⊥) → record { table = u; inside = i; mlines = r.mlines } ≡ added r k l
  unfolding added
  added_other e = rw (hu, hi, ne_eqb l.letter letter_m e)
