-- The page's definitions in the terms of the code's tests: a sheet as it was read, a walk not shown.
use Prim.Native.Nat.{ℕ}
use mathlib.Core.Path.{◌≡◌, refl}
use mathlib.Core.Logic.{◌⊎◌, inl, inr}
use mathlib.Core.List.{List}
use borrow.Author.Tests.{eq-eqb, ne_eqb}
use Rattle.lines.specs.Lines.{refusal_line, sheet_refusal_line, no_walk_line}
use Rattle.sheet.specs.Answers.{SheetAnswer}
use Rattle.report.specs.Page.{refused_walk, rule_page, sheet_page}
use Rattle.aldlf.specs.Refusals.{refusal_number}
use Rattle.aldlf.specs.declared.Refusal.{Refusal}
use Rattle.aldlf.specs.declared.Refusal.TheVariants.{NoBearer, NotGiven, Entries, Room, OtherWay, NoNode, NoEntry, NotModal, NoWalk, WalkRoom, ProfileRoom, PageRoom, TextRoom}

-- a sheet as read: the line of its refusal, or the page by its table
module _ (a : SheetAnswer) (steps : List ℕ) where
  pub sheet_refused : (a.number ≡ 0 → ⊥) → sheet_page a steps ≡ sheet_refusal_line a.number a.line a.field
  unfolding sheet_page
  sheet_refused z = rw (ne_eqb a.number 0 z)

  pub sheet_read : a.number ≡ 0 → sheet_page a steps ≡ rule_page a.table steps
  unfolding sheet_page
  sheet_read z = rw (eq-eqb a.number 0 z)

-- the line where no walk is shown
pub refused_none : (number : ℕ) → (number ≡ 38) ⊎ (number ≡ 39) → no_walk_line ≡ refused_walk number
unfolding refused_walk
refused_none number (inl e) = rw e
refused_none number (inr e) = rw e

pub refused_other : (r : Refusal) → (r ≡ NotModal → ⊥) → (r ≡ NoWalk → ⊥) → refusal_line (refusal_number r) 0 ≡ refused_walk (refusal_number r)
unfolding refused_walk
refused_other NoBearer a b = refl
refused_other NotGiven a b = refl
refused_other Entries a b = refl
refused_other Room a b = refl
refused_other OtherWay a b = refl
refused_other NoNode a b = refl
refused_other NoEntry a b = refl
refused_other NotModal a b = absurd (a refl)
refused_other NoWalk a b = absurd (b refl)
refused_other WalkRoom a b = refl
refused_other ProfileRoom a b = refl
refused_other PageRoom a b = refl
refused_other TextRoom a b = refl
