-- THE TABLE MADE FROM A FORMULA'S INSTRUCTIONS is the formula's, where it fits a sheet; else a limit is passed.
use Prim.Native.Nat.{ℕ}
use mathlib.Core.Path.{◌≡◌, refl, ap, sym, ◌∙◌}
use mathlib.Core.List.{List, [], append-nil}
use mathlib.Core.Bool.{Bool, true, false, cond}
use mathlib.Core.Logic.{⊎_elim}
use native.Mathlib.Omega.{arith}
use Rattle.sheet.specs.Questions.{with_node, empty_table}
use Rattle.formula.specs.Formula.{Formula}
use Rattle.formula.specs.Numbering.{first_table, table_of}
use Rattle.formula.specs.Outcome.{fits_sheet}
use Rattle.formula.specs.Counts.{Within}
use Rattle.formula.specs.Code.{code}
use Rattle.formula.proofs.Growing.{FactsIn}
use Rattle.formula.proofs.Counts.{fits_iff}
use Rattle.making.specs.Work.{Made, over, live, no_outline}
use Rattle.making.specs.Build.{build}
use Rattle.making.specs.Run.{Bench, bench, run, first_bench, Making, making_of}
use Rattle.making.proofs.Runs.{run-code}
use Rattle.making.proofs.Live.{FitsF, yes}
use Rattle.making.proofs.Limits.{Small, decide}

abbrev first : Made
first = live first_table no_outline

-- what the run makes
ran : (a : Formula) → FactsIn a → (run (code a) first_bench).made ≡ build a first
unfolding run
ran a f =
    ap (λ (ks : List ℕ). (run ks first_bench).made) (sym (append-nil (code a)))
    ∙ ap (λ (b : Bench). b.made) (run-code a f [] first [])
    ∙ made-bench (build a first)
  where
    made-bench : (w : Made) → (bench w []).made ≡ w
    made-bench over = refl
    made-bench (live t o) = refl

-- room in a table with node 0 alone is room on a sheet
fits_first : (a : Formula) → Within a → FitsF a first_table 0
unfolding with_node
fits_first a w = record { nodes = omega (arith, w.nodes); automata = omega (arith, w.automata); edges = omega (arith, w.edges); wide = w.widths }

first_fits : (a : Formula) → FitsF a first_table 0 → Within a
unfolding with_node
first_fits a f = record { nodes = omega (arith, f.nodes); automata = omega (arith, f.automata); edges = omega (arith, f.edges); widths = f.wide }

small_first : Small first_table 0
unfolding with_node
small_first = record { automata = omega arith; edges = omega arith }

-- the two answers
abbrev answer : Formula → Bool → Making
answer a y = cond y (record { fits = true; table = table_of a }) (record { fits = false; table = empty_table })

module _ (a : Formula) where
  fit : FitsF a first_table 0 → making_of (build a first) ≡ answer a true
  unfolding making_of table_of
  fit f = ap making_of (yes a first first_table no_outline refl f)

  unfit : build a first ≡ over → making_of (build a first) ≡ answer a false
  unfolding making_of
  unfit h = ap making_of h

  -- a formula that fits passes no limit
  not_fits : (y : Bool) → fits_sheet a ≡ y → build a first ≡ over → y ≡ false
  not_fits false e h = refl
  not_fits true e h =
      let k = sym h ∙ yes a first first_table no_outline refl (fits_first a ((fits_iff a).0 e)) in
      absurd (let z : ◌≡◌ {A = ℕ} 0 1 = cc in omega arith)

  -- WHAT THE CALLER CITES
  pub made_is : FactsIn a → making_of (run (code a) first_bench).made ≡ cond (fits_sheet a) (record { fits = true; table = table_of a }) (record { fits = false; table = empty_table })
  made_is f =
      ap making_of (ran a f)
      ∙ ⊎_elim
      (λ (g : FitsF a first_table 0). fit g ∙ ap (answer a) (sym ((fits_iff a).1 (first_fits a g))))
      (λ (h : build a first ≡ over). unfit h ∙ ap (answer a) (sym (not_fits (fits_sheet a) refl h)))
      (decide a first first_table no_outline refl small_first)
