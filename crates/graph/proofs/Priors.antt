-- The configuration before another by an edge: what `prior` finds at each of its tests.
use mathlib.Core.Path.{◌≡◌, ap, sym, ◌∙◌}
use mathlib.Core.List.{List}
use mathlib.Core.Bool.{true, false}
use Prim.Native.Nat.{ℕ, suc, ◌+◌, ◌*◌, ◌≤◌, ◌<◌}
use native.Mathlib.Nat.{mul-le-mul, suc-mul}
use native.Mathlib.Omega.{arith}
use borrow.Author.Tests.{eq-eqb, ne_eqb}
use lib.ListN.{length}
use Rattle.aldlf.specs.Sheet.{bit}
use Rattle.aldlf.specs.declared.Edge.{Edge}
use Rattle.graph.specs.Graph.{far, at}
use Rattle.graph.specs.Configurations.{entry_before, leaving, prior_of}

-- a configuration's number is below 8192
pub config_fits : (i states s : ℕ) → i < 512 → states ≤ 16 → s < states → i * states + s < 8192
config_fits i states s li ls l = let m = mul-le-mul {n₁ = suc i} {m₁ = states} {n₂ = 512} {m₂ = 16} li ls in let e = suc-mul i states in omega arith

module _ (words : List ℕ) (e : Edge) (states s j : ℕ) where
  pub other_state : (e.to.0 ≡ s → ⊥) → far ≡ prior_of words e states s j
  unfolding prior_of
  other_state ne = rw (ne_eqb e.to.0 s ne)

  module _ (to : e.to.0 ≡ s) (i : ℕ) (from : i ≡ entry_before e.dir j (length words)) where
    by : prior_of words e states s j ≡ leaving words e states i
    unfolding prior_of
    by = rw (eq-eqb e.to.0 s to) (ap (leaving words e states) (sym from))

    pub off_log : i ≡ far → far ≡ prior_of words e states s j
    off_log f = sym (by ∙ rw (eq-eqb i far f))

    pub test_fails : (i ≡ far → ⊥) → bit (at words i) e.test.0 ≡ false → far ≡ prior_of words e states s j
    test_fails ne b = sym (by ∙ rw (ne_eqb i far ne, b))

    pub test_holds : (i ≡ far → ⊥) → bit (at words i) e.test.0 ≡ true → i * states + e.from.0 ≡ prior_of words e states s j
    test_holds ne b = sym (by ∙ rw (ne_eqb i far ne, b))
