-- The answer is the defined one, question by question; accepted, every question got a yes; and by it both buffers end as defined.
use Prim.Native.Nat.{ℕ, zero, suc}
use native.Mathlib.Omega.{arith}
use mathlib.Core.Path.{◌≡◌, refl, sym, ap, ap₂, ◌∙◌}
use mathlib.Core.Bool.{Bool, true, false, cond}
use mathlib.Core.List.{List}
use lib.ListN.{length}
use Rattle.aldlf.specs.Sheet.{Sheet}
use Rattle.batch.specs.Batch.{BatchAnswer}
use Rattle.batch.specs.Batch.{misfit, roomless, about, answer_to, BatchOutcome, batch_ends, verdicts_after, held_after, ends_by, batch_outcome}

pub about_some : (q k : ℕ) (rest : BatchAnswer) → ¬ (k ≡ 0) → record { number = q; log = k } ≡ about q k rest
about_some q zero rest z = absurd (z refl)
about_some q (suc k) rest z = refl

module _ (given : Bool) (words : ℕ) (ns : List ℕ) (verdicts held : ℕ) where
  abbrev chain : Bool → (m r : ℕ) → BatchAnswer
  chain g m r = cond g (about 32 m (about 33 r (record { number = 0; log = 0 }))) (record { number = 31; log = 0 })

  pub no_31 : given ≡ false → record { number = 31; log = 0 } ≡ answer_to given words ns verdicts held
  unfolding answer_to
  no_31 e = sym (ap (λ (g : Bool). chain g (misfit words ns) (roomless verdicts held ns)) e)

  module _ (yes : given ≡ true) (m : ℕ) (is : m ≡ misfit words ns) where
    pub no_32 : ¬ (m ≡ 0) → record { number = 32; log = m } ≡ answer_to given words ns verdicts held
    unfolding answer_to
    no_32 z =
        about_some 32 m (about 33 (roomless verdicts held ns) (record { number = 0; log = 0 })) z
        ∙ ap₂ (λ (g : Bool) (n : ℕ). chain g n (roomless verdicts held ns)) (sym yes) is

    module _ (none : m ≡ 0) (r : ℕ) (room : r ≡ roomless verdicts held ns) where
      pub no_33 : ¬ (r ≡ 0) → record { number = 33; log = r } ≡ answer_to given words ns verdicts held
      unfolding answer_to
      no_33 z =
          about_some 33 r (record { number = 0; log = 0 }) z
          ∙ ap₂ (λ (g : Bool) (n : ℕ). chain g n r) (sym yes) (sym none ∙ is)
          ∙ ap (chain given (misfit words ns)) room

      pub all_yes : r ≡ 0 → record { number = 0; log = 0 } ≡ answer_to given words ns verdicts held
      unfolding answer_to
      all_yes z = ap₂ (λ (g : Bool) (n : ℕ). chain g n 0) (sym yes) (sym none ∙ is) ∙ ap (chain given (misfit words ns)) (sym z ∙ room)

  pub accepted : (answer_to given words ns verdicts held).number ≡ 0 → (given ≡ true) × (misfit words ns ≡ 0) × (roomless verdicts held ns ≡ 0)
  unfolding answer_to
  accepted e = go given (misfit words ns) (roomless verdicts held ns) e
    where
      go : (g : Bool) (m r : ℕ) → (chain g m r).number ≡ 0 → (g ≡ true) × (m ≡ 0) × (r ≡ 0)
      go true zero zero e = (refl, refl, refl)
      go true zero (suc r) e = absurd (omega arith)
      go true (suc m) r e = absurd (omega arith)
      go false m r e = absurd (omega arith)

-- Both buffers --------------------------------------------------------------------------------------------------------------

module _ (given : Bool) (S : Sheet) (words ns verdicts held : List ℕ) (a : BatchAnswer) (is : a ≡ answer_to given (length words) ns (length verdicts) (length held)) where
  abbrev by : BatchAnswer → ℕ → BatchOutcome
  by a q = elim q [ zero ↦ batch_ends a (verdicts_after S words ns verdicts) (held_after S words ns held) | suc q ↦ batch_ends a verdicts held ]

  ends : by a a.number ≡ batch_outcome given S words ns verdicts held
  unfolding batch_outcome
  ends = ap (λ (a : BatchAnswer). ends_by a S words ns verdicts held) is

  pub number_is : (batch_outcome given S words ns verdicts held).number ≡ a.number
  number_is = sym (ap (λ (o : BatchOutcome). o.number) ends) ∙ go a.number
    where
      go : (q : ℕ) → (by a q).number ≡ a.number
      go zero = refl
      go (suc q) = refl

  pub log_is : (batch_outcome given S words ns verdicts held).log ≡ a.log
  log_is = sym (ap (λ (o : BatchOutcome). o.log) ends) ∙ go a.number
    where
      go : (q : ℕ) → (by a q).log ≡ a.log
      go zero = refl
      go (suc q) = refl

  pub ends_refused : ¬ (a.number ≡ 0) → batch_ends a verdicts held ≡ batch_outcome given S words ns verdicts held
  ends_refused z = go a.number z ∙ ends
    where
      go : (q : ℕ) → ¬ (q ≡ 0) → batch_ends a verdicts held ≡ by a q
      go zero z = absurd (z refl)
      go (suc q) z = refl

  pub ends_judged : a.number ≡ 0 → (v h : List ℕ) → v ≡ verdicts_after S words ns verdicts → h ≡ held_after S words ns held → batch_ends a v h ≡ batch_outcome given S words ns verdicts held
  ends_judged z v h e f = ap₂ (batch_ends a) e f ∙ sym (ap (by a) z) ∙ ends
