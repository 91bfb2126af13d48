-- `first_misfit` meets its contract: what is found from log k on is what is found in the whole list. Assumes nothing.
use Prim.Native.Nat.{ℕ}
use native.Mathlib.Omega.{arith}
use mathlib.Core.Path.{◌≡◌, sym, subst, ◌∙◌}
use mathlib.Core.Bool.{true, false}
use lib.ListN.{get_or}
use Rattle.batch.specs.Batch.{first_log, fits}
use Rattle.batch.proofs.Firsts.{Fits, fits_yes, first_more, first_stop, first_end, total_next, total_all, misfit_log, misfit_left, misfit_none}
use Rattle.batch.proofs.questions.first_misfit.Goals as goal
use Rattle.batch.proofs.questions.first_misfit.Goals.{After-loop-k, Else-not-fits_here}

-- log k fits
there : (c : Else-not-fits_here) → let l = c.loop-k in let a = c.args in fits a.words l.k l.at (get_or a.lengths.now l.k 0) ≡ true
there c = subst (λ (n : ℕ). fits c.args.words c.loop-k.k c.loop-k.at n ≡ true) c.from-n.ensures (sym c.fits_here.ensures ∙ c.if-not-fits_here.false)

within : (c : Else-not-fits_here) → let l = c.loop-k in let a = c.args in Fits a.words l.k l.at (get_or a.lengths.now l.k 0)
within c = fits_yes _ _ _ _ (there c)

pub returns-then-not-fits_here-clause-found : goal.returns-then-not-fits_here-clause-found
returns-then-not-fits_here-clause-found c =
    let l = c.loop-k in
    let a = c.args in
    let no = subst (λ (n : ℕ). fits a.words l.k l.at n ≡ false) c.from-n.ensures (sym c.fits_here.ensures ∙ c.if-not-fits_here.true) in
    misfit_log a.words a.lengths.now l.k (l.invariant.2 ∙ first_stop (fits a.words) a.lengths.now l.k l.at c.loop-k-test.true no)

pub overflow_add-at : goal.overflow_add-at
overflow_add-at c = omega (arith, (within (goal.at.overflow_add-at c).Else-not-fits_here).there, c.ranges.words, c.from-n.ensures)

pub loop-k-preserved : goal.loop-k-preserved
loop-k-preserved c =
    let l = c.loop-k in
    let a = c.args in
    let more = c.loop-k-test.true in
    let here = (goal.at.loop-k-preserved c).Else-not-fits_here in
    rw c.from-n.ensures ((within here).there, omega (arith, l.invariant.1, total_next a.lengths.now l.k more), l.invariant.2 ∙ first_more (fits a.words) a.lengths.now l.k l.at more (there here))

-- every log of the list fits
all_fit : (c : After-loop-k) → let a = c.args in first_log (fits a.words) 0 0 a.lengths.now ≡ 0
all_fit c =
    let l = c.loop-k in
    let a = c.args in
    l.invariant.2 ∙ first_end (fits a.words) a.lengths.now l.k l.at c.loop-k-test.false

pub returns-then-at-words-clause-found : goal.returns-then-at-words-clause-found
returns-then-at-words-clause-found c =
    let l = c.loop-k in
    let a = c.args in
    misfit_left a.words a.lengths.now (all_fit (goal.at.returns-then-at-words-clause-found c).After-loop-k) (omega (arith, c.if-at-words.true, l.invariant.1, total_all a.lengths.now l.k c.loop-k-test.false))

pub returns-clause-found : goal.returns-clause-found
returns-clause-found c =
    let l = c.loop-k in
    let a = c.args in
    misfit_none a.words a.lengths.now (all_fit (goal.at.returns-clause-found c).After-loop-k) (omega (arith, l.invariant.1, total_all a.lengths.now l.k c.loop-k-test.false))
