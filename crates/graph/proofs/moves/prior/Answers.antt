-- `prior` meets its contract, test by test. Assumes nothing.
use Prim.Native.Nat.{ℕ, ◌+◌, ◌*◌, ◌/◌, ◌<◌}
use mathlib.Core.Path.{◌≡◌, refl, sym, ap, ◌∙◌}
use lib.ListN.{length}
use Rattle.reach.specs.Marks.{paired}
use Rattle.reach.proofs.Paired.{length-paired, reads}
use Rattle.graph.specs.Configurations.{entry_before}
use Rattle.graph.proofs.Priors.{config_fits, off_log, test_fails, test_holds}
use Rattle.graph.proofs.Steps.{config_inside}
use native.Mathlib.Omega.{arith}
use Rattle.graph.proofs.moves.prior.Goals as goal
use Rattle.graph.proofs.moves.prior.Goals.{Start}

-- the count of entries in the code's words and in the contract's
abbrev entries : Start → ℕ
entries S = length (paired S.args.words.now)

left : (S : Start) (i : ℕ) → i ≡ entry_before S.args.e.dir S.args.j.0 (length S.args.words.now / 2) → i ≡ entry_before S.args.e.dir S.args.j.0 (entries S)
left S i e = e ∙ ap (entry_before S.args.e.dir S.args.j.0) (sym (length-paired S.args.words.now))

inside : (S : Start) (i : ℕ) → i < length S.args.words.now / 2 → i < entries S
inside S i l = omega (arith, length-paired S.args.words.now)

-- the configuration's number
fits : (S : Start) (i : ℕ) → i < length S.args.words.now / 2 → i * S.args.states + S.args.e.from.0 < 8192
fits S i l = config_fits i S.args.states S.args.e.from.0 (omega (arith, inside S i l, S.requires.states_le_state_limit.1)) S.requires.states_le_state_limit.0 S.requires.edge_fits.from_fits

pub overflow_cast-words : goal.overflow_cast-words
overflow_cast-words c = omega (arith, c.requires.states_le_state_limit, length-paired c.args.words.now)

pub entry_before-requires : goal.entry_before-requires
entry_before-requires c = (omega (arith, c.requires.states_le_state_limit.2, length-paired c.args.words.now), omega (arith, c.requires.states_le_state_limit.1, length-paired c.args.words.now))

pub returns-in_err-before : goal.returns-in_err-before
returns-in_err-before c = rw c.from_residual.ensures (off_log _ _ _ _ _ refl _ (left (goal.at.returns-in_err-before c).Start _ c.in_err-before.ensures.0) refl, tt)

pub returns-then-not-verdict : goal.returns-then-not-verdict
returns-then-not-verdict c =
    let b = c.in_ok-before in (
      test_fails _ _ _ _ _ refl _ (left (goal.at.returns-then-not-verdict c).Start _ b.ensures.0) (λ f. omega (arith, inside (goal.at.returns-then-not-verdict c).Start _ b.ensures.1, c.requires.states_le_state_limit.1))
          (sym (c.verdict.ensures ∙ reads c.args.words.now b.before.0 c.args.e.test.0 (inside (goal.at.returns-then-not-verdict c).Start _ b.ensures.1) c.requires.edge_fits.test_fits) ∙ c.if-not-verdict.true),
      tt,
    )

pub overflow_mul-result : goal.overflow_mul-result
overflow_mul-result c = let f = fits (goal.at.overflow_mul-result c).Start c.in_ok-before.before.0 c.in_ok-before.ensures.1 in omega arith

pub overflow_add-result : goal.overflow_add-result
overflow_add-result c = let f = fits (goal.at.overflow_add-result c).Start c.in_ok-before.before.0 c.in_ok-before.ensures.1 in omega arith

pub returns : goal.returns
returns c =
    let S = (goal.at.returns c).Start in
    let b = c.in_ok-before in
    let l = inside S _ b.ensures.1 in (
      test_holds _ _ _ _ _ refl _ (left S _ b.ensures.0) (λ f. omega (arith, l, c.requires.states_le_state_limit.1))
          (sym (c.verdict.ensures ∙ reads c.args.words.now b.before.0 c.args.e.test.0 l c.requires.edge_fits.test_fits) ∙ c.if-not-verdict.false),
      config_inside b.before.0 c.args.states c.args.e.from.0 (entries S) l c.requires.edge_fits.from_fits,
    )
