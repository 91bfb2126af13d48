-- `arrival` meets its contract, test by test. Assumes nothing.
use Prim.Native.Nat.{ℕ, ◌<◌}
use Rattle.std.proofs.Common.{IfSome}
use mathlib.Core.Path.{◌≡◌, sym, subst, ap₂, ◌∙◌}
use mathlib.Core.Bool.{Bool}
use native.Mathlib.Omega.{arith}
use Rattle.aldlf.specs.Sheet.{bit}
use Rattle.aldlf.specs.Outcomes.{verdict_at}
use Rattle.reach.specs.Marks.{paired}
use Rattle.reach.proofs.Paired.{length-paired, pair_room, reads}
use Rattle.graph.specs.Graph.{at}
use Rattle.graph.specs.Configurations.{entry_before}
use Rattle.graph.proofs.Steps.{test_off, test_on}
use Rattle.graph.proofs.moves.arrival.Goals as goal
use Rattle.graph.proofs.moves.arrival.Goals.{Start}

-- the verdict that is read is that of the entry's number
read : (S : Start) (b : Bool) → b ≡ verdict_at S.args.words.now S.args.i.0 S.args.e.test.0 → b ≡ bit (at (paired S.args.words.now) S.args.i.0) S.args.e.test.0
read S b e = e ∙ reads S.args.words.now S.args.i.0 S.args.e.test.0 S.requires.3 S.requires.0

pub verdict-requires : goal.verdict-requires
verdict-requires c = (c.requires.0, pair_room c.args.words.now c.args.i.0 c.requires.3)

pub returns-then-not-verdict : goal.returns-then-not-verdict
returns-then-not-verdict c =
    (sym (test_off (paired c.args.words.now) c.args.e c.args.i.0 (sym (read (goal.at.returns-then-not-verdict c).Start _ c.verdict.ensures) ∙ c.if-not-verdict.true)), tt)

pub overflow_cast-words : goal.overflow_cast-words
overflow_cast-words c = omega (arith, c.requires.2, length-paired c.args.words.now)

pub entry_before-requires : goal.entry_before-requires
entry_before-requires c = (omega (arith, c.requires.3, length-paired c.args.words.now), omega (arith, c.requires.2, length-paired c.args.words.now))

pub returns : goal.returns
returns c =
    let W = paired c.args.words.now in
    let i = c.args.i.0 in (
      c.entry_before.ensures.0
          ∙ ap₂ (λ (d n : ℕ). entry_before d i n) c.turned.ensures (sym (length-paired c.args.words.now))
          ∙ sym (test_on W c.args.e i (sym (read (goal.at.returns c).Start _ c.verdict.ensures) ∙ c.if-not-verdict.false)),
      subst (λ (n : ℕ). IfSome c.entry_before.result (λ j. j.0 < n)) (sym (length-paired c.args.words.now)) c.entry_before.ensures.1,
    )
