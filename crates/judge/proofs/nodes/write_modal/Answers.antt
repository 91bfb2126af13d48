-- `write_modal` meets its contract: one entry more at each turn. Assumes nothing.
use Rattle.std.specs.Prelude.{ℕ, ◌+◌, ◌^◌, ◌<◌, ◌≤◌, List, length}
use Rattle.aldlf.proofs.Bools.{count_le}
use Rattle.aldlf.specs.Sheet.{bit}
use Rattle.aldlf.specs.Verdict.{facing}
use Rattle.judge.proofs.Adds.{added_turn, byte_few, byte_is}
use Rattle.judge.specs.Nodes.{Added}
use Rattle.reach.proofs.Paired.{pair_room}
use Rattle.reach.specs.Marks.{at, paired, verdict_added}
use mathlib.Core.Path.{◌∙◌, refl, ap, subst, sym}
use native.Mathlib.Omega.{arith}
use Rattle.judge.proofs.nodes.write_modal.Goals as goal
use Rattle.judge.proofs.nodes.write_modal.Goals.{In-loop-i}

in_words : (c : In-loop-i) → c.loop-i.i < length (paired c.loop-i.words)
in_words c = let l = c.loop-i in omega (arith, c.requires.2, l.invariant.1.same, c.loop-i-test.true)

low : (c : In-loop-i) → at (paired c.loop-i.words) c.loop-i.i < 2 ^ c.args.job.number.0
low c =
    let l = c.loop-i in
    subst (λ (z : ℕ). z < 2 ^ c.args.job.number.0) (sym (l.invariant.1.rest l.i (omega arith))) (c.requires.3 l.i (omega (arith, c.requires.2, c.loop-i-test.true)))

few : (c : In-loop-i) → c.loop-i.set ≤ c.loop-i.i
few c = let l = c.loop-i in subst (λ (z : ℕ). z ≤ l.i) (sym l.invariant.1.counted) (count_le l.i _)

pub put_verdict-requires : goal.put_verdict-requires
put_verdict-requires c = (c.requires.1, pair_room _ _ (in_words (goal.at.put_verdict-requires c).In-loop-i), low (goal.at.put_verdict-requires c).In-loop-i)

pub overflow_add-set : goal.overflow_add-set
overflow_add-set c = omega (arith, few (goal.at.overflow_add-set c).In-loop-i, c.loop-i-test.true, c.from-set.ensures, byte_few c.facing-on.result)

pub loop-i-preserved : goal.loop-i-preserved
loop-i-preserved c =
    let l = c.loop-i in
    let job = c.args.job in
    let k = job.number.0 in
    let on = c.facing-on.result in
    let W = paired c.args.words.now in (
      c.put_verdict.auto.words ∙ l.invariant.0,
      subst (λ (ws : List ℕ). Added k (λ j. facing c.args.want (bit (at c.args.masks.now j) job.automaton.start.0)) (l.i + 1) W ws (l.set + c.from-set.result)) (sym c.put_verdict.ensures)
          (added_turn k (λ (i w : ℕ). facing c.args.want (bit (at c.args.masks.now i) job.automaton.start.0)) l.i W (paired l.words) on (verdict_added (at (paired l.words) l.i) k on)
          l.set (l.set + c.from-set.result) l.invariant.1 (omega (arith, c.requires.2, c.loop-i-test.true)) (low (goal.at.loop-i-preserved c).In-loop-i)
          (c.facing-on.ensures ∙ ap (facing c.args.want) (c.bit-at_start.ensures ∙ ap (λ (x : ℕ). bit x job.automaton.start.0) c.from.ensures)) refl (omega (arith, c.from-set.ensures, byte_is c.facing-on.result))),
    )
