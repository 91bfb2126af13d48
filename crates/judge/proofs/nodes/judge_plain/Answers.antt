-- `judge_plain` meets its contract: one entry more at each turn. Assumes nothing.
use Rattle.std.specs.Prelude.{ℕ, ◌+◌, ◌^◌, ◌<◌, ◌≤◌, List, length}
use Rattle.aldlf.proofs.Bools.{count_le}
use Rattle.aldlf.specs.Sheet.{line_of}
use Rattle.judge.proofs.Adds.{added_turn, byte_few, byte_is}
use Rattle.judge.specs.Nodes.{Added, says_now}
use Rattle.reach.proofs.Paired.{pair_room}
use Rattle.reach.specs.Marks.{at, paired, verdict_added}
use mathlib.Core.Path.{◌∙◌, refl, subst, sym}
use native.Mathlib.Omega.{arith}
use Rattle.judge.proofs.nodes.judge_plain.Goals as goal
use Rattle.judge.proofs.nodes.judge_plain.Goals.{In-loop-i}

in_words : (c : In-loop-i) → c.loop-i.i < length (paired c.loop-i.words)
in_words c = let l = c.loop-i in omega (arith, c.requires.number_lt_node_limit.1, l.invariant.1.same, c.loop-i-test.true)

low : (c : In-loop-i) → at (paired c.loop-i.words) c.loop-i.i < 2 ^ c.args.number.0
low c =
    let l = c.loop-i in
    subst (λ (z : ℕ). z < 2 ^ c.args.number.0) (sym (l.invariant.1.rest l.i (omega arith))) (c.requires.number_lt_node_limit.2 l.i (omega (arith, c.requires.number_lt_node_limit.1, c.loop-i-test.true)))

few : (c : In-loop-i) → c.loop-i.held ≤ c.loop-i.i
few c = let l = c.loop-i in subst (λ (z : ℕ). z ≤ l.i) (sym l.invariant.1.counted) (count_le l.i _)

pub put_verdict-requires : goal.put_verdict-requires
put_verdict-requires c = (c.requires.number_lt_node_limit.0, pair_room _ _ (in_words (goal.at.put_verdict-requires c).In-loop-i), low (goal.at.put_verdict-requires c).In-loop-i)

pub overflow_add-held : goal.overflow_add-held
overflow_add-held c = omega (arith, few (goal.at.overflow_add-held c).In-loop-i, c.loop-i-test.true, c.from-held.ensures, byte_few c.plain_line-on.result)

pub loop-i-preserved : goal.loop-i-preserved
loop-i-preserved c =
    let l = c.loop-i in
    let line = c.args.line in
    let k = c.args.number.0 in
    let on = c.plain_line-on.result in
    let W = paired c.args.words.now in (
      c.put_verdict.auto.words ∙ l.invariant.0,
      subst (λ (ws : List ℕ). Added k (λ j. says_now (line_of line.kind line.a line.b) (at c.args.log.now j) (at W j)) (l.i + 1) W ws (l.held + c.from-held.result)) (sym c.put_verdict.ensures)
          (added_turn k (λ (i w : ℕ). says_now (line_of line.kind line.a line.b) (at c.args.log.now i) w) l.i W (paired l.words) on (verdict_added (at (paired l.words) l.i) k on)
          l.held (l.held + c.from-held.result) l.invariant.1 (omega (arith, c.requires.number_lt_node_limit.1, c.loop-i-test.true)) (low (goal.at.loop-i-preserved c).In-loop-i) c.plain_line-on.ensures refl (omega (arith, c.from-held.ensures, byte_is c.plain_line-on.result))),
    )
