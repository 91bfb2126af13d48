-- `first_without_room` meets its contract: what is found from log k on is what is found in the whole list. Assumes nothing.
use Prim.Native.Nat.{ℕ, ◌+◌, ◌*◌, ◌≤◌}
use native.Mathlib.Omega.{arith}
use mathlib.Core.Path.{◌≡◌, sym, subst, ◌∙◌}
use mathlib.Core.Bool.{true, false}
use lib.ListN.{get_or}
use Rattle.batch.specs.Batch.{has_room}
use Rattle.batch.proofs.Firsts.{room_yes, first_more, first_stop, first_end}
use Rattle.batch.proofs.questions.first_without_room.Goals as goal
use Rattle.batch.proofs.questions.first_without_room.Goals.{Else-not-room_here}

-- log k has its room
has : (c : Else-not-room_here) → let l = c.loop-k in let a = c.args in has_room a.verdicts a.held l.k l.at (get_or a.lengths.now l.k 0) ≡ true
has c = subst (λ (n : ℕ). has_room c.args.verdicts c.args.held c.loop-k.k c.loop-k.at n ≡ true) c.from-n.ensures (sym c.room_here.ensures ∙ c.if-not-room_here.false)

within : (c : Else-not-room_here) → let l = c.loop-k in let a = c.args in 2 * (l.at + get_or a.lengths.now l.k 0) ≤ a.verdicts
within c =
    let l = c.loop-k in
    let a = c.args in
    (room_yes a.verdicts a.held l.k l.at (get_or a.lengths.now l.k 0) (has c) l.invariant.0).0

pub returns-then-not-room_here-clause-found : goal.returns-then-not-room_here-clause-found
returns-then-not-room_here-clause-found c =
    let l = c.loop-k in
    let a = c.args in
    let no = subst (λ (n : ℕ). has_room a.verdicts a.held l.k l.at n ≡ false) c.from-n.ensures (sym c.room_here.ensures ∙ c.if-not-room_here.true) in
    sym (l.invariant.1 ∙ first_stop (has_room a.verdicts a.held) a.lengths.now l.k l.at c.loop-k-test.true no)

pub overflow_add-at : goal.overflow_add-at
overflow_add-at c = omega (arith, within (goal.at.overflow_add-at c).Else-not-room_here, c.ranges.verdicts, c.from-n.ensures)

pub loop-k-preserved : goal.loop-k-preserved
loop-k-preserved c =
    let l = c.loop-k in
    let a = c.args in
    let here = (goal.at.loop-k-preserved c).Else-not-room_here in
    rw c.from-n.ensures (within here, l.invariant.1 ∙ first_more (has_room a.verdicts a.held) a.lengths.now l.k l.at c.loop-k-test.true (has here))

pub returns-clause-found : goal.returns-clause-found
returns-clause-found c =
    let l = c.loop-k in
    let a = c.args in
    sym (l.invariant.1 ∙ first_end (has_room a.verdicts a.held) a.lengths.now l.k l.at c.loop-k-test.false)
