-- `seed` meets its contract: the goals of the entries below j are marked. Assumes nothing.
use Prim.Native.Nat.{ℕ, suc, ◌+◌, ◌*◌, ◌/◌, ◌≤◌, ◌<◌}
use mathlib.Core.Path.{◌≡◌, refl, sym, ap, subst, ◌∙◌}
use native.Mathlib.Nat.{add-mul, suc-mul, mul-le-mul_right}
use lib.ListN.{length}
use Rattle.aldlf.specs.Sheet.{bit}
use Rattle.reach.specs.Marks.{paired}
use Rattle.reach.proofs.Paired.{length-paired}
use Rattle.shortest.specs.Progress.{Seeded}
use Rattle.shortest.specs.Goals.{goal_at}
use Rattle.shortest.proofs.Goals.{seeded_none, goal-bit}
use native.Mathlib.Omega.{arith}
use Rattle.shortest.proofs.seeds.seed.Goals as goal
use Rattle.shortest.proofs.seeds.seed.Goals.{Start}

-- the states of an entry are configurations
room : (S : Start) (j : ℕ) → j < length S.args.words.now / 2 → j * S.args.q.states + S.args.q.states ≤ length S.args.dist.now
room S j l =
    let m = mul-le-mul_right {m = suc j} {n = length (paired S.args.words.now)} S.args.q.states (omega (arith, length-paired S.args.words.now)) in
    let e = suc-mul j S.args.q.states in
    omega (arith, S.requires.dist_len.0)

pub loop-j-init : goal.loop-j-init
loop-j-init c = (omega arith, refl, refl, seeded_none _ _ _ c.requires.by_index)

pub goals_in-goals-requires : goal.goals_in-goals-requires
goals_in-goals-requires c = (c.requires.states_nonzero.2, omega (arith, c.loop-j-test.true, length-paired c.args.words.now))

pub seed_entry-tail-requires : goal.seed_entry-tail-requires
seed_entry-tail-requires c =
    let l = c.loop-j in
    let b = l.invariant.0 in
    let m = room (goal.at.seed_entry-tail-requires c).Start l.j c.loop-j-test.true in
    (c.requires.states_nonzero.1, omega (arith, l.invariant.1), omega (arith, l.invariant.1, c.requires.dist_len.1), omega (arith, l.invariant.1, l.invariant.2, c.requires.dist_len.2), l.invariant.3.few)

pub overflow_add-base : goal.overflow_add-base
overflow_add-base c = omega (arith, room (goal.at.overflow_add-base c).Start c.loop-j.j c.loop-j-test.true, c.loop-j.invariant.0, c.requires.dist_len.1)

pub loop-j-preserved : goal.loop-j-preserved
loop-j-preserved c =
    let a = c.args in
    let W = paired a.words.now in
    let l = c.loop-j in
    let r = c.seed_entry-tail in (
      omega (arith, l.invariant.0, add-mul l.j 1 a.q.states),
      r.auto.dist ∙ l.invariant.1,
      r.auto.queue ∙ l.invariant.2,
      r.ensures (goal_at W a.q a.goal)
          (λ s ls.
          ap (λ (x : ℕ). goal_at W a.q a.goal (x + s)) l.invariant.0
          ∙ (goal-bit W a.q a.goal l.j s ls ∙ ap (λ (x : ℕ). bit x s) (sym c.goals_in-goals.ensures)))
          l.invariant.3,
    )

pub returns : goal.returns
returns c =
    let a = c.args in
    let W = paired a.words.now in
    let l = c.loop-j in
    let e : l.j ≡ length W = omega (arith, l.auto.j-end, c.loop-j-test.false, length-paired a.words.now) in
    subst (λ (k : ℕ). Seeded (goal_at W a.q a.goal) l.dist l.queue k l.tail) (l.invariant.0 ∙ (ap (λ (x : ℕ). x * a.q.states) e ∙ sym c.requires.dist_len.0)) l.invariant.3
