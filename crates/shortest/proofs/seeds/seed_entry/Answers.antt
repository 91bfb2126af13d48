-- `seed_entry` meets its contract: the goals of the states below s are marked. Assumes nothing.
use Prim.Native.Nat.{ℕ, ◌+◌}
use mathlib.Core.Path.{◌≡◌, subst, ◌∙◌}
use Rattle.aldlf.specs.Sheet.{bit}
use Rattle.shortest.specs.Progress.{Put, Seeded}
use Rattle.shortest.proofs.Goals.{seeded_empty, seeded_more, put_few}
use native.Mathlib.Omega.{arith}
use borrow.Author.Tests.{eq-eqb, ne_eqb}
use Rattle.shortest.proofs.seeds.seed_entry.Goals as goal
use Rattle.shortest.proofs.seeds.seed_entry.Goals.{then-goals-s-eq1, else-goals-s-eq1}

pub returns-then-goals-eq0 : goal.returns-then-goals-eq0
returns-then-goals-eq0 c = let a = c.args in λ goal same s. seeded_empty goal a.dist.now a.queue.now a.goals a.states a.base a.tail c.if-goals-eq0.true c.requires.1 same s

pub loop-s-preserved : goal.loop-s-preserved
loop-s-preserved c =
    let a = c.args in
    let l = c.loop-s in
    let m = c.if-goals-s-eq1 in
    let put : Put l.dist l.queue (bit a.goals l.s) (a.base + l.s) l.end m.dist m.queue m.end =
    elim m.branch [
      | then-goals-s-eq1 w ↦ let b = eq-eqb _ _ w.if-goals-s-eq1.true in record { dist = rw b w.dist-is; queue = rw b w.queue-is; tail = rw b w.end-is }
      | else-goals-s-eq1 w ↦ let b = ne_eqb _ _ w.if-goals-s-eq1.false in record { dist = rw b w.dist-is; queue = rw b w.queue-is; tail = rw b w.end-is }
    ] in (
      omega (arith, put_few l.dist l.queue (bit a.goals l.s) (a.base + l.s) l.end m.dist m.queue m.end put, l.invariant.0),
      m.auto.dist ∙ l.invariant.1,
      m.auto.queue ∙ l.invariant.2,
      λ goal same s.
          subst (λ (x : ℕ). Seeded goal m.dist m.queue x m.end) (let y : a.base + l.s + 1 ≡ a.base + (l.s + 1) = omega arith in y)
          (seeded_more goal l.dist l.queue (a.base + l.s) l.end (l.invariant.3 goal same s) (omega (arith, c.requires.1, l.invariant.1)) (omega (arith, c.requires, l.invariant.0, l.invariant.2))
          (bit a.goals l.s) (same l.s c.loop-s-test.true) m.dist m.queue m.end put),
    )
