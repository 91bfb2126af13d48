-- `traits_of` meets its contract: a bit more for each edge passed, and the node that it tests. Assumes nothing.
use Prim.Native.Nat.{ℕ, ◌+◌, ◌^◌}
use Rattle.aldlf.specs.Constants.{state_limit}
use Rattle.reach.proofs.Made.{group_lt}
use Rattle.reach.proofs.Shared.{gathered}
use Rattle.reach.proofs.Tests.{tested_next}
use Rattle.reach.specs.Columns.{group_of, Told}
use Rattle.reach.specs.Marks.{at, dir_in}
use lib.Bits.{bit_or}
use mathlib.Core.Path.{sym, subst, ap, ◌∙◌}
use native.Mathlib.Omega.{arith}
use Rattle.reach.proofs.filling.traits_of.Goals as goal

pub loop-p-preserved : goal.loop-p-preserved
loop-p-preserved c =
    let l = c.loop-p in
    let e = l.p-index in
    let E = c.args.edges.now in
    let g : ℕ → ℕ = λ e. group_of (dir_in (at E e)) in (
      subst (λ (z : ℕ). Told E (bit_or l.looks z) (e + 1)) (sym (c.one_bit-looks.ensures ∙ ap (λ (z : ℕ). 2 ^ z) c.group_of.ensures.0))
          (gathered g state_limit e l.looks (omega (arith, group_lt (dir_in (at E e)))) l.invariant.0),
      tested_next E c.requires l.tested _ e c.loop-p-test.true c.with-tested.ensures l.invariant.1,
    )
