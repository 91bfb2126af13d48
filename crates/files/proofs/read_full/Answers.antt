-- read_full meets its contract: the bytes of the next read follow those that came so far. Assumes nothing.
use Rattle.std.proofs.Common.{◌+◌, ◌++◌, List, ℕ, ◌≡◌, arith, take, drop, sym, ap, ◌∙◌, subst}
use Rattle.std.specs.Io.KnownBytes.{Consumes}
use Rattle.std.proofs.KnownBytes.{Consumes-trans}
use lib.Seq.{take-add}
use Rattle.files.proofs.read_full.Goals as goal

-- the bytes so far as they were, then those of the next read
joined : (done n : ℕ) (before after : List ℕ) → take done after ≡ take done before → take done before ++ take n (drop done after) ≡ take (done + n) after
joined done n before after same = ap (λ l. l ++ take n (drop done after)) (sym same) ∙ sym (take-add done n after)

pub loop-done-preserved : goal.loop-done-preserved
loop-done-preserved g c =
    let l = c.loop-done in (
      omega (arith, c.in_ok-n.ensures.bound, c.read_some.auto.buffer),
      subst (Consumes _ _) (joined l.done c.in_ok-n.n l.buffer c.read_some.new.buffer c.read_some.ensures.front)
          (Consumes-trans _ _ _ _ _ l.invariant.1 c.in_ok-n.ensures.bytes),
    )
