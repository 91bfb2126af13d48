-- `visit_entry` meets its contract: the entry is closed from the masks beside it. Assumes nothing.
use Prim.Native.Nat.{ℕ}
use Rattle.reach.specs.Marks.{at}
use Rattle.reach.specs.Steps.{Closed}
use mathlib.Core.Path.{refl, subst₂}
use native.Mathlib.Omega.{arith}
use Rattle.reach.proofs.spreading.visit_entry.Goals as goal

pub bounds-steps-i : goal.bounds-steps-i
bounds-steps-i c = omega (arith, c.requires.placed.room, c.requires.v_in_bounds)

pub overflow_cast-steps : goal.overflow_cast-steps
overflow_cast-steps c = omega (arith, c.type_inv.steps c.args.v.entry)

pub close-new-requires : goal.close-new-requires
close-new-requires c = c.requires.placed.each c.args.v.entry c.requires.v_in_bounds

pub returns : goal.returns
returns c =
    let M = c.args.masks.now in
    let v = c.args.v in
    record {
      new = c.close-new.result;
      fits = c.close-new.ensures.lower_bound.1;
      grown = c.close-new.ensures.lower_bound.0;
      closed = λ E word f told K. subst₂ (λ (x y : ℕ). Closed E word x y v.due (at M v.entry) c.close-new.result)
          c.ahead_of.ensures c.behind_of.ensures (c.close-new.ensures.by_index E word f told K);
      written = refl;
      changed_is = refl;
    }
