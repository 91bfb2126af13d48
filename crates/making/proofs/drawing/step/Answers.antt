-- `step` meets its contract: an edge between two new states, or a limit is passed. Assumes nothing.
use Prim.Native.Nat.{◌+◌}
use Rattle.std.specs.Prelude.{Some, None}
use Rattle.making.proofs.Links.{drawn_ends, stop_ends, step-drawn, step_full}
use Rattle.making.proofs.drawing.step.Goals as goal

pub returns-then-s-lt15 : goal.returns-then-s-lt15
returns-then-s-lt15 c =
    let a = c.args in
    let newest = c.newest in
    step-drawn a.c (Some c.with_ends.result) a.links.now c.put_link.new.links a.dir newest.result newest.ensures c.if-s-lt15.true (drawn_ends c.with_ends.result (a.c.states + 2) (record { 0 = a.c.states }) (record { 0 = a.c.states + 1 }) c.in_ok-x.ensures c.with_ends.ensures)

pub returns-in_err-x : goal.returns-in_err-x
returns-in_err-x c =
    let a = c.args in
    let newest = c.newest in
    rw c.from_residual.ensures (step-drawn a.c None a.links.now c.put_link.new.links a.dir newest.result newest.ensures c.if-s-lt15.true (stop_ends (a.c.states + 2) (record { 0 = a.c.states }) (record { 0 = a.c.states + 1 }) c.in_err-x.ensures))

pub returns : goal.returns
returns c =
    let a = c.args in
    step_full a.c a.links.now c.requires.1 c.if-s-lt15.false a.dir
