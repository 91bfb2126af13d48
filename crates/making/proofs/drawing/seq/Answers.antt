-- `seq` meets its contract: one link, and the ends of both sides. Assumes nothing.
use Rattle.std.specs.Prelude.{Some, None}
use Rattle.making.proofs.Links.{drawn_ends, stop_ends, seq-drawn}
use Rattle.making.proofs.drawing.seq.Goals as goal

pub returns-in_err-x : goal.returns-in_err-x
returns-in_err-x c =
    let a = c.args in
    rw c.from_residual.ensures (seq-drawn a.c None a.links.now c.put_link.new.links a.left c.link_of-e.result c.link_of-e.ensures (stop_ends a.c.states (record { 0 = a.left.a }) a.c.exit c.in_err-x.ensures))

pub returns : goal.returns
returns c =
    let a = c.args in
    seq-drawn a.c (Some c.with_ends.result) a.links.now c.put_link.new.links a.left c.link_of-e.result c.link_of-e.ensures (drawn_ends c.with_ends.result a.c.states (record { 0 = a.left.a }) a.c.exit c.in_ok-x.ensures c.with_ends.ensures)
