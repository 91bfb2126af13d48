-- `draw` meets its contract: by the instruction. Assumes nothing.
use Rattle.making.proofs.Links.{path_step, path_star, path_seq, path_alt}
use Rattle.making.proofs.drawing.draw.Goals as goal

pub returns-then-is_step : goal.returns-then-is_step
returns-then-is_step c =
    let a = c.args in
    path_step a.c c.step.result a.stack.now a.links.now c.step.new.links a.op c.dir_of.result c.is_step.result c.is_step.ensures c.if-is_step.true c.dir_of.ensures c.step.ensures

pub returns-then-op-eq42 : goal.returns-then-op-eq42
returns-then-op-eq42 c =
    let a = c.args in
    path_star a.c c.star.result a.stack.now a.links.now c.star.new.links a.op c.if-op-eq42.true c.star.ensures

pub returns-then-op-eq59 : goal.returns-then-op-eq59
returns-then-op-eq59 c =
    let a = c.args in
    let below = c.below in
    path_seq a.c c.seq.result a.stack.now a.links.now c.seq.new.links a.op c.last_kept-left.result below.result c.last_kept-left.ensures (below.ensures.0 a.stack.now) below.ensures.1 c.if-op-eq59.true (rw c.with_top-d.ensures at c.seq.ensures)

pub returns : goal.returns
returns c =
    let a = c.args in
    let below = c.below in
    path_alt a.c c.alt.result a.stack.now a.links.now c.alt.new.links a.op c.last_kept-left.result below.result c.last_kept-left.ensures (below.ensures.0 a.stack.now) below.ensures.1 c.is_step.result c.is_step.ensures c.if-is_step.false c.if-op-eq42.false c.if-op-eq59.false (rw c.with_top-d.ensures at c.alt.ensures)
