-- `make_node` meets its contract: one node, by the instruction. Assumes nothing.
use Rattle.making.proofs.Lines.{fact_made, true_made, and_made, or_made, under_made}
use Rattle.making.proofs.nodes.make_node.Goals as goal

pub returns-then-op-lt32 : goal.returns-then-op-lt32
returns-then-op-lt32 c =
    let a = c.args in
    fact_made a.c c.put_leaf.result a.stack.now a.lines.now c.put_leaf.new.lines a.op c.if-op-lt32.true c.put_leaf.ensures

pub returns-then-op-eq84 : goal.returns-then-op-eq84
returns-then-op-eq84 c =
    let a = c.args in
    true_made a.c c.put_leaf-then-op-eq84.result a.stack.now a.lines.now c.put_leaf-then-op-eq84.new.lines a.op c.if-op-eq84.true c.put_leaf-then-op-eq84.ensures

pub returns-then-op-eq38 : goal.returns-then-op-eq38
returns-then-op-eq38 c =
    let a = c.args in
    let below = c.below in
    let newest = c.newest in
    and_made a.c c.put_pair.result a.stack.now a.lines.now c.put_pair.new.lines a.op c.last_kept-k.result below.result newest.result newest.ensures c.last_kept-k.ensures (below.ensures.0 a.stack.now) below.ensures.1 c.if-op-eq38.true (rw c.with_top-d.ensures at c.put_pair.ensures)

pub returns-then-op-eq124 : goal.returns-then-op-eq124
returns-then-op-eq124 c =
    let a = c.args in
    let below = c.below in
    let newest = c.newest in
    or_made a.c c.put_pair-then-op-eq124.result a.stack.now a.lines.now c.put_pair-then-op-eq124.new.lines a.op c.last_kept-k.result below.result newest.result newest.ensures c.last_kept-k.ensures (below.ensures.0 a.stack.now) below.ensures.1 c.if-op-eq124.true (rw c.with_top-d.ensures at c.put_pair-then-op-eq124.ensures)

pub returns : goal.returns
returns c =
    let a = c.args in
    let below = c.below in
    let newest = c.newest in
    under_made a.c c.put_under.result a.stack.now a.lines.now c.put_under.new.lines a.op c.last_kept-k.result below.result newest.result newest.ensures c.last_kept-k.ensures (below.ensures.0 a.stack.now) below.ensures.1 c.if-op-lt32.false c.if-op-eq84.false c.if-op-eq38.false c.if-op-eq124.false (rw c.with_top-d.ensures at c.put_under.ensures)
