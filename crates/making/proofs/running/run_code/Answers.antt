-- `run_code` meets its contract: what is left of the instructions always comes to what all of them come to. Assumes nothing.
use mathlib.Core.Path.{◌∙◌}
use Rattle.making.specs.Run.{making_of}
use Rattle.making.specs.Numbers.{lines_in, edges_in, table_in, outline_in}
use Rattle.making.proofs.Turns.{first_stands, first_none, turn_last, turn_node, turn_kept, turn_begun, turn_drawn, turn_ended, turn_none, finish_live}
use Rattle.making.proofs.running.run_code.Goals as goal
use Rattle.making.proofs.running.run_code.Goals.{then-makes_node+in_ok-c-2, else-makes_node+then-keeps_something, else-makes_node+else-keeps_something+then-op-eq123+in_ok-c-3, else-makes_node+else-keeps_something+else-op-eq123+then-draws_path+in_ok-c-4, else-makes_node+else-keeps_something+else-op-eq123+else-draws_path+then-ends_path+in_ok-x, else-makes_node+else-keeps_something+else-op-eq123+else-draws_path+else-ends_path}

pub returns-in_err-c : goal.returns-in_err-c
returns-in_err-c c = first_none c.in_err-c.ensures

pub loop-op-init : goal.loop-op-init
loop-op-init c =
    let a = c.args in
    let no_automata = c.no_automata-automata in
    first_stands a.code.now a.stack.now c.first_counts.new.lines no_automata.result c.in_ok-c.c no_automata.ensures c.in_ok-c.ensures

pub returns-in_err-c-2 : goal.returns-in_err-c-2
unfolding making_of
returns-in_err-c-2 c = rw c.from_residual-in_err-c-2.ensures (turn_node c.loop-op.invariant c.loop-op-test.true c.makes_node.result c.makes_node.ensures c.if-makes_node.true c.in_err-c-2.ensures)

pub returns-in_err-c-3 : goal.returns-in_err-c-3
unfolding making_of
returns-in_err-c-3 c = rw c.from_residual-in_err-c-3.ensures (turn_begun c.loop-op.invariant c.loop-op-test.true c.makes_node.result c.makes_node.ensures c.if-makes_node.false c.keeps_something.result c.keeps_something.ensures c.if-keeps_something.false c.if-op-eq123.true c.begin.auto.stack c.in_err-c-3.ensures)

pub returns-in_err-c-4 : goal.returns-in_err-c-4
unfolding making_of
returns-in_err-c-4 c = rw c.from_residual-in_err-c-4.ensures (turn_drawn c.loop-op.invariant c.loop-op-test.true c.makes_node.result c.makes_node.ensures c.if-makes_node.false c.keeps_something.result c.keeps_something.ensures c.if-keeps_something.false c.if-op-eq123.false c.draws_path.result c.draws_path.ensures c.if-draws_path.true c.in_err-c-4.ensures)

pub returns-in_err-x : goal.returns-in_err-x
unfolding making_of
returns-in_err-x c = rw c.from_residual-in_err-x.ensures (turn_ended c.loop-op.invariant c.loop-op-test.true c.makes_node.result c.makes_node.ensures c.if-makes_node.false c.keeps_something.result c.keeps_something.ensures c.if-keeps_something.false c.if-op-eq123.false c.draws_path.result c.draws_path.ensures c.if-draws_path.false c.ends_path.result c.ends_path.ensures c.if-ends_path.true c.end_path.auto.stack c.in_err-x.ensures)

pub loop-op-preserved : goal.loop-op-preserved
loop-op-preserved c =
    elim c.if-makes_node.branch [
      | then-makes_node+in_ok-c-2 w ↦
          rw (w.stack-is, w.lines-is, w.links-is, w.edges-is, w.automata-is, w.c-is)
          (turn_node c.loop-op.invariant c.loop-op-test.true c.makes_node.result c.makes_node.ensures w.if-makes_node.true w.in_ok-c-2.ensures)
      | else-makes_node+then-keeps_something w ↦
          rw (w.stack-is, w.lines-is, w.links-is, w.edges-is, w.automata-is, w.c-is)
          (turn_kept c.loop-op.invariant c.loop-op-test.true c.makes_node.result c.makes_node.ensures w.if-makes_node.false w.keeps_something.result w.keeps_something.ensures w.if-keeps_something.true w.keep-c.auto.stack w.keep-c.ensures)
      | else-makes_node+else-keeps_something+then-op-eq123+in_ok-c-3 w ↦
          rw (w.stack-is, w.lines-is, w.links-is, w.edges-is, w.automata-is, w.c-is)
          (turn_begun c.loop-op.invariant c.loop-op-test.true c.makes_node.result c.makes_node.ensures w.if-makes_node.false w.keeps_something.result w.keeps_something.ensures w.if-keeps_something.false w.if-op-eq123.true w.begin.auto.stack w.in_ok-c-3.ensures)
      | else-makes_node+else-keeps_something+else-op-eq123+then-draws_path+in_ok-c-4 w ↦
          rw (w.stack-is, w.lines-is, w.links-is, w.edges-is, w.automata-is, w.c-is)
          (turn_drawn c.loop-op.invariant c.loop-op-test.true c.makes_node.result c.makes_node.ensures w.if-makes_node.false w.keeps_something.result w.keeps_something.ensures w.if-keeps_something.false w.if-op-eq123.false w.draws_path.result w.draws_path.ensures w.if-draws_path.true w.in_ok-c-4.ensures)
      | else-makes_node+else-keeps_something+else-op-eq123+else-draws_path+then-ends_path+in_ok-x w ↦
          rw (w.stack-is, w.lines-is, w.links-is, w.edges-is, w.automata-is, w.c-is)
          (turn_ended c.loop-op.invariant c.loop-op-test.true c.makes_node.result c.makes_node.ensures w.if-makes_node.false w.keeps_something.result w.keeps_something.ensures w.if-keeps_something.false w.if-op-eq123.false w.draws_path.result w.draws_path.ensures w.if-draws_path.false w.ends_path.result w.ends_path.ensures w.if-ends_path.true w.end_path.auto.stack w.in_ok-x.ensures)
      | else-makes_node+else-keeps_something+else-op-eq123+else-draws_path+else-ends_path w ↦
          rw (w.stack-is, w.lines-is, w.links-is, w.edges-is, w.automata-is, w.c-is)
          (turn_none c.loop-op.invariant c.loop-op-test.true c.makes_node.result c.makes_node.ensures w.if-makes_node.false w.keeps_something.result w.keeps_something.ensures w.if-keeps_something.false w.if-op-eq123.false w.draws_path.result w.draws_path.ensures w.if-draws_path.false w.ends_path.result w.ends_path.ensures w.if-ends_path.false)
    ]

pub returns : goal.returns
returns c =
    let loop = c.loop-op in
    finish_live c.finished.result (table_in loop.c (lines_in loop.lines) loop.automata (edges_in loop.edges)) (outline_in loop.c (edges_in loop.links)) c.finished.ensures ∙ turn_last loop.invariant c.loop-op-test.false
