-- `each_state` meets its contract: the states passed all stand on an edge. Assumes nothing.
use Rattle.sheet.proofs.Each.{each_none, each_on, each_no}
use Rattle.sheet.proofs.Asked.{yes_is, no_is}
use Rattle.sheet.specs.Questions.{some_edge, edges_of}
use mathlib.Core.Path.{ap}
use native.Mathlib.Omega.{arith}
use mathlib.Core.Bool.{not}
use Rattle.sheet.proofs.closing.each_state.Goals as goal

pub loop-s-init : goal.loop-s-init
loop-s-init c = λ t P. each_none (λ s. some_edge s (edges_of t.edges c.args.x))

pub returns-then-not-some_edge : goal.returns-then-not-some_edge
returns-then-not-some_edge c = λ t P.
    let x = c.args.x in
    each_no (λ s. some_edge s (edges_of t.edges x)) c.loop-s.s x.states (omega arith) (no_is (c.some_edge.ensures t P) (ap not c.if-not-some_edge.true))

pub loop-s-preserved : goal.loop-s-preserved
loop-s-preserved c = λ t P.
    let l = c.loop-s in
    each_on (λ s. some_edge s (edges_of t.edges c.args.x)) l.s (l.invariant t P) (yes_is (c.some_edge.ensures t P) (ap not c.if-not-some_edge.false))
