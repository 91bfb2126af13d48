-- `some_edge` meets its contract: what is left of the automaton's edges always answers as all of them. Assumes nothing.
use Rattle.sheet.proofs.Closed.{edge_out, edge_end, edge_next}
use Rattle.sheet.proofs.Bools.{split}
use Rattle.sheet.specs.Questions.{stands_on, some_edge}
use Prim.Native.Nat.{◌+◌, ◌-◌}
use mathlib.Core.Path.{ap, sym, ◌∙◌}
use mathlib.Core.Bool.{Bool, ◌||◌}
use mathlib.Core.Logic.{⊎_elim}
use native.Mathlib.Omega.{arith}
use lib.ListN.{take, drop}
use Rattle.sheet.proofs.closing.some_edge.Goals as goal

pub returns-then-stands_on : goal.returns-then-stands_on
returns-then-stands_on c = λ t P.
    let s = c.args.s in
    let x = c.args.x in
    let l = c.loop-i in
    let e = c.stands_on.ensures ∙ ap (stands_on s) (c.edge_at.ensures ∙ P.edge_is l.i (omega arith)) in
    ap (λ (b : Bool). b || some_edge s (take (x.first + x.count - (l.i + 1)) (drop (l.i + 1) t.edges))) (sym c.if-stands_on.true ∙ e) ∙ sym (edge_next s (x.first + x.count) l.i t.edges (omega arith) (omega (arith, P.edges_length))) ∙ l.invariant t P

pub loop-i-preserved : goal.loop-i-preserved
loop-i-preserved c = λ t P.
    let s = c.args.s in
    let x = c.args.x in
    let l = c.loop-i in
    let e = c.stands_on.ensures ∙ ap (stands_on s) (c.edge_at.ensures ∙ P.edge_is l.i (omega arith)) in
    ap (λ (b : Bool). b || some_edge s (take (x.first + x.count - (l.i + 1)) (drop (l.i + 1) t.edges))) (sym c.if-stands_on.false ∙ e) ∙ sym (edge_next s (x.first + x.count) l.i t.edges (omega arith) (omega (arith, P.edges_length))) ∙ l.invariant t P

pub returns : goal.returns
returns c = λ t P.
    let s = c.args.s in
    let x = c.args.x in
    let l = c.loop-i in
    let n = x.first + x.count - l.i in
    ⊎_elim (λ h. edge_out s n l.i t.edges (omega (arith, P.edges_length, h))) (λ h. edge_end s n l.i t.edges (omega arith)) (split 256 l.i) ∙ l.invariant t P
