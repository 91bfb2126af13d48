-- `finish_of` meets its contract. Assumes nothing.
use Rattle.sheet.proofs.Closed.{finish_10, finish_11, finish_0}
use Rattle.aldlf.specs.declared.Used.{Used}
use Prim.Native.Nat.{◌≤◌}
use mathlib.Core.Path.{sym, subst, ◌∙◌}
use Rattle.sheet.proofs.closing.finish_of.Goals as goal

pub whole_of-w-requires : goal.whole_of-w-requires
whole_of-w-requires c = let P = c.pack.ensures in (P.size, subst (λ (v : Used). v.automata ≤ 16) (sym P.used_is) c.requires)

pub returns-then-w-t : goal.returns-then-w-t
returns-then-w-t c = let s = c.args in
    let w = c.whole_of-w in
    c.refusal.ensures ∙ finish_10 s.r s.k w.result (w.ensures.0 s.r.table c.pack.ensures) c.if-w-t.true

pub returns-then-r : goal.returns-then-r
returns-then-r c = let s = c.args in
    let w = c.whole_of-w in
    c.refusal-then-r.ensures ∙ finish_11 s.r s.k w.result (w.ensures.0 s.r.table c.pack.ensures) c.if-w-t.false c.if-r.true

pub returns : goal.returns
returns c = let s = c.args in
    let w = c.whole_of-w in
    finish_0 s.r s.k w.result (w.ensures.0 s.r.table c.pack.ensures) c.if-w-t.false c.if-r.false
