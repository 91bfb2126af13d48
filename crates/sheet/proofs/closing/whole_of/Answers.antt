-- `whole_of` meets its contract: the automata passed are all whole. Assumes nothing.
use Rattle.sheet.proofs.Lent.{whole_from, whole_next, whole_stop, whole_all}
use Rattle.sheet.proofs.Asked.{yes_is, no_is}
use Rattle.aldlf.specs.declared.Used.{Used}
use Prim.Native.Nat.{ℕ, ◌+◌, ◌≤◌}
use Rattle.sheet.specs.Questions.{whole_of}
use mathlib.Core.Path.{◌≡◌, ap, sym, subst}
use native.Mathlib.Omega.{arith}
use mathlib.Core.Bool.{not}
use Rattle.sheet.proofs.closing.whole_of.Goals as goal

pub returns-then-not-each_state : goal.returns-then-not-each_state
returns-then-not-each_state c =
    let l = c.loop-m in
    let u = c.used_in-used in
    let f = subst (λ (v : Used). v.automata ≤ 16) (sym u.ensures) c.requires.1 in
    (λ t P. whole_stop P u.ensures l.m f (l.invariant t P) _ c.loop-m-test.true c.automaton_at.ensures (no_is (c.each_state.ensures t P) (ap not c.if-not-each_state.true)), omega (arith, f))

pub loop-m-preserved : goal.loop-m-preserved
loop-m-preserved c = λ t P.
    let l = c.loop-m in
    let u = c.used_in-used in
    let f = subst (λ (v : Used). v.automata ≤ 16) (sym u.ensures) c.requires.1 in
    whole_next P u.ensures l.m f (l.invariant t P) _ c.loop-m-test.true c.automaton_at.ensures (yes_is (c.each_state.ensures t P) (ap not c.if-not-each_state.false))

pub returns : goal.returns
returns c =
    let l = c.loop-m in
    let u = c.used_in-used in
    let f = subst (λ (v : Used). v.automata ≤ 16) (sym u.ensures) c.requires.1 in
    (λ t P. whole_all P u.ensures u.result.automata f (subst (λ (m : ℕ). whole_of t ≡ m + whole_from t m) (omega arith) (l.invariant t P)) (omega arith), f)
