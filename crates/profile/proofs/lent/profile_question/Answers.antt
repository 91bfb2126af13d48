-- `profile_question` meets its contract, question by question. Assumes nothing.
use mathlib.Core.Path.{sym, ap, ◌∙◌}
use borrow.Author.Tests.{le-leb, lt-leb}
use lib.Dec.{leb}
use Prim.Native.Nat.{ℕ, ◌+◌, ◌*◌}
use Rattle.aldlf.specs.Constants.{node_limit}
use Rattle.aldlf.specs.declared.Used.{Used}
use Rattle.sheet.proofs.Asked.{yes_is, no_is}
use Rattle.profile.proofs.Laws.{number_31, number_42, number_0}
use mathlib.Core.Bool.{not}
use Rattle.profile.proofs.lent.profile_question.Goals as goal

pub returns-then-not-is_given_packed : goal.returns-then-not-is_given_packed
returns-then-not-is_given_packed c = λ t P. number_31 t (no_is (c.is_given_packed.ensures t P) (ap not c.if-not-is_given_packed.true))

pub returns-then-from-gt-NODES : goal.returns-then-from-gt-NODES
returns-then-from-gt-NODES c = λ t P.
    let e = ap (λ (u : Used). leb (2 * u.nodes + 1) node_limit) (c.used_in.ensures ∙ P.used_is) in
    let g = ap (λ (n : ℕ). leb (2 * n + 1) node_limit) c.from.ensures in
    number_42 t (yes_is (c.is_given_packed.ensures t P) (ap not c.if-not-is_given_packed.false)) (sym e ∙ sym g ∙ lt-leb _ _ c.if-from-gt-NODES.true)

pub returns : goal.returns
returns c = λ t P.
    let e = ap (λ (u : Used). leb (2 * u.nodes + 1) node_limit) (c.used_in.ensures ∙ P.used_is) in
    let g = ap (λ (n : ℕ). leb (2 * n + 1) node_limit) c.from.ensures in
    number_0 t (yes_is (c.is_given_packed.ensures t P) (ap not c.if-not-is_given_packed.false)) (sym e ∙ sym g ∙ le-leb _ _ c.if-from-gt-NODES.false)
