-- `line_in_profile` meets its contract: the two lines looked at are the table's. Assumes nothing.
use Prim.Native.Nat.{◌<◌}
use native.Mathlib.Omega.{arith}
use mathlib.Core.Path.{◌≡◌, sym, ap, ◌∙◌}
use mathlib.Core.Bool.{true}
use lib.Dec.{eqb}
use borrow.Author.Tests.{ne_eqb}
use Rattle.aldlf.specs.Constants.{letter_p, letter_n}
use Rattle.aldlf.specs.declared.NodeLine.{NodeLine}
use Rattle.aldlf.specs.declared.Table.{Table}
use Rattle.packing.specs.Numbers.{lent_line}
use Rattle.packing.specs.Packed.{Packed}
use Rattle.sheet.specs.Given.{well_formed}
use Rattle.sheet.specs.Facts.{node_at}
use Rattle.profile.proofs.Laws.{names_small, in_other, in_stands}
use Rattle.profile.proofs.checking.line_in_profile.Goals as goal
use Rattle.profile.proofs.checking.line_in_profile.Goals.{After-line_at-x}

-- the line read is the table's
line_is : (c : After-line_at-x) → (t : Table) → Packed t c.args.numbers.now → well_formed t ≡ true → c.args.k.0 < t.used.nodes → c.line_at-x.result ≡ node_at t c.args.k.0
line_is c t P w l = c.line_at-x.ensures ∙ P.line_is c.args.k.0 (names_small t w c.args.k.0 l).0

pub line_at-x-requires : goal.line_at-x-requires
line_at-x-requires c = let (t, P, w, l) = c.requires in (P.size, (names_small t w c.args.k.0 l).0)

pub returns-then-x-ne78 : goal.returns-then-x-ne78
returns-then-x-ne78 c = λ t P w l.
    let k = c.args.k.0 in
    rw (ne_eqb c.line_at-x.result.kind letter_n c.if-x-ne78.true) (in_other t.nodes k (λ e. c.if-x-ne78.true (ap (λ (x : NodeLine). x.kind) (line_is (goal.at.returns-then-x-ne78 c).After-line_at-x t P w l) ∙ e)))

pub line_at-requires : goal.line_at-requires
line_at-requires c =
    let (t, P, w, l) = c.requires in
    let e = line_is (goal.at.line_at-requires c).After-line_at-x t P w l in
    (P.size, omega (arith, ap (λ (x : NodeLine). x.a) e, (names_small t w c.args.k.0 l).1 (sym (ap (λ (x : NodeLine). x.kind) e) ∙ c.if-x-ne78.false)))

pub returns-else-x-ne78 : goal.returns-else-x-ne78
returns-else-x-ne78 c = λ t P w l.
    let k = c.args.k.0 in
    let e = line_is (goal.at.returns-else-x-ne78 c).After-line_at-x t P w l in
    let n = sym (ap (λ (x : NodeLine). x.kind) e) ∙ c.if-x-ne78.false in
    ap (λ (x : NodeLine). eqb x.kind letter_p)
    (c.line_at.ensures ∙ ap (λ (x : NodeLine). lent_line c.args.numbers.now x.a) e ∙ P.line_is (node_at t k).a ((names_small t w k l).1 n))
    ∙ in_stands t.nodes k n
