-- `write_code` meets its contract: what the parser gives is what the definition says of the whole text. Assumes nothing.
use Prim.Native.Nat.{ℕ}
use mathlib.Core.Path.{ap, ◌∙◌}
use mathlib.Core.List.{[]}
use mathlib.Core.Bool.{false}
use native.Mathlib.Omega.{arith}
use Rattle.formula.specs.Formula.{Formula}
use Rattle.parsing.specs.Work.{Work}
use Rattle.parsing.specs.Build.{build, seen_of}
use Rattle.parsing.specs.Written.{coded_of}
use Rattle.parsing.proofs.Laws.{place_same}
use Rattle.parsing.proofs.Ahead.{formula_place}
use Rattle.parsing.proofs.Top.{read_is, read_long}
use Rattle.parsing.proofs.write_code.Goals as goal

pub returns-then-text-gt-FORMULA : goal.returns-then-text-gt-FORMULA
unfolding coded_of
returns-then-text-gt-FORMULA c = read_long c.args.text.now (omega arith)

empty : ℕ → Work
empty room = record { bytes = []; room = room; modal = false; stray = false }

pub finish-requires : goal.finish-requires
unfolding empty
finish-requires c =
    let a = c.args in
    let p = c.formula in
    let h = formula_place a.text.now 17 (λ (x : Formula). build x (empty (lib.ListN.length a.out.now))) (seen_of p.result p.new.out) p.ensures in
    let e = place_same p.result [] p.new.out in
    omega arith

pub returns : goal.returns
unfolding empty
returns c =
    let a = c.args in
    let p = c.formula in
    let L = p.new.out in
    c.finish.ensures L
    ∙ read_is a.text.now (omega arith) (empty (lib.ListN.length a.out.now)) (seen_of p.result L) (ap empty c.requires) p.ensures
