-- `with_edges` meets its contract: the ways of the edges passed are found. Assumes nothing.
use Prim.Native.Nat.{◌+◌}
use native.Mathlib.Omega.{arith}
use mathlib.Core.Path.{◌≡◌, ap, ◌∙◌}
use Rattle.aldlf.specs.Sheet.{Dir, ahead, back, dir_of, sheet_of}
use Rattle.aldlf.specs.Stands.{same_dir}
use Rattle.aldlf.specs.declared.Edge.{Edge}
use Rattle.aldlf.specs.declared.Table.{Table}
use Rattle.packing.specs.Packed.{Packed}
use Rattle.stands.proofs.LookLaws.{is_ahead, is_back, any_next}
use Rattle.stands.proofs.looking.with_edges.Goals as goal
use Rattle.stands.proofs.looking.with_edges.Goals.{After-edge_at-e}

-- the direction of the edge at hand is the sheet's
dir_is : (c : After-edge_at-e) → (t : Table) → Packed t c.args.numbers.now → dir_of c.edge_at-e.result.dir ≡ ((sheet_of t).edge (c.args.x.first + c.loop-c.c)).dir
unfolding sheet_of
dir_is c t P = ap (λ (e : Edge). dir_of e.dir) (c.edge_at-e.ensures ∙ P.edge_is (c.args.x.first + c.loop-c.c) ((omega (arith, c.loop-c-test.true, c.requires.1))))

pub loop-c-preserved : goal.loop-c-preserved
loop-c-preserved c =
    let l = c.loop-c in
    let d = c.edge_at-e.result.dir in
    λ t P.
    let was = l.invariant t P in
    let is = dir_is (goal.at.loop-c-preserved c).After-edge_at-e t P in (
      any_next c.args.looks.ahead _ _ l.c (λ e. same_dir ((sheet_of t).edge (c.args.x.first + e)).dir ahead) was.0 (is_ahead d ∙ ap (λ (z : Dir). same_dir z ahead) is),
      any_next c.args.looks.back _ _ l.c (λ e. same_dir ((sheet_of t).edge (c.args.x.first + e)).dir back) was.1 (is_back d ∙ ap (λ (z : Dir). same_dir z back) is),
    )
