-- `kept_edges` meets its contract: the edges passed are in their places. Assumes nothing.
use native.Mathlib.Omega.{arith}
use mathlib.Core.Path.{◌≡◌, refl, sym, ap, ◌∙◌}
use Rattle.aldlf.specs.Sheet.{no_edge}
use Rattle.aldlf.specs.declared.Edge.{Edge}
use Rattle.aldlf.specs.declared.Table.{Table}
use Rattle.sheet.specs.Facts.{edge_at}
use Rattle.profile.specs.Profile.{kept_edge}
use Rattle.profile.specs.Room.{ProfileRoom}
use Rattle.profile.proofs.Laws.{test_small, placed_none, placed_next, placed_all}
use Rattle.profile.proofs.automata.kept_edges.Goals as goal
use Rattle.profile.proofs.automata.kept_edges.Goals.{After-edge_at}

-- the edge read is the table's
read : (c : After-edge_at) → (t : Table) → ProfileRoom t c.args.numbers.now → c.edge_at.result ≡ edge_at t c.loop-e.e
read c t R = c.edge_at.ensures ∙ R.packed.edge_is c.loop-e.e (omega arith)

pub loop-e-init : goal.loop-e-init
loop-e-init c = λ t R. placed_none kept_edge no_edge t.edges _ (sym R.packed.edges_length)

pub kept_edge-requires : goal.kept_edge-requires
kept_edge-requires c =
    let R = c.requires in
    let e = ap (λ (x : Edge). x.test.0) (read (goal.at.kept_edge-requires c).After-edge_at R.0 R.1) in
    omega (arith, test_small R.0 R.1.given R.1.room c.loop-e.e)

pub loop-e-preserved : goal.loop-e-preserved
loop-e-preserved c = let l = c.loop-e in λ t R.
    placed_next kept_edge no_edge t.edges l.x-items l.e c.kept_edge.result (omega (arith, R.packed.edges_length))
    (c.kept_edge.ensures ∙ ap kept_edge (read (goal.at.loop-e-preserved c).After-edge_at t R)) (l.invariant t R)

pub returns : goal.returns
returns c = let l = c.loop-e in λ t R. placed_all kept_edge no_edge t.edges l.x-items l.e refl (omega (arith, R.packed.edges_length)) (l.invariant t R)
