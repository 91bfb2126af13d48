-- `chain_edges` meets its contract: the edges from e on are chained. Assumes nothing.
use Prim.Native.Nat.{ℕ, ◌+◌, ◌-◌}
use mathlib.Core.Path.{◌≡◌, sym, subst, ◌∙◌}
use Rattle.graph.specs.Configurations.{EdgeFits}
use Rattle.graph.specs.Arcs.{Chained}
use Rattle.graph.proofs.Arcs.{chained_more}
use native.Mathlib.Omega.{arith}
use Rattle.graph.proofs.edges.chain_edges.Goals as goal

pub loop-e-preserved : goal.loop-e-preserved
loop-e-preserved c =
    let l = c.loop-e in
    let last = c.args.q.first + c.args.q.count in
    let below = c.loop-e-test.true in (
      omega (arith, below),
      c.link.auto.arcs ∙ l.invariant.1,
      λ t P.
          chained_more t.edges (l.e - 1) last _ l.arcs (subst (λ (x : ℕ). Chained t.edges x last l.arcs) (let y : l.e ≡ l.e - 1 + 1 = omega (arith, below) in y) (l.invariant.2 t P)) (omega (arith, l.auto.e, below)) c.requires.numbers_len.1 (omega (arith, l.invariant.1, c.requires.numbers_len.2))
          (c.edge_at.ensures ∙ P.edge_is (l.e - 1) (omega (arith, l.auto.e, below, c.requires.numbers_len.1))) (subst (EdgeFits 16) (sym c.edge_at.ensures) (c.requires.by_index (l.e - 1) (omega (arith, below)) (omega (arith, l.auto.e, below)))) _ c.link.ensures,
    )

pub returns : goal.returns
returns c =
    let l = c.loop-e in
    λ t P. subst (λ (k : ℕ). Chained t.edges k (c.args.q.first + c.args.q.count) l.arcs) (omega (arith, l.auto.e, c.loop-e-test.false, l.invariant.0)) (l.invariant.2 t P)
