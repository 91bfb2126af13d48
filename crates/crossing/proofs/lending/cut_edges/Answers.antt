-- `cut_edges` meets its contract: the bytes passed are cut, and it is known whether they fit. Assumes nothing.
use Prim.Native.Nat.{ℕ, ◌%◌}
use Rattle.crossing.proofs.Lent.{lent_none, lent_next, lent_all, edge_byte, edges_cut}
use Rattle.crossing.specs.Numbers.{is_byte}
use Rattle.crossing.specs.Steps.{edge_bytes}
use mathlib.Core.Path.{refl}
use native.Mathlib.Omega.{arith}
use Rattle.crossing.proofs.lending.cut_edges.Goals as goal

pub loop-k-init : goal.loop-k-init
loop-k-init c = lent_none is_byte (λ (b : ℕ). b) (λ (x : ℕ). x % 256) (edge_byte c.args.xs.now) 0 0 edge_bytes c.args.bytes.now

pub loop-k-preserved : goal.loop-k-preserved
loop-k-preserved c =
    let l = c.loop-k in
    lent_next is_byte (λ (b : ℕ). b) (λ (x : ℕ). x % 256) (edge_byte c.args.xs.now) 0 0 edge_bytes c.args.bytes.now l.k l.k l.fit _ l.bytes _ l.invariant
    (omega (arith, c.loop-k-test.true, c.requires.1)) (omega arith) (omega (arith, c.loop-k-test.true, l.auto.bytes)) refl refl

pub returns : goal.returns
returns c =
    let l = c.loop-k in
    edges_cut c.args.xs.now c.args.bytes.now l.bytes l.fit c.requires.1
    (lent_all is_byte (λ (b : ℕ). b) (λ (x : ℕ). x % 256) (edge_byte c.args.xs.now) 0 0 edge_bytes c.args.bytes.now l.k l.fit l.bytes l.invariant (omega (arith, c.loop-k-test.false, c.requires.1)))
