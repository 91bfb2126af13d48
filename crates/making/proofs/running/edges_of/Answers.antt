-- `edges_of` meets its contract: after i turns the first i are read. Assumes nothing.
use mathlib.Core.Path.{◌∙◌}
use native.Mathlib.Omega.{arith}
use lib.ListN.{length-set}
use Rattle.packing.specs.Numbers.{edge_in}
use Rattle.making.proofs.Lists.{copied_one, copied_all}
use Rattle.making.proofs.running.edges_of.Goals as goal

pub loop-i-preserved : goal.loop-i-preserved
loop-i-preserved c =
    let loop = c.loop-i in
    (length-set loop.r loop.i c.edge_in.result ∙ loop.invariant.0, copied_one edge_in c.args.edges.now loop.r loop.i c.edge_in.result 0 (omega arith) (let h = loop.invariant in omega (arith, c.requires)) loop.invariant.1 c.edge_in.ensures)

pub returns : goal.returns
returns c =
    let loop = c.loop-i in
    copied_all edge_in c.args.edges.now loop.r loop.i 256 c.requires loop.invariant.0 (omega (arith, c.requires)) (omega (arith, c.requires)) loop.invariant.1
