-- `lines_of` meets its contract: after i turns the first i are read. Assumes nothing.
use mathlib.Core.Path.{◌∙◌}
use native.Mathlib.Omega.{arith}
use lib.ListN.{length-set}
use Rattle.packing.specs.Numbers.{line_in}
use Rattle.making.proofs.Lists.{copied_one, copied_all}
use Rattle.making.proofs.running.lines_of.Goals as goal

pub loop-i-preserved : goal.loop-i-preserved
loop-i-preserved c =
    let loop = c.loop-i in
    (length-set loop.r loop.i c.line_in.result ∙ loop.invariant.0, copied_one line_in c.args.lines.now loop.r loop.i c.line_in.result 0 (omega arith) (let h = loop.invariant in omega (arith, c.requires)) loop.invariant.1 c.line_in.ensures)

pub returns : goal.returns
returns c =
    let loop = c.loop-i in
    copied_all line_in c.args.lines.now loop.r loop.i 128 c.requires loop.invariant.0 (omega (arith, c.requires)) (omega (arith, c.requires)) loop.invariant.1
