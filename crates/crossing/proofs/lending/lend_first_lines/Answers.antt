-- `lend_first_lines` meets its contract: those passed stand in their places, and it is known whether they fit. Assumes nothing.
use Prim.Native.Nat.{◌+◌, ◌*◌}
use Rattle.aldlf.specs.Constants.{node_limit}
use Rattle.aldlf.specs.Sheet.{no_line}
use Rattle.crossing.proofs.Lent.{lent_none, lent_next}
use Rattle.crossing.specs.Numbers.{line_size, line_at, line_fits}
use Rattle.crossing.specs.Steps.{line_cut}
use Rattle.packing.specs.Numbers.{lines_place, line_in}
use native.Mathlib.Omega.{arith}
use Rattle.crossing.proofs.lending.lend_first_lines.Goals as goal

pub loop-k-init : goal.loop-k-init
loop-k-init c = lent_none line_fits line_in line_cut (λ i. line_at c.args.xs.now (line_size * i)) no_line lines_place node_limit c.args.numbers.now

pub loop-k-preserved : goal.loop-k-preserved
loop-k-preserved c =
    let l = c.loop-k in
    let t = c.loop-k-test.true in
    lent_next line_fits line_in line_cut (λ i. line_at c.args.xs.now (line_size * i)) no_line lines_place node_limit c.args.numbers.now l.k (lines_place + l.k) l.fit _ l.numbers c.line_number.result l.invariant
    (omega (arith, t, c.requires.0)) (omega arith) (omega (arith, t, l.auto.numbers, c.requires.0, c.requires.2)) c.line_fits-fit.ensures c.line_number.ensures
