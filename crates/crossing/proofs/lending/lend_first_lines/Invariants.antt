-- lend_first_lines: those passed stand in their places, and it is known whether they fit.
use Prim.Native.Nat.{◌*◌}
use Rattle.aldlf.specs.Constants.{node_limit}
use Rattle.aldlf.specs.Sheet.{no_line}
use Rattle.crossing.proofs.Lent.{SoFar}
use Rattle.crossing.specs.Numbers.{line_size, line_at, line_fits}
use Rattle.crossing.specs.Steps.{line_cut}
use Rattle.packing.specs.Numbers.{lines_place, line_in}
use Rattle.crossing.proofs.lending.lend_first_lines.Given as goal

abbrev pub invariant-loop-k : goal.invariant-loop-k
invariant-loop-k l = SoFar line_fits line_in line_cut (λ i. line_at l.xs (line_size * i)) no_line lines_place node_limit l.k l.fit l.initial.numbers l.numbers
