-- no_lines_from: the or of the places passed.
use Prim.Native.Nat.{◌*◌, ◌+◌}
use Rattle.crossing.proofs.Rest.{Joined}
use Rattle.crossing.specs.Numbers.{line_size}
use Rattle.crossing.proofs.lending.no_lines_from.Given as goal

abbrev pub invariant-loop-x : goal.invariant-loop-x
invariant-loop-x l = Joined l.fn.xs (line_size * l.fn.n) (line_size * l.fn.n + l.x-index) l.rest
