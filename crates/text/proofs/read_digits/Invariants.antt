-- the digits passed make v, and those left, after v, always make the field's number
use Prim.Native.Nat.{◌^◌, ◌<◌}
use mathlib.Core.Path.{◌≡◌}
use lib.ListN.{drop}
use Rattle.text.specs.Text.{all_digits, value_of}
use Rattle.text.proofs.read_digits.Given as goal

abbrev pub invariant-loop-b : goal.invariant-loop-b
invariant-loop-b l = record {
  small : l.v < 10 ^ l.b-index;
  digits : all_digits (drop l.b-index l.s) ≡ all_digits l.s;
  value : value_of l.v (drop l.b-index l.s) ≡ value_of 0 l.s;
}
