-- read_digits meets its contract: the digits passed make v, and those left, after v, always make the field's number. Assumes nothing.
use Rattle.std.proofs.Common.{rules}
use Rattle.std.proofs.Common.{◌≤◌}
use lib.ListN.{length, get_or}
use mathlib.Core.Path.{◌≡◌, sym, ◌∙◌}
use mathlib.Core.Bool.{true}
use native.Mathlib.Omega.{arith}
use Rattle.text.specs.Text.{all_digits}
use Rattle.text.proofs.Digits.{tens_mono, digit_more, digit_le}
use Rattle.text.proofs.Numbers.{number_empty, number_long, number_bad, number_good, digits_bad, digits_on, digits_end, value_on, value_end}
use Rattle.text.proofs.read_digits.Goals as goal
use Rattle.text.proofs.read_digits.Goals.{then-is_empty-via-then-is_empty, then-is_empty-via-else-is_empty+then-most-s}

pub returns-then-is_empty : goal.returns-then-is_empty
returns-then-is_empty c = (
  elim c.then-is_empty.branch [
    | then-is_empty-via-then-is_empty w ↦ sym (number_empty c.args.s.now c.args.most (search rules))
    | then-is_empty-via-else-is_empty+then-most-s w ↦ sym (number_long c.args.s.now c.args.most (omega arith))
  ],
  tt,
)

pub returns-then-not-is_ascii_digit : goal.returns-then-not-is_ascii_digit
returns-then-not-is_ascii_digit c =
    let s = c.args.s.now in
    let l = c.loop-b in
    let bad = digits_bad s l.b-index c.loop-b-test.true (sym c.is_ascii_digit.ensures.value ∙ c.if-not-is_ascii_digit.true) in
    (sym (number_bad s c.args.most (omega arith) (omega arith) (sym l.invariant.digits ∙ bad)), tt)

pub overflow_mul-v : goal.overflow_mul-v
overflow_mul-v c =
    let l = c.loop-b in
    omega (arith, l.invariant.small, tens_mono l.b-index 8 (omega arith))

pub overflow_add-v : goal.overflow_add-v
overflow_add-v c =
    let l = c.loop-b in
    omega (arith, l.invariant.small, tens_mono l.b-index 8 (omega arith))

pub loop-b-preserved : goal.loop-b-preserved
loop-b-preserved c =
    let s = c.args.s.now in
    let l = c.loop-b in
    let h = c.loop-b-test.true in
    let digit = sym c.is_ascii_digit.ensures.value ∙ c.if-not-is_ascii_digit.false in
    record {
      small = digit_more l.v l.b-index c.from.result l.invariant.small (omega (arith, digit_le (get_or s l.b-index 0) digit));
      digits = sym (digits_on s l.b-index h digit) ∙ l.invariant.digits;
      value = rw c.from.ensures (sym (value_on s l.b-index h l.v) ∙ l.invariant.value);
    }

pub returns : goal.returns
returns c =
    let s = c.args.s.now in
    let l = c.loop-b in
    let e = c.loop-b-test.false in
    let some : 1 ≤ length s = search rules in
    let good : all_digits s ≡ true = sym l.invariant.digits ∙ digits_end s l.b-index e in
    (sym (value_end s l.v l.b-index e) ∙ l.invariant.value ∙ sym (number_good s c.args.most some (omega arith) good), omega (arith, l.invariant.small, tens_mono l.b-index c.args.most (omega arith)))
