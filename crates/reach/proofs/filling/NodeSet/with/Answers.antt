-- `with` meets its contract: the node is put into its word, which has room for its bit. Assumes nothing.
use Prim.Native.Nat.{ℕ, ◌^◌, ◌%◌, ◌*◌, ◌-◌, ◌<◌}
use Rattle.aldlf.specs.Constants.{word_bits}
use Rattle.reach.proofs.Tests.{with_low, with_high}
use Rattle.reach.specs.Tests.{With}
use lib.Bits.{bit_or}
use lib.Pow.{pow-lt}
use mathlib.Core.Path.{◌≡◌, ap, sym, subst, ◌∙◌}
use native.Mathlib.Nat.{mod-eq_of_lt, one-mul}
use native.Mathlib.Omega.{arith}
use Rattle.reach.proofs.filling.NodeSet.with.Goals as goal

bit_of_word : (k : ℕ) → k < word_bits → 1 * 2 ^ k % 2 ^ word_bits ≡ 2 ^ k
bit_of_word k l = ap (λ (n : ℕ). n % 2 ^ word_bits) (one-mul (2 ^ k)) ∙ mod-eq_of_lt (pow-lt l)

pub returns-then-k-lt-WORD_BITS : goal.returns-then-k-lt-WORD_BITS
returns-then-k-lt-WORD_BITS c =
    let set = c.args.self in
    let k = c.args.node.0 in
    let low = c.if-k-lt-WORD_BITS.true in
    subst (λ (z : ℕ). With set k (record { low = bit_or set.low z; high = set.high })) (sym (bit_of_word k low)) (with_low set k low)

pub returns-else-k-lt-WORD_BITS : goal.returns-else-k-lt-WORD_BITS
returns-else-k-lt-WORD_BITS c =
    let set = c.args.self in
    let k = c.args.node.0 in
    let high = c.if-k-lt-WORD_BITS.false in
    subst (λ (z : ℕ). With set k (record { low = set.low; high = bit_or set.high z })) (sym (bit_of_word (k - word_bits) (omega arith))) (with_high set k high c.requires)
