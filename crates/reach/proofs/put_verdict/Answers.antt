-- `put_verdict` meets its contract: the word has no bit from the node's on, and the sum is the entry's number with it. Assumes nothing.
use Prim.Native.Nat.{ℕ, ◌+◌, ◌*◌, ◌/◌, ◌%◌, ◌^◌, ◌<◌}
use Rattle.aldlf.specs.Constants.{word_bits}
use Rattle.reach.proofs.Paired.{word_room, paired_put}
use Rattle.reach.specs.Marks.{at, paired, verdict_added}
use lib.ListN.{set}
use mathlib.Core.Path.{sym, subst, ap, ◌∙◌}
use native.Mathlib.Omega.{arith}
use Rattle.reach.proofs.put_verdict.Goals as goal
use Rattle.reach.proofs.put_verdict.Goals.{After-word_of-place}

pub with_verdict-requires : goal.with_verdict-requires
with_verdict-requires c =
    let k = c.args.node.0 in
    let W = c.args.words.now in
    let place = sym c.word_of-place.ensures in (
      omega arith,
      subst (λ (p : ℕ). at W p < 2 ^ (k % word_bits)) place
          (word_room W c.args.entry k c.requires.1 c.requires.0 c.requires.2 (omega (arith, c.type_inv.words (2 * c.args.entry + k / word_bits)))),
    )

pub returns : goal.returns
returns c =
    let k = c.args.node.0 in
    let W = c.args.words.now in
    let e = c.args.entry in
    ap paired (ap (λ (v : ℕ). set W c.word_of-place.result v) c.with_verdict.ensures
    ∙ ap (λ (p : ℕ). set W p (verdict_added (at W p) (k % word_bits) c.args.on)) c.word_of-place.ensures)
    ∙ paired_put W e k c.requires.1 c.requires.0 c.requires.2 c.args.on (omega (arith, (goal.at.returns c).After-word_of-place.type_inv.words (2 * e + k / word_bits)))
